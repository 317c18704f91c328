-- What the functions that read a listing promise each other of an array that holds the file so far.
-- Assumes nothing.
use Rattle.std.specs.Prelude.{ℕ, ◌+◌, ◌≤◌, ◌<◌, ◌≡◌, cond, List, ltb, length, take, Result, Ok, Err}
use Rattle.format.specs.Records.{longest}
use Rattle.listing.specs.Reading.{Reading, spelled, malformed}
use Rattle.listing.specs.declared.reading.MalformedLine.{MalformedLine}

-- A count and so many more; past the longest file it stays.
abbrev pub counted_on : ℕ → ℕ → ℕ
counted_on count more = cond (ltb longest count) count (count + more)

-- An array holds a file and its length, or of a longer file than it holds a count that is longer too.
pub record Holds (file : List ℕ) (count : ℕ) (array : List ℕ) : Type 0 where
  pub counted : length file ≤ longest → count ≡ length file
  pub held : length file ≤ longest → take (length file) array ≡ file
  pub past : longest < length file → longest < count

-- What `spell` answers, with the array that it is lent, of a text that comes to a reading.
abbrev pub Spelt : Result ℕ MalformedLine → List ℕ → Reading → Type 0
Spelt (Ok count) array reading = (file : List ℕ) × (reading ≡ spelled file) × Holds file count array
Spelt (Err line) array reading = reading ≡ malformed line.place
