-- The file that a listing gives, line by line (document 02, W1).
-- Assumes nothing.
use Rattle.std.specs.Prelude.{ℕ, ◌+◌, cond, List, [], ◌∷◌, ◌++◌, length}
use Rattle.text.specs.Parts.{line_feed, split}
use Rattle.spelling.specs.Spelling.{line_record, well_formed}

-- What a text comes to: the bytes of a file, or a malformed line whose first byte stands at a place.
pub data Reading : Type 0 where
  spelled : List ℕ → Reading
  malformed : ℕ → Reading

-- With the bytes of a record before it.
abbrev pub joined : List ℕ → Reading → Reading
joined r (spelled file) = spelled (r ++ file)
joined r (malformed at) = malformed at

-- What follows the last line feed: nothing, or a line that has none.
abbrev pub after_last : ℕ → List ℕ → Reading
after_last at [] = spelled []
after_last at (b ∷ l) = malformed at

-- The lines of a text, the first of which stands at a place.
unfoldable pub read_lines : ℕ → List (List ℕ) → Reading
read_lines at [] = spelled []
read_lines at (l ∷ []) = after_last at l
read_lines at (l ∷ m ∷ ls) = cond (well_formed l) (joined (line_record l) (read_lines (at + length l + 1) (m ∷ ls))) (malformed at)

unfoldable pub bytes_of : List ℕ → Reading
bytes_of text = read_lines 0 (split line_feed text)
