-- What printing and reading answer and leave in the lent output (document 02, W1).
-- Assumes nothing.
use Rattle.std.specs.Prelude.{ℕ, List}
use Rattle.format.specs.Refusals.{malformed_line}
use Rattle.checker.specs.Check.{Outcome, accepted, refused, check_of}
use Rattle.text.specs.Output.{Written, refusal, written, delivered}
use Rattle.listing.specs.Listing.{listing_of}
use Rattle.listing.specs.Reading.{Reading, spelled, malformed, bytes_of}

-- "the program's own, then 31": a text is delivered where the program is accepted.
abbrev pub delivered_if : Outcome → List ℕ → List ℕ → Written
delivered_if (refused number place) text output = written (refusal number place) output
delivered_if (accepted s) text output = delivered text output

-- "in printing, the program's own, then 31"
unfoldable pub print_of : List ℕ → List ℕ → Written
print_of file output = delivered_if (check_of file) (listing_of file) output

-- "in reading, 30 malformed line .., then the read program's own, then 31 output short"
abbrev pub read_as : Reading → List ℕ → Written
read_as (malformed at) output = written (refusal malformed_line at) output
read_as (spelled file) output = delivered_if (check_of file) file output

unfoldable pub read_of : List ℕ → List ℕ → Written
read_of text output = read_as (bytes_of text) output
