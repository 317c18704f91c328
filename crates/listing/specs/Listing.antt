-- The listing of a file: "One line per record: the kind, then its fields in file order, all decimal, no leading zeros, single
-- spaces, a line feed after each." (document 02, W1)
-- Assumes nothing.
use Rattle.std.specs.Prelude.{ℕ, zero, suc, ◌+◌, cond, List, [], ◌∷◌, ◌++◌, eqb, length}
use Rattle.format.specs.Records.{size_at}
use Rattle.text.specs.Parts.{line_feed}
use Rattle.lines.specs.Lines.{record_line}

-- The lines of the records from a place on, at most n of them.
unfoldable pub lines_from : ℕ → List ℕ → ℕ → List ℕ
lines_from zero file at = []
lines_from (suc n) file at =
    cond (eqb (size_at file at) 0) [] (record_line file at ++ (line_feed ∷ lines_from n file (at + size_at file at)))

-- A file has at most as many records as bytes.
unfoldable pub listing_of : List ℕ → List ℕ
listing_of file = lines_from (length file) file 0
