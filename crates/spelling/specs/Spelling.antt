-- The record that a line gives. A line is well formed exactly if it is the line of the record that its numbers give, of a known
-- kind: so a leading zero, a second space, a number too large for its field or one number too many make another line.
-- Assumes nothing.
use Rattle.std.specs.Prelude.{ℕ, ◌%◌, Bool, ◌&&◌, List, [], ◌∷◌, ◌++◌, map, get_or}
use Rattle.format.specs.Kinds.{form_of, is_known, widths}
use Rattle.format.specs.Fields.{little_endian}
use Rattle.text.specs.Decimal.{value_of}
use Rattle.text.specs.Parts.{space, split, same}
use Rattle.lines.specs.Lines.{record_line}

-- The numbers of a line.
abbrev pub numbers_in : List ℕ → List ℕ
numbers_in l = map value_of (split space l)

-- The bytes of fields of these widths, each from its number, or from 0 where there is none.
unfoldable pub field_bytes : List ℕ → List ℕ → List ℕ
field_bytes [] ns = []
field_bytes (w ∷ ws) [] = little_endian w 0 ++ field_bytes ws []
field_bytes (w ∷ ws) (n ∷ ns) = little_endian w n ++ field_bytes ws ns

-- The record that a line's numbers give, its kind byte the first of them.
unfoldable pub kind_in : List ℕ → ℕ
kind_in l = get_or (numbers_in l) 0 0 % 256

unfoldable pub line_record : List ℕ → List ℕ
line_record l = field_bytes (1 ∷ widths (form_of (kind_in l))) (numbers_in l)

-- Whether a line is that of a record, and the record of a known kind.
unfoldable pub is_line_of : List ℕ → List ℕ → Bool
is_line_of r l = is_known (get_or r 0 0) && same (record_line r 0) l

abbrev pub well_formed : List ℕ → Bool
well_formed l = is_line_of (line_record l) l
