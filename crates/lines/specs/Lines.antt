-- The line of a record: "the kind, then its fields in file order, all decimal, no leading zeros, single spaces" (document 02, W1).
-- Assumes nothing.
use Rattle.std.specs.Prelude.{ℕ, ◌+◌, List, [], ◌∷◌, get_or}
use Rattle.format.specs.Kinds.{form_of, widths}
use Rattle.format.specs.Fields.{number_at}
use Rattle.text.specs.Parts.{line}

-- The numbers of fields of these widths, which stand one after another from place p on.
unfoldable pub numbers_at : List ℕ → ℕ → List ℕ → List ℕ
numbers_at file p [] = []
numbers_at file p (w ∷ ws) = number_at file p w ∷ numbers_at file (p + w) ws

-- "the kind, then its fields in file order"
unfoldable pub record_line : List ℕ → ℕ → List ℕ
record_line file at = line (get_or file at 0) (numbers_at file (at + 1) (widths (form_of (get_or file at 0))))
