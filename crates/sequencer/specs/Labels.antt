-- What comes next after an instruction of a file, `place n` being the place of instruction n.
-- Assumes nothing.
use Rattle.std.specs.Prelude.{ℕ, List, get_or}
use Rattle.format.specs.Fields.{case_word}
use Rattle.blocks.specs.Control.{Op, op_of}

-- The control instruction that instruction n is, and its word where it is a CASE.
abbrev pub ops_of : List ℕ → (ℕ → ℕ) → ℕ → Op
ops_of file place n = op_of (get_or file (place n) 0)

abbrev pub cases_of : List ℕ → List ℕ → (ℕ → ℕ) → ℕ → ℕ
cases_of immediates file place n = case_word immediates file (place n)
