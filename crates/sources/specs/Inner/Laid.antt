-- Words laid into the bank.
-- Assumes nothing.
use Rattle.std.specs.Prelude.{ℕ, List, length}
use Rattle.std.proofs.Math.Seq.{paste}

-- Words copied into a list, from a place on.
abbrev pub laid : List ℕ → ℕ → List ℕ → List ℕ
laid l from words = paste l from words (length words)
