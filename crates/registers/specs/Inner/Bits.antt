-- One bit more.
-- Assumes nothing.
use Rattle.std.specs.Prelude.{ℕ, Bool, ◌||◌, eqb}

-- Numbers with one more.
abbrev pub with_one : (ℕ → Bool) → ℕ → ℕ → Bool
with_one p i j = eqb j i || p j
