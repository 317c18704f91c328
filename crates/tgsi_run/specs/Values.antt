-- Words as bytes.
-- Assumes nothing.
use Rattle.std.specs.Prelude.{ℕ, zero, suc, ◌+◌, List, [], ◌∷◌}
use Rattle.format.specs.Fields.{word32}

-- n words that stand in the bytes one after another, from a place on.
unfoldable pub words_in : List ℕ → ℕ → ℕ → List ℕ
words_in bytes at zero = []
words_in bytes at (suc n) = word32 bytes at ∷ words_in bytes (at + 4) n
