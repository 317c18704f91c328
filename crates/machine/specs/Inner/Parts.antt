-- What the parts of a step promise: sources that have not been read.
-- Assumes nothing.
use Rattle.std.specs.Prelude.{ℕ, List, [], ◌∷◌}
use Rattle.destinations.specs.Destinations.{zeros}

-- No source has been read yet.
abbrev pub no_sources : List (List ℕ)
no_sources = zeros ∷ zeros ∷ zeros ∷ zeros ∷ []
