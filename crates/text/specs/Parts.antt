-- Lines of numbers, and the parts of a text between its separators.
-- Assumes nothing.
use Rattle.std.specs.Prelude.{ℕ, suc, Bool, cond, ◌||◌, List, [], ◌∷◌, ◌++◌, eqb, ltb}
use Rattle.std.specs.Str.{bytes_eq}
use Rattle.text.specs.Decimal.{decimal}

abbrev pub space : ℕ
space = 32

abbrev pub line_feed : ℕ
line_feed = 10

-- Numbers, each with a space before it.
unfoldable pub spaced : List ℕ → List ℕ
spaced [] = []
spaced (n ∷ ns) = space ∷ (decimal n ++ spaced ns)

-- A number and those after it, with "single spaces", without the line feed.
abbrev pub line : ℕ → List ℕ → List ℕ
line n ns = decimal n ++ spaced ns

-- One byte more at the front of the first part.
abbrev pub longer : ℕ → List (List ℕ) → List (List ℕ)
longer b [] = []
longer b (p ∷ ps) = (b ∷ p) ∷ ps

-- The parts of a text between its separators, one more than there are separators.
unfoldable pub split : ℕ → List ℕ → List (List ℕ)
split c [] = [] ∷ []
split c (b ∷ bs) = cond (eqb b c) ([] ∷ split c bs) (longer b (split c bs))

-- The first part.
abbrev pub first : List (List ℕ) → List ℕ
first [] = []
first (p ∷ ps) = p

-- How far a text goes up to its last separator, that among it: 0 where it has none.
unfoldable pub ended_length : ℕ → List ℕ → ℕ
ended_length c [] = 0
ended_length c (b ∷ bs) = cond (eqb b c || ltb 0 (ended_length c bs)) (suc (ended_length c bs)) 0

-- Whether two texts are the same.
abbrev pub same : List ℕ → List ℕ → Bool
same = bytes_eq
