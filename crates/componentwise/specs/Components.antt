-- Sources as they are handed over, and the results that are made of them word by word.
-- Assumes nothing.
use Rattle.std.specs.Prelude.{ℕ, List, [], get_or}
use Rattle.results.specs.Arithmetic.{result_word}
use Rattle.destinations.specs.Destinations.{components}

-- Component i of source j.
abbrev pub source_word : List (List ℕ) → ℕ → ℕ → ℕ
source_word sources j i = get_or (get_or sources j []) i 0

unfoldable pub result_words : ℕ → List (List ℕ) → List ℕ
result_words k sources = components (λ i. result_word k (source_word sources 0 i) (source_word sources 1 i) (source_word sources 2 i) (source_word sources 3 i))
