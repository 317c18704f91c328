-- Component i of a result on words.
use Rattle.destinations.specs.Destinations.{components}
use Rattle.results.specs.Arithmetic.{result_word}
use Rattle.componentwise.specs.Components.{source_word, result_words}
use Rattle.std.proofs.Common.{◌≡◌, ℕ, zero, suc, ◌<◌, List, arith, get_or, refl}

pub result_at : (k : ℕ) (o : List (List ℕ)) (i : ℕ) → i < 4
    → get_or (result_words k o) i 0 ≡ result_word k (source_word o 0 i) (source_word o 1 i) (source_word o 2 i) (source_word o 3 i)
unfolding result_words components
result_at k o zero h = refl
result_at k o (suc zero) h = refl
result_at k o (suc (suc zero)) h = refl
result_at k o (suc (suc (suc zero))) h = refl
result_at k o (suc (suc (suc (suc i)))) h = absurd (omega arith)
