-- Results written to the components of a mask.
-- Assumes nothing.
use Rattle.destinations.specs.Destinations.{if_masked, masked}
use Rattle.words.specs.Word.{is_set}
use Prim.Native.Nat.{◌+◌, ◌<◌, ◌≤◌, ◌%◌, suc, zero, ℕ}
use mathlib.Core.Path.{◌∙◌, ◌≡◌, ap, sym}
use mathlib.Core.Bool.{false}
use mathlib.Core.List.{List}
use native.Mathlib.Nat.{div-eq_of_lt, lt_of_lt_of_le}
use lib.Dec.{eqb}
use lib.Pow.{pow_mono}
use native.Mathlib.Numerals.{add-one}

-- A mask is a byte: it has no component from 8 on.
pub no_component : (mask i : ℕ) → mask < 256 → 8 ≤ i → false ≡ is_set mask i
no_component mask i b h = sym (ap (λ (n : ℕ). eqb (n % 2) 1) (div-eq_of_lt (lt_of_lt_of_le b (pow_mono h))))

-- The components of a mask, one after the other: after those below i.
module _ (mask : ℕ) (put : ℕ → List ℕ → List ℕ) (l : List ℕ) where
  abbrev pub masked_to : ℕ → List ℕ
  masked_to zero = l
  masked_to (suc i) = if_masked mask i put (masked_to i)

  pub masked_more : (i : ℕ) (m n : List ℕ) → m ≡ masked_to i → n ≡ if_masked mask i put m → n ≡ masked_to (i + 1)
  masked_more i m n em en = rw (add-one i) (en ∙ ap (if_masked mask i put) em)

  pub masked_all : (i : ℕ) (m : List ℕ) → m ≡ masked_to i → i ≡ 4 → m ≡ masked mask put l
  unfolding masked
  masked_all i m em all = em ∙ ap masked_to all
