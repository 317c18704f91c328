-- Families of instructions: an arm of a match on the kind is the family's table at that kind; and results on pairs of words by halves.
-- Assumes nothing.
use Rattle.results.specs.Arithmetic.{atomic, atomics, count_or, halves, pair, wide, wide_of}
use Prim.Native.Nat.{◌-◌, ℕ}
use mathlib.Core.Path.{◌∙◌, ◌≡◌}
use mathlib.Core.List.{List}
use lib.ListN.{get_or}

-- ---- arms

-- Kind k is n: what is asked is the entry of the family's table, which is no result of a kind again.
pub atomic_at : (n : ℕ) → ((a b : ℕ) → get_or (atomics a b) (n - 0x56) 0 ≡ atomic n a b)
    → (k a b r : ℕ) → k ≡ n → r ≡ get_or (atomics a b) (n - 0x56) 0 → r ≡ atomic k a b
atomic_at n is k a b r h e = rw h (e ∙ is a b)

-- ---- 64-bit values

module _ (k : ℕ) (a b : List ℕ) where
  -- the value of words i and j, whose shift count is word c
  pub half_of : ℕ → ℕ → ℕ → ℕ
  half_of c i j = wide k (pair (get_or a i 0) (get_or a j 0)) (count_or k (get_or b c 0) (pair (get_or b i 0) (get_or b j 0)))

  pub half_is : (c i j p m x v : ℕ) → v ≡ wide k p x → x ≡ count_or k (get_or b c 0) m
      → m ≡ pair (get_or b i 0) (get_or b j 0) → p ≡ pair (get_or a i 0) (get_or a j 0) → v ≡ half_of c i j
  unfolding half_of
  half_is c i j p m x v ev ex em ep = cc

  pub wide_is : (v w : ℕ) (l : List ℕ) → l ≡ halves v w → v ≡ half_of 0 0 1 → w ≡ half_of 1 2 3 → l ≡ wide_of k a b
  unfolding wide_of half_of
  wide_is v w l el ev ew = cc
