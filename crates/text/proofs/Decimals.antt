-- The digits of a number, without the bound on their count: a digit alone, or the last one after those of the tenth part.
-- Assumes nothing.
use mathlib.Core.Path.{◌≡◌, refl, sym, ◌∙◌}
use mathlib.Core.Bool.{Bool, true, false, cond}
use mathlib.Core.List.{List, [], ◌∷◌, ◌++◌}
use Prim.Native.Nat.{ℕ, zero, suc, ◌+◌, ◌-◌, ◌*◌, ◌/◌, ◌%◌, ◌^◌, ◌≤◌, ◌<◌}
use native.Mathlib.Omega.{arith}
use native.Mathlib.Nat.{add-zero, mod-eq_of_lt, pow-succ', one-le-pow}
use native.Mathlib.Numerals.{add-one}
use lib.Dec.{ltb}
use lib.ListN.{length, set, take, length-append}
use lib.Seq.{sets, take-length}
use borrow.Author.Tests.{ltb-true, ltb-false, lt-ltb, le-ltb}
use Rattle.text.specs.Decimal.{digit, digits_within, decimal}
use Rattle.text.proofs.Stores.{sets_snoc, sets_set, sets_out}

-- Any bound above the number gives the same digits.
within_same : (k m n : ℕ) → n < k → n < m → digits_within k n ≡ digits_within m n
unfolding digits_within
within_same zero m n h g = absurd (omega arith)
within_same (suc k) zero n h g = absurd (omega arith)
within_same (suc k) (suc m) n h g = on (ltb n 10) refl (λ l. within_same k m (n / 10) (omega arith) (omega arith))
  where
    on : (t : Bool)
        → ltb n 10 ≡ t
        → (10 ≤ n → digits_within k (n / 10) ≡ digits_within m (n / 10))
        → cond t (digit n ∷ []) (digits_within k (n / 10) ++ (digit (n % 10) ∷ []))
        ≡ cond t (digit n ∷ []) (digits_within m (n / 10) ++ (digit (n % 10) ∷ []))
    on true e ih = refl
    on false e ih = rw (ih (ltb-false n 10 e))

pub decimal_small : (n : ℕ) → n < 10 → decimal n ≡ digit n ∷ []
unfolding decimal digits_within
decimal_small n h = rw (lt-ltb n 10 h)

pub decimal_large : (n : ℕ) → 10 ≤ n → decimal n ≡ decimal (n / 10) ++ (digit (n % 10) ∷ [])
unfolding decimal digits_within
decimal_large n h = rw (le-ltb n 10 h, within_same n (suc (n / 10)) (n / 10) (omega arith) (omega arith))

-- ---- How many digits: by the powers of ten that a number lies between

length_small : (n : ℕ) → n < 10 → length (decimal n) ≡ 1
length_small n h = rw (decimal_small n h)

length_large : (n : ℕ) → 10 ≤ n → length (decimal n) ≡ suc (length (decimal (n / 10)))
length_large n h =
    let last : List ℕ = digit (n % 10) ∷ [] in
    rw (decimal_large n h, length-append (decimal (n / 10)) last) (add-one (length (decimal (n / 10))))

pub below_power : (k n : ℕ) → n < 10 ^ suc k → length (decimal n) ≤ suc k
below_power zero n h = omega (arith, length_small n h)
below_power (suc k) n h =
    let tens : 10 ^ suc (suc k) ≡ 10 * 10 ^ suc k = pow-succ' 10 (suc k) in
    on (ltb n 10) refl (below_power k (n / 10) (omega (arith, tens)))
  where
    on : (t : Bool) → ltb n 10 ≡ t → length (decimal (n / 10)) ≤ suc k → length (decimal n) ≤ suc (suc k)
    on true e ih = omega (arith, length_small n (ltb-true n 10 e))
    on false e ih = omega (arith, length_large n (ltb-false n 10 e))

some_digit : (n : ℕ) → 1 ≤ length (decimal n)
some_digit n = on (ltb n 10) refl
  where
    on : (t : Bool) → ltb n 10 ≡ t → 1 ≤ length (decimal n)
    on true e = omega (arith, length_small n (ltb-true n 10 e))
    on false e = omega (arith, length_large n (ltb-false n 10 e))

above_power : (k n : ℕ) → 10 ^ k ≤ n → suc k ≤ length (decimal n)
above_power zero n h = some_digit n
above_power (suc k) n h =
    let tens : 10 ^ suc k ≡ 10 * 10 ^ k = pow-succ' 10 k in
    let some : 1 ≤ 10 ^ k = one-le-pow k 10 (omega arith) in
    omega (arith, length_large n (omega (arith, tens)), above_power k (n / 10) (omega (arith, tens)))

pub count_one : (n : ℕ) → n < 10 → 1 ≡ length (decimal n)
count_one n h = sym (length_small n h)

pub count_between : (k n : ℕ) → 10 ^ k ≤ n → n < 10 * 10 ^ k → k + 1 ≡ length (decimal n)
count_between k n a b =
    let tens : 10 ^ suc k ≡ 10 * 10 ^ k = pow-succ' 10 k in
    omega (arith, above_power k n a, below_power k n (omega (arith, tens)))

-- A number of 32 bits has at most ten digits.
pub decimal_short : (n : ℕ) → n < 2 ^ 32 → length (decimal n) ≤ 10
decimal_short n h = below_power 9 n (omega arith)

pub count_few : (n r : ℕ) → n < 2 ^ 32 → r ≡ length (decimal n) → r ≤ 10
count_few n r h e = omega (arith, decimal_short n h)

-- ---- Putting the digits, the last one first: with the k that are left to put the output is the whole

module _ (rest k : ℕ) (e : 0 < k → k ≡ length (decimal rest)) where
  pub digits_fewer : 0 < k - 1 → k - 1 ≡ length (decimal (rest / 10))
  digits_fewer h = on (ltb rest 10) refl
    where
      on : (t : Bool) → ltb rest 10 ≡ t → k - 1 ≡ length (decimal (rest / 10))
      on true l = absurd (omega (arith, e (omega arith), length_small rest (ltb-true rest 10 l)))
      on false l = omega (arith, e (omega arith), length_large rest (ltb-false rest 10 l))

  pub digits_more : (at : ℕ) (l whole m : List ℕ) → sets l at (take k (decimal rest)) ≡ whole → 0 < k → m ≡ set l (at + (k - 1)) (digit (rest % 10))
      → sets m at (take (k - 1) (decimal (rest / 10))) ≡ whole
  digits_more at l whole m f h p = on (ltb rest 10) refl
    where
      on : (t : Bool) → ltb rest 10 ≡ t → sets m at (take (k - 1) (decimal (rest / 10))) ≡ whole
      on true s =
          let small : rest < 10 = ltb-true rest 10 s in
          let one : k ≡ 1 = omega (arith, e h, length_small rest small) in
          rw (p, one, mod-eq_of_lt small, add-zero at) (rw (one, decimal_small rest small) at f)
      on false s =
          let large : 10 ≤ rest = ltb-false rest 10 s in
          let ds : List ℕ = decimal (rest / 10) in
          let q : k - 1 ≡ length ds = omega (arith, e h, length_large rest large) in
          rw (p, q, take-length ds, sets_set l at (at + length ds) ds (digit (rest % 10)) (omega arith))
          (sym (sets_snoc l at ds (digit (rest % 10))) ∙ rw (← decimal_large rest large) (rw (e h, take-length (decimal rest)) at f))

pub digits_start : (n k at : ℕ) (l : List ℕ) → k ≡ length (decimal n) → sets l at (take k (decimal n)) ≡ sets l at (decimal n)
digits_start n k at l e = rw (e, take-length (decimal n))

pub digits_end : (n k at : ℕ) (l whole : List ℕ) → sets l at (take k (decimal n)) ≡ whole → k ≤ 0 → l ≡ whole
digits_end n k at l whole f h =
    let z : k ≡ 0 = omega arith in
    rw z at f

pub digits_none : (n at : ℕ) (l : List ℕ) → length l ≤ at → l ≡ sets l at (decimal n)
digits_none n at l h = sym (sets_out l at (decimal n) h)
