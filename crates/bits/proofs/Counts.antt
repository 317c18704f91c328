-- The counts that the code takes are the definitions': `ones` is POPC's sum of bits, `count_trailing_zeros` the least set place, and
-- `count_leading_zeros` counts down to the greatest.
use Rattle.words.specs.Word.{bit, compl, greatest, imsb, least, lsb, popc, sum, umsb}
use Rattle.words.proofs.Numbers.{below_or_not}
use Rattle.bits.proofs.Bitwise.{bit_above, bit_cases, bit_lt, bit_suc, bit_top, bit_zero, not_bit, sum_front, sum_same}
use Prim.Native.Nat.{◌%◌, ◌+◌, ◌-◌, ◌/◌, ◌<◌, ◌^◌, ◌≤◌, suc, zero, ℕ}
use mathlib.Core.Path.{◌∙◌, ◌≡◌, ap, ap₂, refl, sym}
use mathlib.Core.Logic.{◌⊎◌, inl, inr}
use mathlib.Core.Bool.{Bool, cond, false, not, true}
use native.Mathlib.Omega.{arith}
use native.Mathlib.Numerals.{add-one}
use native.Mathlib.Nat.{lt_irrefl, lt_of_lt_of_le, not-suc-le-zero, pos_of_ne-zero, pow-suc, zero-div, zero-lt-suc}
use borrow.Author.Tests.{eq-eqb}
use lib.Dec.{eqb}
use lib.Pow.{pow_mono, shr_lt}
use lib.Arith.{lt-one}
use lib.Count.{leading_top, count_leading_zeros, ones, ones_step, ones_in, count_trailing_zeros, under}

-- ---- the least and the greatest, by what they are

pub least_none : (n : ℕ) (t : ℕ → Bool) (d : ℕ) → ((j : ℕ) → j < n → t j ≡ false) → least n t d ≡ d
unfolding least
least_none zero t d h = refl
least_none (suc n) t d h = rw (h n (omega arith)) (least_none n t d (λ j l. h j (omega arith)))

pub least_is : (n : ℕ) (t : ℕ → Bool) (d i : ℕ) → i < n → t i ≡ true → ((j : ℕ) → j < i → t j ≡ false) → least n t d ≡ i
unfolding least
least_is zero t d i l y h = absurd (not-suc-le-zero l)
least_is (suc n) t d i l y h = on (below_or_not i n) (λ k. least_is n t (cond (t n) n d) i k y h)
  where
    on : (i < n) ⊎ (n ≤ i) → (i < n → least n t (cond (t n) n d) ≡ i) → least n t (cond (t n) n d) ≡ i
    on (inl k) rest = rest k
    on (inr k) rest =
        let e : i ≡ n = omega arith in
        rw (← e, y) (least_none i t i h)

pub greatest_none : (n : ℕ) (t : ℕ → Bool) (d : ℕ) → ((j : ℕ) → j < n → t j ≡ false) → greatest n t d ≡ d
unfolding greatest
greatest_none zero t d h = refl
greatest_none (suc n) t d h = rw (h n (omega arith)) (greatest_none n t d (λ j l. h j (omega arith)))

pub greatest_is : (n : ℕ) (t : ℕ → Bool) (d i : ℕ) → i < n → t i ≡ true → ((j : ℕ) → i < j → j < n → t j ≡ false) → greatest n t d ≡ i
unfolding greatest
greatest_is zero t d i l y h = absurd (not-suc-le-zero l)
greatest_is (suc n) t d i l y h = on (below_or_not i n) (λ k. greatest_is n t d i k y (λ j b m. h j b (omega arith)))
  where
    on : (i < n) ⊎ (n ≤ i) → (i < n → greatest n t d ≡ i) → cond (t n) n (greatest n t d) ≡ i
    on (inl k) rest = rw (h n k (omega arith)) (rest k)
    on (inr k) rest =
        let e : i ≡ n = omega arith in
        rw (← e, y)

pub greatest_same : (n : ℕ) (t u : ℕ → Bool) (d : ℕ) → ((i : ℕ) → i < n → t i ≡ u i) → greatest n t d ≡ greatest n u d
unfolding greatest
greatest_same zero t u d h = refl
greatest_same (suc n) t u d h = rw (h n (omega arith), greatest_same n t u d (λ i l. h i (omega arith)))

-- the test that the definitions make of a place
unset : (a j : ℕ) → bit a j ≡ 0 → eqb (bit a j) 1 ≡ false
unset a j e = ap (λ (b : ℕ). eqb b 1) e

none_set : (a j : ℕ) → a ≡ 0 → eqb (bit a j) 1 ≡ false
none_set a j e = unset a j (ap (λ (n : ℕ). n / 2 ^ j % 2) e ∙ ap (λ (n : ℕ). n % 2) (zero-div (2 ^ j)))

-- ---- POPC

pub popc_is : (w a : ℕ) → a < 2 ^ w → ones a ≡ popc w a
unfolding ones ones_in popc sum
popc_is zero a h = ap ones (lt-one h)
popc_is (suc w) a h =
    let rest : ones (a / 2) ≡ sum w (λ i. bit a (suc i)) =
    popc_is w (a / 2) (shr_lt w 1 (rw add-one h)) ∙ sum_same w (bit (a / 2)) (λ i. bit a (suc i)) (λ i l. sym (bit_suc a i)) in
    ones_step a ∙ ap₂ (λ (x y : ℕ). x + y) (sym (bit_zero a)) rest ∙ sym (sum_front w (bit a))

-- ---- LSB

-- i is the least place of k bits that is set in a
abbrev pub Lowest : ℕ → ℕ → ℕ → Type 0
Lowest k a i = (i < k) × (bit a i ≡ 1) × ((j : ℕ) → j < i → bit a j ≡ 0)

-- in an even number it is one above that of its half
even_below : (a i : ℕ) → a % 2 ≡ 0 → ((j : ℕ) → j < i → bit (a / 2) j ≡ 0) → (j : ℕ) → j < suc i → bit a j ≡ 0
even_below a i e h zero l = bit_zero a ∙ e
even_below a i e h (suc j) l = bit_suc a j ∙ h j (omega arith)

pub lowest_set : (k a : ℕ) → zero < a → a < 2 ^ k → Lowest k a (count_trailing_zeros k a)
unfolding count_trailing_zeros
lowest_set zero a p h = absurd (lt_irrefl 0 (rw (lt-one h) at p))
lowest_set (suc k) a p h = on (a % 2) refl (λ q. lowest_set k (a / 2) q (shr_lt k 1 (rw add-one h)))
  where
    on : (d : ℕ) → a % 2 ≡ d → (zero < a / 2 → Lowest k (a / 2) (count_trailing_zeros k (a / 2)))
        → Lowest (suc k) a (under (a % 2) (count_trailing_zeros k (a / 2)))
    on zero e rest =
        let s = rest (omega arith) in
        rw e (omega (arith, s.0), bit_suc a (count_trailing_zeros k (a / 2)) ∙ s.1, even_below a (count_trailing_zeros k (a / 2)) e s.2)
    on (suc d) e rest = rw e (zero-lt-suc k, bit_zero a ∙ (omega arith), λ j l. absurd (not-suc-le-zero l))

pub lsb_none : (w a : ℕ) → a ≡ 0 → 2 ^ w - 1 ≡ lsb w a
unfolding lsb
lsb_none w a e = sym (least_none w _ (2 ^ w - 1) (λ j l. none_set a j e))

pub lsb_is : (w a : ℕ) → (a ≡ 0 → ⊥) → a < 2 ^ w → count_trailing_zeros w a ≡ lsb w a
unfolding lsb
lsb_is w a n h =
    let s = lowest_set w a (pos_of_ne-zero n) h in
    sym (least_is w _ (2 ^ w - 1) (count_trailing_zeros w a) s.0 (eq-eqb _ 1 s.1) (λ j l. unset a j (s.2 j l)))

-- ---- UMSB

pub umsb_none : (w a : ℕ) → a ≡ 0 → 2 ^ w - 1 ≡ umsb w a
unfolding umsb
umsb_none w a e = sym (greatest_none w _ (2 ^ w - 1) (λ j l. none_set a j e))

-- a number above 0 has fewer than w leading zeros
pub leading_fits : (w a : ℕ) → (a ≡ 0 → ⊥) → a < 2 ^ w → count_leading_zeros w a ≤ w - 1
leading_fits w a n h = let t = leading_top w a (pos_of_ne-zero n) h in omega (arith, t.1)

pub umsb_is : (w a : ℕ) → (a ≡ 0 → ⊥) → a < 2 ^ w → w - 1 - count_leading_zeros w a ≡ umsb w a
unfolding umsb
umsb_is w a n h =
    let t = leading_top w a (pos_of_ne-zero n) h in
    let e : w - 1 - count_leading_zeros w a ≡ t.0 = omega (arith, t.1) in
    let set = eq-eqb (bit a t.0) 1 (bit_top a t.0 t.2 t.3) in
    e ∙ sym (greatest_is w _ (2 ^ w - 1) t.0 (omega (arith, t.1)) set
    (λ j b l. unset a j (bit_above a j (lt_of_lt_of_le t.3 (pow_mono b)))))

-- ---- IMSB: a bit that differs from the sign bit is set in the word, or in its complement

module _ (w : ℕ) (halves : 2 ^ w ≡ 2 ^ (w - 1) + 2 ^ (w - 1)) (a : ℕ) (l : a < 2 ^ w) where
  differs_low : (i : ℕ) → a < 2 ^ (w - 1) → not (eqb (bit a i) (bit a (w - 1))) ≡ eqb (bit a i) 1
  differs_low i h =
      ap (λ (s : ℕ). not (eqb (bit a i) s)) (bit_above a (w - 1) h)
      ∙ bit_cases (λ b. not (eqb b 0) ≡ eqb b 1) refl refl (bit a i) (bit_lt a i)

  differs_high : (i : ℕ) → i < w → 2 ^ (w - 1) ≤ a → not (eqb (bit a i) (bit a (w - 1))) ≡ eqb (bit (compl w a) i) 1
  differs_high i k h =
      ap (λ (s : ℕ). not (eqb (bit a i) s)) (bit_top a (w - 1) h (omega (arith, pow-suc 2 (w - 1))))
      ∙ bit_cases (λ b. not (eqb b 1) ≡ eqb (1 - b) 1) refl refl (bit a i) (bit_lt a i)
      ∙ ap (λ (b : ℕ). eqb b 1) (sym (not_bit w a i l k))

  pub imsb_low : (r : ℕ) → r ≡ umsb w a → a < 2 ^ (w - 1) → r ≡ imsb w a
  unfolding umsb imsb
  imsb_low r e h = e ∙ sym (greatest_same w _ _ (2 ^ w - 1) (λ i k. differs_low i h))

  pub imsb_high : (r : ℕ) → r ≡ umsb w (compl w a) → 2 ^ (w - 1) ≤ a → r ≡ imsb w a
  unfolding umsb imsb
  imsb_high r e h = e ∙ sym (greatest_same w _ _ (2 ^ w - 1) (λ i k. differs_high i k h))
