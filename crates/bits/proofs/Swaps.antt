-- One stage of the reversal: each of its bits is the source's bit k places above or k places below.
use Rattle.words.specs.Word.{bit, compl}
use Rattle.words.proofs.Numbers.{below_or_not}
use Rattle.bits.specs.Inner.Swaps.{origin, picked, swapped}
use Rattle.bits.proofs.Bitwise.{and_bit, and_up, bit_above, bit_cases, bit_lt, by_bits, down_bit, made_bit, made_of, not_bit, or_bit, sum_same, up_bit, up_from, up_low}
use Prim.Native.Nat.{◌%◌, ◌*◌, ◌+◌, ◌-◌, ◌/◌, ◌<◌, ◌^◌, ◌≤◌, max, min, ℕ}
use mathlib.Core.Path.{◌∙◌, ◌≡◌, ap, ap₂, refl, sym}
use mathlib.Core.Logic.{⊎_elim}
use mathlib.Core.Bool.{cond}
use native.Mathlib.Omega.{arith}
use native.Mathlib.Nat.{lt_of_le_of_lt, mod-eq_of_lt, mul-le-mul_right}
use lib.Dec.{eqb}
use lib.Pow.{ones_sub-lt, pow_mono}
use lib.Bits.{and_le_r, bit_and, bit_or, or_lt}

-- `mask` moved up by k is its complement: every place is one of `mask` or k above one of `mask`, and none is both
module _ (w k mask : ℕ) (others : mask * 2 ^ k ≡ compl w mask) (fits : mask < 2 ^ w) where
  other : (i : ℕ) → i < w → bit (mask * 2 ^ k) i ≡ 1 - bit mask i
  other i h = ap (λ (n : ℕ). bit n i) others ∙ not_bit w mask i fits h

  others_fit : mask * 2 ^ k < 2 ^ w
  others_fit = rw others (ones_sub-lt w mask)

  -- a place that is not in `mask` has one k below it, and a place of `mask` has one k above it
  pub has_under : (i : ℕ) → i < w → bit mask i ≡ 0 → k ≤ i
  has_under i h e = ⊎_elim (λ (l : i < k). absurd (none l)) (λ (l : k ≤ i). l) (below_or_not i k)
    where
      none : i < k → ⊥
      none l = let z = sym (up_low mask k i l) ∙ other i h ∙ ap (λ (b : ℕ). 1 - b) e in omega arith

  pub has_above : (i : ℕ) → bit mask i ≡ 1 → i + k < w
  has_above i e = ⊎_elim (λ (l : i + k < w). l) (λ (l : w ≤ i + k). absurd (none l)) (below_or_not (i + k) w)
    where
      none : w ≤ i + k → ⊥
      none l =
          let z : bit (mask * 2 ^ k) (i + k) ≡ 0 = bit_above (mask * 2 ^ k) (i + k) (omega (arith, others_fit, pow_mono l)) in
          let o = sym e ∙ sym (up_bit mask k i) ∙ z in
          omega arith

  -- the origin, by the mask's bit
  abbrev from : ℕ → ℕ → ℕ
  from i b = cond (eqb b 1) (i + k) (i - k)

  origin_lt : (i : ℕ) → i < w → origin k mask i < w
  origin_lt i h =
      bit_cases (λ b. bit mask i ≡ b → from i b < w) (λ e. omega arith) (has_above i) (bit mask i) (bit_lt mask i) refl

  module _ (a : ℕ) where
    -- what comes down where `mask` has the place, and what goes up where it has not
    chosen : (i : ℕ) → i < w → max (min (bit (a / 2 ^ k) i) (bit mask i)) (min (bit (a * 2 ^ k) i) (1 - bit mask i)) ≡ bit a (origin k mask i)
    chosen i h =
        bit_cases
        (λ b. bit mask i ≡ b → max (min (bit (a / 2 ^ k) i) b) (min (bit (a * 2 ^ k) i) (1 - b)) ≡ bit a (from i b))
        (λ e. by_bits (a / 2 ^ k) (a * 2 ^ k) i (λ d u. max (min d 0) (min u 1) ≡ u) refl refl refl refl ∙ up_from a k i (has_under i h e))
        (λ e. by_bits (a / 2 ^ k) (a * 2 ^ k) i (λ d u. max (min d 1) (min u 0) ≡ d) refl refl refl refl ∙ down_bit a k i)
        (bit mask i) (bit_lt mask i) refl

    up_fits : bit_and a mask * 2 ^ k < 2 ^ w
    up_fits = lt_of_le_of_lt (mul-le-mul_right (2 ^ k) (and_le_r a mask)) others_fit

    -- what comes down and what goes up, put together
    abbrev pub joined : ℕ
    joined = bit_or (bit_and (a / 2 ^ k) mask) (bit_and a mask * 2 ^ k)

    pub joined_bit : (i : ℕ) → i < w → bit joined i ≡ bit a (origin k mask i)
    joined_bit i h =
        or_bit (bit_and (a / 2 ^ k) mask) (bit_and a mask * 2 ^ k) i
        ∙ ap₂ max (and_bit (a / 2 ^ k) mask i)
        (ap (λ (n : ℕ). bit n i) (and_up a mask k) ∙ and_bit (a * 2 ^ k) (mask * 2 ^ k) i ∙ ap (min (bit (a * 2 ^ k) i)) (other i h))
        ∙ chosen i h

    joined_fits : joined < 2 ^ w
    joined_fits = or_lt w (bit_and (a / 2 ^ k) mask) (bit_and a mask * 2 ^ k) (lt_of_le_of_lt (and_le_r (a / 2 ^ k) mask) fits) up_fits

    pub joined_is : (down up : ℕ) → down ≡ bit_and (a / 2 ^ k) mask → up ≡ bit_and a mask * 2 ^ k % 2 ^ w → bit_or down up ≡ swapped w a k mask
    unfolding swapped
    joined_is down up d u =
        ap₂ bit_or d (u ∙ mod-eq_of_lt up_fits) ∙ made_of w joined (λ i. bit a (origin k mask i)) joined_fits joined_bit

  -- where bits had been picked by f, after one stage more they are picked by f of its origins
  pub picked_on : (f : ℕ → ℕ) (a b r : ℕ) → b ≡ picked w a f → r ≡ swapped w b k mask → r ≡ picked w a (λ i. f (origin k mask i))
  unfolding swapped
  picked_on f a b r e s =
      s ∙ sum_same w _ _ (λ i h. ap (λ (c : ℕ). c * 2 ^ i) (ap (λ (n : ℕ). bit n (origin k mask i)) e
      ∙ made_bit (λ j. bit a (f j)) (λ j. bit_lt a (f j)) w (origin k mask i) (origin_lt i h)))
