-- Fields of bits: when one lies outside the word, and the parts that the code puts together.
use Rattle.words.specs.Word.{field, outside, replaced, signed, word}
use Rattle.words.proofs.Signed.{by_sign, signed_high, signed_low, word_negsuc, word_pos}
use Rattle.words.proofs.Numbers.{ltb_same}
use Prim.Native.Nat.{◌%◌, ◌*◌, ◌+◌, ◌-◌, ◌/◌, ◌<◌, ◌^◌, ◌≤◌, suc, zero, ℕ}
use mathlib.Core.Path.{◌∙◌, ◌≡◌, ap, sym}
use mathlib.Core.Bool.{Bool, false, true}
use native.Mathlib.Omega.{arith}
use native.Mathlib.Nat.{add_comm, add-mul, lt_of_lt_of_le, mod-eq_of_lt, mod-lt, mul_assoc, one-mul}
use borrow.Author.Tests.{le-ltb, lt-ltb, ltb-false}
use lib.Dec.{ltb}
use lib.Pow.{pow-add, pow-lt, pow_mono, pow_pos, shr_lt}
use lib.Arith.{digits_lt}

-- ---- outside, over whole numbers, is one test of the two words' sum

-- (`room` is a comparison of numbers: at 32 bits, 32 < 2 ^ 31)
module _ (w : ℕ) (halves : 2 ^ w ≡ 2 ^ (w - 1) + 2 ^ (w - 1)) (room : w < 2 ^ (w - 1)) (o n : ℕ) (lo : o < 2 ^ w) (ln : n < 2 ^ w) where
  pub outside_is : outside w o n ≡ ltb w (o + n)
  unfolding outside
  outside_is =
      by_sign w halves o
      (λ p. by_sign w halves n
      (λ q. simp (signed_low w halves o p, signed_low w halves n q, le-ltb o 0 (omega arith), le-ltb n 0 (omega arith)))
      (λ q. simp (signed_low w halves o p, signed_high w halves n q ln, le-ltb o 0 (omega arith), lt-ltb w (o + n) (omega arith))))
      (λ p. simp (signed_high w halves o p lo, lt-ltb w (o + n) (omega arith)))

  pub outside_offset : w < o → true ≡ outside w o n
  outside_offset h = sym (outside_is ∙ lt-ltb w (o + n) (omega arith))

  pub outside_rest : o ≤ w → ltb (w - o) n ≡ outside w o n
  outside_rest h = ltb_same (w - o) n w (o + n) (λ k. omega arith) (λ k. omega arith) ∙ sym outside_is

  pub inside : (r : Bool) → r ≡ outside w o n → r ≡ false → o + n ≤ w
  inside r e f = ltb-false w (o + n) (sym outside_is ∙ sym e ∙ f)

  pub inside_bits : (r : Bool) → r ≡ outside w o n → r ≡ false → n ≤ w
  inside_bits r e f = omega (arith, inside r e f)

-- ---- the parts

-- 1 shifted by n is 2 ^ n where that fits
pub power_is : (v n : ℕ) → n < v → 1 * 2 ^ n % 2 ^ v ≡ 2 ^ n
power_is v n h = ap (λ (k : ℕ). k % 2 ^ v) (one-mul (2 ^ n)) ∙ mod-eq_of_lt (pow-lt h)

-- a field has the bits that it says
pub cut_lt : (a o n v : ℕ) → v ≡ field a o n → v < 2 ^ n
cut_lt a o n v e = rw e (mod-lt (a / 2 ^ o) (pow_pos n))

-- two numbers put together: the lower one has n bits, and the upper one k
joined_below : (k h l n : ℕ) → h < 2 ^ k → h * 2 ^ n + l % 2 ^ n < 2 ^ (k + n)
joined_below k h l n lh = rw pow-add (digits_lt lh (mod-lt l (pow_pos n)))

-- bits above a field with the field under them, and bits below the field under both
module _ (w a b c o n : ℕ) (l : a < 2 ^ w) (h : o + n ≤ w) where
  module _ (u : ℕ) (eu : u ≡ a / 2 ^ (o + n) * 2 ^ n + b % 2 ^ n) where
    upper_lt : u < 2 ^ (w - o)
    upper_lt =
        let e : w ≡ w - (o + n) + (o + n) = omega arith in
        let k : w - (o + n) + n ≡ w - o = omega arith in
        rw (eu, ← k) (joined_below (w - (o + n)) (a / 2 ^ (o + n)) b n (shr_lt (w - (o + n)) (o + n) (rw (← e) l)))

    pub upper_fits : u < 2 ^ w
    upper_fits = lt_of_lt_of_le upper_lt (pow_mono (omega arith))

    pub inserted_fits : (v : ℕ) → v ≡ u * 2 ^ o + c % 2 ^ o → v < 2 ^ w
    inserted_fits v ev =
        let k : w - o + o ≡ w = omega arith in
        rw (ev, ← k) (joined_below (w - o) u c o upper_lt)

-- both from the base, and the field from the insert
pub inserted_is : (a b o n u v : ℕ) → u ≡ a / 2 ^ (o + n) * 2 ^ n + b % 2 ^ n → v ≡ u * 2 ^ o + a % 2 ^ o
    → v ≡ replaced a b o n
inserted_is a b o n u v eu ev =
    let p : 2 ^ (o + n) ≡ 2 ^ n * 2 ^ o = ap (λ (k : ℕ). 2 ^ k) (add_comm o n) ∙ pow-add 2 n o in
    ev ∙ ap (λ (k : ℕ). k * 2 ^ o + a % 2 ^ o) eu
    ∙ ap (λ (k : ℕ). k + a % 2 ^ o) (add-mul (a / 2 ^ (o + n) * 2 ^ n) (b % 2 ^ n) (2 ^ o))
    ∙ ap (λ (k : ℕ). k + b % 2 ^ n * 2 ^ o + a % 2 ^ o)
    (mul_assoc (a / 2 ^ (o + n)) (2 ^ n) (2 ^ o) ∙ ap (λ (k : ℕ). a / 2 ^ (o + n) * k) (sym p))

-- a field of n bits read as a signed number
pow_halves : (n : ℕ) → zero < n → 2 ^ n ≡ 2 ^ (n - 1) + 2 ^ (n - 1)
pow_halves n h =
    let e : n ≡ n - 1 + 1 = omega arith in
    let p : 2 ^ (n - 1 + 1) ≡ 2 ^ (n - 1) * 2 = pow-add 2 (n - 1) 1 in
    ap (λ (k : ℕ). 2 ^ k) e ∙ p ∙ (omega arith)

module _ (w : ℕ) (halves : 2 ^ w ≡ 2 ^ (w - 1) + 2 ^ (w - 1)) (v n : ℕ) (some : zero < n) (l : n ≤ w) (lv : v < 2 ^ n) where
  pub extended_low : (p : ℕ) → p ≡ 2 ^ (n - 1) → v < p → v ≡ word w (signed n v)
  extended_low p e h =
      sym (ap (word w) (signed_low n (pow_halves n some) v (rw e at h)) ∙ word_pos w halves v (lt_of_lt_of_le lv (pow_mono l)))

  pub extended_high : (p q : ℕ) → p ≡ 2 ^ (n - 1) → q ≡ 2 ^ n → p ≤ v → 2 ^ w - 1 - (q - 1 - v) ≡ word w (signed n v)
  extended_high p q e f h =
      let m : 2 ^ n ≤ 2 ^ w = pow_mono l in
      let k : q - 1 - v ≡ 2 ^ n - suc v = omega arith in
      ap (λ (x : ℕ). 2 ^ w - 1 - x) k
      ∙ sym (ap (word w) (signed_high n (pow_halves n some) v (rw e at h) lv) ∙ word_negsuc w halves (2 ^ n - suc v) (omega arith))
