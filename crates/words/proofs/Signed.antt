-- Two's complement over the width: a word's signed value and back, its magnitude, its sign and the signed shift.
-- The laws go by the sign, a word in the lower half of the range or in the upper; they are cited as `LAW 32 refl`, and in a function
-- over `Word` at its `bits` with its `halves`.
use Rattle.words.specs.Word.{compl, iabs, neg, signed, slt, ssg, word}
use Rattle.words.proofs.Numbers.{below_or_not}
use Rattle.std.proofs.Common.{◌≡◌, ℕ, zero, suc, ◌+◌, ◌-◌, ◌/◌, ◌%◌, ◌^◌, ◌<◌, ◌≤◌, ℤ, pos, negsuc, neg_ℤ, nat_abs, sym, ap, ◌∙◌, ⊎_elim, mod-eq_of_lt, pos_of_ne-zero, div-le_self, arith, pow_pos, le-ltb, lt-ltb}
use native.Mathlib.Nat.{mod_self, sub-zero, zero-mod}
use lib.Signed.{lt_z, shr_z}
use Rattle.std.specs.Int.{Width, cast_signed, cast_unsigned}
use mir.Val.{bits, hbits}
use Rattle.std.proofs.lemmas.Int.{of_z-to_z}

-- ---- the numbers of the signed types

cast_is : (w : Width) → bits w - 1 ≡ hbits w → (a : ℕ) → a < 2 ^ bits w → cast_signed w a ≡ signed (bits w) a
unfolding signed
cast_is w e a l =
    ⊎_elim (λ (h : a < 2 ^ hbits w). simp (e, lt-ltb a (2 ^ hbits w) h)) (λ (h : 2 ^ hbits w ≤ a). simp (e, le-ltb a (2 ^ hbits w) h, lt-ltb a (2 ^ bits w) l))
    (below_or_not a (2 ^ hbits w))

-- the order of the signed types, whose numbers stand as their bits
pub signed_order : (w : Width) → bits w - 1 ≡ hbits w → (a b : ℕ) (x y : ℤ) → a < 2 ^ bits w → b < 2 ^ bits w → x ≡ cast_signed w a → y ≡ cast_signed w b
    → lt_z (cast_signed w (cast_unsigned w x)) (cast_signed w (cast_unsigned w y)) ≡ slt (bits w) a b
signed_order w e a b x y la lb ex ey =
    rw (ex, ey, of_z-to_z w a la, of_z-to_z w b lb, cast_is w e a la, cast_is w e b lb)

module _ (w : ℕ) (halves : 2 ^ w ≡ 2 ^ (w - 1) + 2 ^ (w - 1)) where
  pub by_sign : {P : Type 0} (a : ℕ) → (a < 2 ^ (w - 1) → P) → (2 ^ (w - 1) ≤ a → P) → P
  by_sign a low high = ⊎_elim low high (below_or_not a (2 ^ (w - 1)))

  -- ---- the signed value of a word, and the word of a whole number

  pub signed_low : (a : ℕ) → a < 2 ^ (w - 1) → signed w a ≡ pos a
  unfolding signed
  signed_low a h = simp (lt-ltb a (2 ^ (w - 1)) h)

  pub signed_high : (a : ℕ) → 2 ^ (w - 1) ≤ a → a < 2 ^ w → signed w a ≡ negsuc (2 ^ w - suc a)
  unfolding signed
  signed_high a h l = simp (le-ltb a (2 ^ (w - 1)) h, lt-ltb a (2 ^ w) l)

  pub word_pos : (n : ℕ) → n < 2 ^ w → word w (pos n) ≡ n
  unfolding word
  word_pos n h = mod-eq_of_lt h

  pub word_negsuc : (n : ℕ) → n < 2 ^ w → word w (negsuc n) ≡ 2 ^ w - 1 - n
  unfolding word
  word_negsuc n h = ap (λ (k : ℕ). 2 ^ w - 1 - k) (mod-eq_of_lt h)

  pub word_minus : (n : ℕ) → n < 2 ^ w → word w (neg_ℤ (pos n)) ≡ neg w n
  unfolding word
  word_minus zero h = zero-mod (2 ^ w) ∙ sym (mod_self (2 ^ w)) ∙ ap (λ (k : ℕ). k % 2 ^ w) (sym (sub-zero (2 ^ w)))
  word_minus (suc n) h =
      word_negsuc n (omega arith) ∙ (omega arith) ∙ sym (mod-eq_of_lt {n = 2 ^ w - suc n} {m = 2 ^ w} (omega arith))

  -- a word is the word of its signed value
  pub word_signed : (a : ℕ) → a < 2 ^ w → word w (signed w a) ≡ a
  word_signed a l =
      by_sign a (λ h. ap (word w) (signed_low a h) ∙ word_pos a l)
      (λ h. ap (word w) (signed_high a h l) ∙ word_negsuc (2 ^ w - suc a) (omega arith) ∙ (omega arith))

  -- ---- the magnitude

  abs_low : (a : ℕ) → a < 2 ^ (w - 1) → nat_abs (signed w a) ≡ a
  abs_low a h = ap nat_abs (signed_low a h)

  abs_high : (a : ℕ) → 2 ^ (w - 1) ≤ a → a < 2 ^ w → nat_abs (signed w a) ≡ 2 ^ w - a
  abs_high a h l = ap nat_abs (signed_high a h l) ∙ (omega arith)

  pub abs_lt : (a : ℕ) → a < 2 ^ w → nat_abs (signed w a) < 2 ^ w
  abs_lt a l =
      by_sign a (λ h. omega (arith, abs_low a h)) (λ h. omega (arith, abs_high a h l, pow_pos (w - 1)))

  pub abs_pos : (a : ℕ) → a < 2 ^ w → (a ≡ 0 → ⊥) → zero < nat_abs (signed w a)
  abs_pos a l n =
      by_sign a (λ h. omega (arith, abs_low a h, n)) (λ h. omega (arith, abs_high a h l))

  -- the magnitude is the word that IABS gives
  pub iabs_is : (a : ℕ) → a < 2 ^ w → iabs w a ≡ nat_abs (signed w a)
  iabs_is a l = word_pos (nat_abs (signed w a)) (abs_lt a l)

  pub iabs_low : (a : ℕ) → a < 2 ^ w → a < 2 ^ (w - 1) → a ≡ iabs w a
  iabs_low a l h = sym (iabs_is a l ∙ abs_low a h)

  pub iabs_high : (a r : ℕ) → a < 2 ^ w → 2 ^ (w - 1) ≤ a → r ≡ neg w a → r ≡ iabs w a
  iabs_high a r l h e =
      e ∙ mod-eq_of_lt {n = 2 ^ w - a} {m = 2 ^ w} (omega (arith, pow_pos (w - 1))) ∙ sym (iabs_is a l ∙ abs_high a h l)

  -- ---- the sign

  pub ssg_zero : (a : ℕ) → a ≡ 0 → a ≡ ssg w a
  unfolding ssg
  ssg_zero a e = e ∙ sym (ap (ssg w) e ∙ simp (signed_low 0 (pow_pos (w - 1))))

  pub ssg_low : (a r : ℕ) → r ≡ 1 → (a ≡ 0 → ⊥) → a < 2 ^ (w - 1) → r ≡ ssg w a
  unfolding ssg
  ssg_low a r e n h = rw e (simp (signed_low a h, le-ltb a 0 (omega arith), lt-ltb 0 a (pos_of_ne-zero n)))

  pub ssg_high : (a z r : ℕ) → z ≡ 0 → r ≡ compl w z → a < 2 ^ w → 2 ^ (w - 1) ≤ a → r ≡ ssg w a
  unfolding ssg
  ssg_high a z r ez e l h = rw (e, ez) (simp (signed_high a h l, sub-zero))

  -- ---- the shift: a negative word's complement is shifted

  pub ishr_low : (a m r : ℕ) → r ≡ a / m → a < 2 ^ w → a < 2 ^ (w - 1) → r ≡ word w (shr_z (signed w a) m)
  ishr_low a m r e l h = cc (signed_low a h, word_pos (a / m) (omega (arith, div-le_self a m)))

  pub ishr_high : (a m n s r : ℕ) → n ≡ compl w a → s ≡ n / m → r ≡ compl w s → a < 2 ^ w → 2 ^ (w - 1) ≤ a → r ≡ word w (shr_z (signed w a) m)
  ishr_high a m n s r en es er l h =
      let e : n ≡ 2 ^ w - suc a = omega arith in
      er ∙ ap (compl w) (es ∙ ap (λ (k : ℕ). k / m) e)
      ∙ sym (ap (λ (z : ℤ). word w (shr_z z m)) (signed_high a h l)
      ∙ word_negsuc ((2 ^ w - suc a) / m) (omega (arith, div-le_self (2 ^ w - suc a) m)))
