-- Signed quotients and remainders are those of the magnitudes with a sign, over the width.
use Rattle.words.specs.Word.{iabs, neg, sdiv, signed, srem, word}
use Rattle.words.proofs.Signed.{abs_lt, abs_pos, iabs_is, signed_high, signed_low, word_minus, word_pos}
use Prim.Native.Nat.{◌%◌, ◌+◌, ◌-◌, ◌/◌, ◌<◌, ◌^◌, ◌≤◌, zero, ℕ}
use mathlib.Core.Path.{◌∙◌, ◌≡◌, ap, sym}
use mathlib.Core.Bool.{Bool, beq, false, true}
use native.Mathlib.Omega.{arith}
use native.Mathlib.Nat.{div-le_self, mod-le}
use borrow.Author.Tests.{leb-false, leb-true, ne_eqb}
use lib.Dec.{eqb, leb}
use lib.IntN.{nat_abs, neg_ℤ, pos}

module _ (w : ℕ) (halves : 2 ^ w ≡ 2 ^ (w - 1) + 2 ^ (w - 1)) where
  -- the magnitude of a divisor is not 0
  pub divisor_pos : (b n : ℕ) → b < 2 ^ w → (b ≡ 0 → ⊥) → n ≡ iabs w b → zero < n
  divisor_pos b n l nz e = rw (e, iabs_is w halves b l) (abs_pos w halves b l nz)

  module _ (a b m n : ℕ) (la : a < 2 ^ w) (lb : b < 2 ^ w) (em : m ≡ iabs w a) (en : n ≡ iabs w b) (nz : b ≡ 0 → ⊥) where
    nonzero : eqb b 0 ≡ false
    nonzero = ne_eqb b 0 nz

    quotient : m / n ≡ nat_abs (signed w a) / nat_abs (signed w b)
    quotient = cc (iabs_is w halves a la, iabs_is w halves b lb)

    quotient_lt : nat_abs (signed w a) / nat_abs (signed w b) < 2 ^ w
    quotient_lt = omega (arith, div-le_self (nat_abs (signed w a)) (nat_abs (signed w b)), abs_lt w halves a la)

    quotient_word : word w (pos (nat_abs (signed w a) / nat_abs (signed w b))) ≡ m / n
    quotient_word = word_pos w halves _ quotient_lt ∙ sym quotient

    minus_quotient : word w (neg_ℤ (pos (nat_abs (signed w a) / nat_abs (signed w b)))) ≡ neg w (m / n)
    minus_quotient = word_minus w halves _ quotient_lt ∙ ap (neg w) (sym quotient)

    pub sdiv_low_low : a < 2 ^ (w - 1) → b < 2 ^ (w - 1) → m / n ≡ sdiv w a b
    sdiv_low_low p q = cc (nonzero, signed_low w halves a p, signed_low w halves b q, quotient_word)

    pub sdiv_high_high : 2 ^ (w - 1) ≤ a → 2 ^ (w - 1) ≤ b → m / n ≡ sdiv w a b
    sdiv_high_high p q = cc (nonzero, signed_high w halves a p la, signed_high w halves b q lb, quotient_word)

    pub sdiv_low_high : (r : ℕ) → r ≡ neg w (m / n) → a < 2 ^ (w - 1) → 2 ^ (w - 1) ≤ b → r ≡ sdiv w a b
    sdiv_low_high r e p q = cc (nonzero, signed_low w halves a p, signed_high w halves b q lb, minus_quotient)

    pub sdiv_high_low : (r : ℕ) → r ≡ neg w (m / n) → 2 ^ (w - 1) ≤ a → b < 2 ^ (w - 1) → r ≡ sdiv w a b
    sdiv_high_low r e p q = cc (nonzero, signed_high w halves a p la, signed_low w halves b q, minus_quotient)

    -- the quotient of the magnitudes where the signs are the same, its negative where they are not
    pub sdiv_same : (s t : Bool) (q : ℕ) → q ≡ m / n → s ≡ leb (2 ^ (w - 1)) a → t ≡ leb (2 ^ (w - 1)) b → beq s t ≡ true → q ≡ sdiv w a b
    sdiv_same false false q eq es et h = eq ∙ sdiv_low_low (leb-false _ a (sym es)) (leb-false _ b (sym et))
    sdiv_same true true q eq es et h = eq ∙ sdiv_high_high (leb-true _ a (sym es)) (leb-true _ b (sym et))
    sdiv_same false true q eq es et h = cc
    sdiv_same true false q eq es et h = cc

    pub sdiv_other : (s t : Bool) (q r : ℕ) → q ≡ m / n → r ≡ neg w q → s ≡ leb (2 ^ (w - 1)) a → t ≡ leb (2 ^ (w - 1)) b → beq s t ≡ false → r ≡ sdiv w a b
    sdiv_other false true q r eq er es et h = sdiv_low_high r (er ∙ ap (neg w) eq) (leb-false _ a (sym es)) (leb-true _ b (sym et))
    sdiv_other true false q r eq er es et h = sdiv_high_low r (er ∙ ap (neg w) eq) (leb-true _ a (sym es)) (leb-false _ b (sym et))
    sdiv_other false false q r eq er es et h = cc
    sdiv_other true true q r eq er es et h = cc

    remainder : m % n ≡ nat_abs (signed w a) % nat_abs (signed w b)
    remainder = cc (iabs_is w halves a la, iabs_is w halves b lb)

    remainder_lt : nat_abs (signed w a) % nat_abs (signed w b) < 2 ^ w
    remainder_lt = omega (arith, mod-le (nat_abs (signed w a)) (nat_abs (signed w b)), abs_lt w halves a la)

    pub srem_low : a < 2 ^ (w - 1) → m % n ≡ srem w a b
    srem_low p = cc (nonzero, remainder, signed_low w halves a p, word_pos w halves _ remainder_lt)

    pub srem_high : (r : ℕ) → r ≡ neg w (m % n) → 2 ^ (w - 1) ≤ a → r ≡ srem w a b
    srem_high r e p = cc (nonzero, remainder, signed_high w halves a p la, word_minus w halves _ remainder_lt)

    -- the remainder of the magnitudes, negated where the dividend is negative
    module _ (t : Bool) (q : ℕ) (eq : q ≡ m % n) (et : t ≡ leb (2 ^ (w - 1)) a) where
      pub srem_kept : t ≡ false → q ≡ srem w a b
      srem_kept h = eq ∙ srem_low (leb-false _ a (sym et ∙ h))

      pub srem_negated : (r : ℕ) → r ≡ neg w q → t ≡ true → r ≡ srem w a b
      srem_negated r e h = srem_high r (e ∙ ap (neg w) eq) (leb-true _ a (sym et ∙ h))
