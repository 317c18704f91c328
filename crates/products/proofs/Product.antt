-- Products: the bound of one, a sum after one, and the upper half of the signed product by the magnitudes.
use Rattle.words.specs.Word.{add, iabs, imulhi, mul, neg, signed, umad, word}
use Rattle.words.proofs.Signed.{abs_lt, iabs_is, signed_high, signed_low, word_negsuc, word_pos}
use Rattle.words.proofs.Numbers.{complement_shr}
use Prim.Native.Nat.{◌%◌, ◌*◌, ◌+◌, ◌-◌, ◌/◌, ◌<◌, ◌^◌, suc, zero, ℕ}
use mathlib.Core.Path.{◌∙◌, ◌≡◌, ap, sym}
use native.Mathlib.Omega.{arith}
use native.Mathlib.Nat.{le_of_lt, lt_of_le_of_lt, mod-add-mod, mod-eq_of_lt, mod_self, mul-le-mul_left, mul-lt-mul_of_pos_right, sub-zero, zero-div}
use mathlib.Core.Bool.{Bool, beq, false, true}
use borrow.Author.Tests.{leb-false, leb-true}
use lib.Dec.{leb}
use lib.Pow.{pow-add, pow_pos, shr_lt}
use lib.IntN.{nat_abs, neg_ℤ, pos}
use lib.Signed.{shr_z}

-- the product of two numbers of k bits has at most 2 k bits
pub product_lt : (k : ℕ) {a b : ℕ} → a < 2 ^ k → b < 2 ^ k → a * b < 2 ^ (k + k)
product_lt k {a} {b} ha hb =
    rw pow-add (lt_of_le_of_lt (mul-le-mul_left a (le_of_lt hb)) (mul-lt-mul_of_pos_right ha (pow_pos k)))

-- a product, and then a sum
pub umad_is : (w a b c p r : ℕ) → p ≡ mul w a b → r ≡ add w p c → r ≡ umad w a b c
umad_is w a b c p r ep er = er ∙ ap (λ (k : ℕ). (k + c) % 2 ^ w) ep ∙ mod-add-mod (a * b) (2 ^ w) c

module _ (w : ℕ) (halves : 2 ^ w ≡ 2 ^ (w - 1) + 2 ^ (w - 1)) where
  -- the upper half of a negative product: of -p modulo 2 ^ (w + w)
  minus_high : (p : ℕ) → p < 2 ^ (w + w) → neg (w + w) p / 2 ^ w ≡ word w (shr_z (neg_ℤ (pos p)) (2 ^ w))
  minus_high zero h =
      ap (λ (k : ℕ). k % 2 ^ (w + w) / 2 ^ w) (sub-zero (2 ^ (w + w)))
      ∙ ap (λ (k : ℕ). k / 2 ^ w) (mod_self (2 ^ (w + w))) ∙ zero-div (2 ^ w)
      ∙ sym (ap (λ (k : ℕ). word w (pos k)) (zero-div (2 ^ w)) ∙ word_pos w halves 0 (pow_pos w))
  minus_high (suc q) h =
      let e : 2 ^ (w + w) - suc q ≡ 2 ^ (w + w) - 1 - q = omega arith in
      let l : q < 2 ^ (w + w) = omega arith in
      ap (λ (k : ℕ). k / 2 ^ w) (mod-eq_of_lt {n = 2 ^ (w + w) - suc q} {m = 2 ^ (w + w)} (omega arith) ∙ e)
      ∙ complement_shr w w q l ∙ sym (word_negsuc w halves (q / 2 ^ w) (shr_lt w w l))

  module _ (a b : ℕ) (la : a < 2 ^ w) (lb : b < 2 ^ w) where
    -- the product of what IABS gives is that of the magnitudes
    pub magnitudes_are : (m n p : ℕ) → m ≡ iabs w a → n ≡ iabs w b → p ≡ m * n → p ≡ nat_abs (signed w a) * nat_abs (signed w b)
    magnitudes_are m n p em en ep = cc (iabs_is w halves a la, iabs_is w halves b lb)

    magnitudes_lt : nat_abs (signed w a) * nat_abs (signed w b) < 2 ^ (w + w)
    magnitudes_lt = product_lt w (abs_lt w halves a la) (abs_lt w halves b lb)

    magnitudes_high : word w (pos (nat_abs (signed w a) * nat_abs (signed w b) / 2 ^ w)) ≡ nat_abs (signed w a) * nat_abs (signed w b) / 2 ^ w
    magnitudes_high = word_pos w halves _ (shr_lt w w magnitudes_lt)

    -- where the signs are the same, and where they are not
    module _ (p : ℕ) (magnitudes : p ≡ nat_abs (signed w a) * nat_abs (signed w b)) (s t : Bool) (es : s ≡ leb (2 ^ (w - 1)) a) (et : t ≡ leb (2 ^ (w - 1)) b)
      where
        pub imulhi_same : beq s t ≡ true → p / 2 ^ w ≡ imulhi w a b
        imulhi_same h = on s t es et h
          where
            on : (s t : Bool) → s ≡ leb (2 ^ (w - 1)) a → t ≡ leb (2 ^ (w - 1)) b → beq s t ≡ true → p / 2 ^ w ≡ imulhi w a b
            on false false es et h =
                cc (magnitudes, signed_low w halves a (leb-false _ a (sym es)), signed_low w halves b (leb-false _ b (sym et)), magnitudes_high)
            on true true es et h =
                cc (magnitudes, signed_high w halves a (leb-true _ a (sym es)) la, signed_high w halves b (leb-true _ b (sym et)) lb, magnitudes_high)
            on false true es et h = cc
            on true false es et h = cc

        pub imulhi_other : (r : ℕ) → r ≡ neg (w + w) p → beq s t ≡ false → r / 2 ^ w ≡ imulhi w a b
        imulhi_other r er h = on s t es et h
          where
            on : (s t : Bool) → s ≡ leb (2 ^ (w - 1)) a → t ≡ leb (2 ^ (w - 1)) b → beq s t ≡ false → r / 2 ^ w ≡ imulhi w a b
            on false true es et h =
                cc (magnitudes, signed_low w halves a (leb-false _ a (sym es)), signed_high w halves b (leb-true _ b (sym et)) lb, minus_high _ magnitudes_lt)
            on true false es et h =
                cc (magnitudes, signed_high w halves a (leb-true _ a (sym es)) la, signed_low w halves b (leb-false _ b (sym et)), minus_high _ magnitudes_lt)
            on false false es et h = cc
            on true true es et h = cc
