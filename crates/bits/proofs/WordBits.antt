-- Bits of words of 32 bits: after one is set, of words that are 0, and past the end.
use Rattle.words.specs.Word.{bit, is_set, bit_in}
use Rattle.words.proofs.Choices.{or_comm}
use Rattle.words.proofs.Numbers.{below_or_not}
use Rattle.bits.proofs.Bitwise.{by_bits, or_bit, bit_top, bit_above, up_low}
use Prim.Native.Nat.{◌%◌, ◌/◌, ◌<◌, ◌^◌, ◌≤◌, max, suc, zero, ℕ}
use mathlib.Core.Path.{◌∙◌, ◌≡◌, ap, refl, sym}
use mathlib.Core.Bool.{Bool, true, false, ◌||◌}
use mathlib.Core.List.{List}
use mathlib.Core.Logic.{⊎_elim}
use native.Mathlib.Omega.{arith}
use native.Mathlib.Nat.{eq-or-lt_of_le, one-mul, zero-div}
use lib.Dec.{eqb}
use lib.Bits.{bit_or}
use lib.ListN.{length, get_or, set, replicate, get_or-eq_default}
use lib.Pow.{pow-lt}
use lib.Seq.{get_or-set_same, get_or-set_other}
use borrow.Author.Tests.{eq-eqb, ne_eqb, eqb-true, eqb-false}

-- ---- One bit more

or_set : (a b i : ℕ) → is_set (bit_or a b) i ≡ (is_set a i || is_set b i)
or_set a b i =
    ap (λ (n : ℕ). eqb n 1) (or_bit a b i)
    ∙ by_bits a b i (λ x y. eqb (max x y) 1 ≡ (eqb x 1 || eqb y 1)) refl refl refl refl

-- 2 ^ k has the one bit k.
pow_set : (k j : ℕ) → is_set (2 ^ k) j ≡ eqb j k
pow_set k j =
    ⊎_elim
    (λ (h : j < k).
    ap (λ (n : ℕ). eqb n 1) (ap (λ (n : ℕ). bit n j) (sym (one-mul (2 ^ k))) ∙ up_low 1 k j h) ∙ sym (ne_eqb j k (λ q. omega arith)))
    (λ (l : k ≤ j). ⊎_elim
    (λ e. rw (← e) (ap (λ (n : ℕ). eqb n 1) (bit_top (2 ^ k) k (omega arith) (pow-lt (omega arith))) ∙ sym (eq-eqb k k refl)))
    (λ h. ap (λ (n : ℕ). eqb n 1) (bit_above (2 ^ k) j (pow-lt h)) ∙ sym (ne_eqb j k (λ q. omega arith)))
    (eq-or-lt_of_le l))
    (below_or_not j k)

one_more : (w k j : ℕ) → is_set (bit_or w (2 ^ k)) j ≡ (eqb j k || is_set w j)
one_more w k j = or_set w (2 ^ k) j ∙ ap (λ (t : Bool). is_set w j || t) (pow_set k j) ∙ or_comm (is_set w j) (eqb j k)

same_word : (i j : ℕ) → j / 32 ≡ i / 32 → eqb (j % 32) (i % 32) ≡ eqb j i
same_word i j q = by (eqb (j % 32) (i % 32)) refl where
  by : (t : Bool) → eqb (j % 32) (i % 32) ≡ t → eqb (j % 32) (i % 32) ≡ eqb j i
  by true e = let r = eqb-true (j % 32) (i % 32) e in e ∙ sym (eq-eqb j i (omega arith))
  by false e = let r = eqb-false (j % 32) (i % 32) e in e ∙ sym (ne_eqb j i (λ s. r (ap (λ (n : ℕ). n % 32) s)))

-- Words in which the word of bit i has got that bit.
pub bits_more : (ws : List ℕ) (i : ℕ) → i / 32 < length ws
    → bit_in (set ws (i / 32) (bit_or (get_or ws (i / 32) 0) (2 ^ (i % 32)))) ≡ (λ (j : ℕ). eqb j i || bit_in ws j)
unfolding bit_in
bits_more ws i h t j = by (eqb (j / 32) (i / 32)) refl t where
  by : (t : Bool) → eqb (j / 32) (i / 32) ≡ t → is_set (get_or (set ws (i / 32) (bit_or (get_or ws (i / 32) 0) (2 ^ (i % 32)))) (j / 32) 0) (j % 32) ≡ (eqb j i || is_set (get_or ws (j / 32) 0) (j % 32))
  by true e =
      let q : j / 32 ≡ i / 32 = eqb-true (j / 32) (i / 32) e in
      rw (q, get_or-set_same ws (i / 32) (bit_or (get_or ws (i / 32) 0) (2 ^ (i % 32))) 0 h)
      (one_more (get_or ws (i / 32) 0) (i % 32) (j % 32)
      ∙ ap (λ (t : Bool). t || is_set (get_or ws (i / 32) 0) (j % 32)) (same_word i j q))
  by false e =
      let q = eqb-false (j / 32) (i / 32) e in
      rw (get_or-set_other ws (i / 32) (j / 32) (bit_or (get_or ws (i / 32) 0) (2 ^ (i % 32))) 0 q, ne_eqb j i (λ r. q (ap (λ (n : ℕ). n / 32) r)))

-- ---- None set

zero_at : (n k : ℕ) → ◌≡◌ {A = ℕ} (get_or (replicate n 0) k 0) 0
zero_at zero k = refl
zero_at (suc n) zero = refl
zero_at (suc n) (suc k) = zero_at n k

pub zero_bits : (n j : ℕ) → bit_in (replicate n 0) j ≡ false
unfolding bit_in
zero_bits n j = rw (zero_at n (j / 32), zero-div (2 ^ (j % 32)))

pub bits_past : (ws : List ℕ) (i : ℕ) → length ws ≤ i / 32 → false ≡ bit_in ws i
unfolding bit_in
bits_past ws i h = rw (get_or-eq_default ws 0 h, zero-div (2 ^ (i % 32)))
