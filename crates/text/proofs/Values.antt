-- The value of digits, modulo 2^32: it may be taken after each digit.
-- Assumes nothing.
use mathlib.Core.Path.{◌≡◌, sym, ap, ◌∙◌}
use mathlib.Core.List.{List, [], ◌∷◌}
use Prim.Native.Nat.{ℕ, suc, ◌+◌, ◌-◌, ◌*◌, ◌/◌, ◌%◌, ◌^◌, ◌<◌, ◌≤◌}
use native.Mathlib.Omega.{arith}
use native.Mathlib.Nat.{mod-mod, mod-eq_of_lt, add-mul-mod_self_left}
use native.Mathlib.Numerals.{add-one}
use lib.ListN.{length, get_or, drop, drop_of_length-le}
use lib.Seq.{drop-cons}
use Rattle.text.specs.Decimal.{value_from}

digit_reduced : (a d : ℕ) → (10 * a + d) % 2 ^ 32 ≡ (10 * (a % 2 ^ 32) + d) % 2 ^ 32
digit_reduced a d =
    let whole : 10 * a + d ≡ 10 * (a % 2 ^ 32) + d + 2 ^ 32 * (10 * (a / 2 ^ 32)) = omega arith in
    ap (λ (n : ℕ). n % 2 ^ 32) whole ∙ add-mul-mod_self_left (10 * (a % 2 ^ 32) + d) (2 ^ 32) (10 * (a / 2 ^ 32))

pub value_reduced : (a : ℕ) (l : List ℕ) → value_from a l % 2 ^ 32 ≡ value_from (a % 2 ^ 32) l % 2 ^ 32
unfolding value_from
value_reduced a [] = sym (mod-mod a (2 ^ 32))
value_reduced a (b ∷ bs) =
    value_reduced (10 * a + (b - 48)) bs
    ∙ ap (λ (n : ℕ). value_from n bs % 2 ^ 32) (digit_reduced a (b - 48))
    ∙ sym (value_reduced (10 * (a % 2 ^ 32) + (b - 48)) bs)

-- ---- A loop over digits: v is the value of those before i, and with those from i on it is the whole

module _ (l : List ℕ) (v whole i : ℕ) (e : value_from v (drop i l) % 2 ^ 32 ≡ whole) where
  pub value_more : (u : ℕ)
      → i < length l
      → u ≡ (10 * v + (get_or l i 0 - 48)) % 2 ^ 32
      → value_from u (drop (i + 1) l) % 2 ^ 32 ≡ whole
  unfolding value_from
  value_more u h d =
      rw (add-one i, d, ← value_reduced (10 * v + (get_or l i 0 - 48)) (drop (suc i) l)) (rw (← e, drop-cons l i 0 h))

  pub value_end : length l ≤ i → v < 2 ^ 32 → v ≡ whole
  unfolding value_from
  value_end h f = rw (← e, drop_of_length-le l h, mod-eq_of_lt f)
