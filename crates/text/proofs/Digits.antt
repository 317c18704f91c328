-- The value of a number's digits is the number, and they are digits: bytes from '0' on to '9'.
-- Assumes nothing.
use mathlib.Core.Path.{◌≡◌, refl}
use mathlib.Core.Bool.{Bool, true, false}
use mathlib.Core.List.{List, [], ◌∷◌, ◌++◌}
use Prim.Native.Nat.{ℕ, zero, suc, ◌+◌, ◌-◌, ◌*◌, ◌/◌, ◌%◌, ◌≤◌, ◌<◌}
use native.Mathlib.Omega.{arith}
use lib.Dec.{ltb}
use borrow.Author.Tests.{ltb-true, ltb-false}
use Rattle.text.specs.Decimal.{digit, decimal, value_from, value_of}
use Rattle.text.proofs.Decimals.{decimal_small, decimal_large}
use Rattle.text.proofs.Each.{Each, each_append}

-- What holds of one digit, and of a number's digits where it holds of those of the tenth part, holds of the digits of every number.
module _ (P : ℕ → List ℕ → Type 0) (one : (n : ℕ) → n < 10 → P n (digit n ∷ []))
    (more : (n : ℕ) → 10 ≤ n → P (n / 10) (decimal (n / 10)) → P n (decimal (n / 10) ++ (digit (n % 10) ∷ []))) where
  by_digits_within : (k n : ℕ) → n < k → P n (decimal n)
  by_digits_within zero n h = absurd (omega arith)
  by_digits_within (suc k) n h = by (ltb n 10) refl (λ l. by_digits_within k (n / 10) (omega arith)) where
    by : (t : Bool) → ltb n 10 ≡ t → (10 ≤ n → P (n / 10) (decimal (n / 10))) → P n (decimal n)
    by true e before = rw (decimal_small n (ltb-true n 10 e)) (one n (ltb-true n 10 e))
    by false e before = let l = ltb-false n 10 e in rw (decimal_large n l) (more n l (before l))

  by_digits : (n : ℕ) → P n (decimal n)
  by_digits n = by_digits_within (suc n) n (omega arith)

-- ---- The value

value_last : (v : ℕ) (ds : List ℕ) (b : ℕ) → value_from v (ds ++ (b ∷ [])) ≡ 10 * value_from v ds + (b - 48)
unfolding value_from
value_last v [] b = refl
value_last v (d ∷ ds) b = value_last (10 * v + (d - 48)) ds b

pub value_decimal : (n : ℕ) → value_of (decimal n) ≡ n
unfolding value_from
value_decimal =
    by_digits (λ n ds. value_of ds ≡ n) (λ n h. omega arith)
    (λ n h e. rw (value_last 0 (decimal (n / 10)) (digit (n % 10)), e) (omega arith))

-- ---- The digits

-- "all decimal": the bytes '0' to '9'
abbrev pub Digit : ℕ → Type 0
Digit b = (48 ≤ b) × (b ≤ 57)

pub decimal_digits : (n : ℕ) → Each Digit (decimal n)
decimal_digits =
    by_digits (λ n ds. Each Digit ds) (λ n h. ((omega arith, omega arith), tt))
    (λ n h e. each_append Digit (decimal (n / 10)) (digit (n % 10) ∷ []) e ((omega arith, omega arith), tt))
