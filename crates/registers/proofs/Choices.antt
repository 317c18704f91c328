-- Tests and choices: a number is below another or not, and which side a `cond` takes.
-- Assumes nothing.
use mathlib.Core.Path.{◌≡◌, refl, sym, subst}
use mathlib.Core.Bool.{Bool, true, false, cond, ◌&&◌, ◌||◌}
use mathlib.Core.Logic.{◌⊎◌, inl, inr}
use Prim.Native.Nat.{ℕ, ◌<◌, ◌≤◌}
use native.Mathlib.Omega.{arith}
use lib.Dec.{eqb, leb}
use borrow.Author.Tests.{leb-true, leb-false, eqb-true}

le_or_lt_by : (a b : ℕ) (t : Bool) → leb a b ≡ t → (a ≤ b) ⊎ (b < a)
le_or_lt_by a b true e = inl (leb-true a b e)
le_or_lt_by a b false e = inr (leb-false a b e)

pub le_or_lt : (a b : ℕ) → (a ≤ b) ⊎ (b < a)
le_or_lt a b = le_or_lt_by a b (leb a b) refl

-- A property of a number that holds at k holds wherever it holds of all others.
pub when_number : (P : ℕ → Type 0) (k : ℕ) → P k → (f : ℕ) → (eqb f k ≡ false → P f) → P f
when_number P k p f o = by (eqb f k) refl where
  by : (t : Bool) → eqb f k ≡ t → P f
  by true e = subst P (sym (eqb-true f k e)) p
  by false e = o e

module _ {A : Type 0} where
  pub chosen : (t : Bool) (a b r : A) → t ≡ true → r ≡ a → r ≡ cond t a b
  chosen true a b r e q = q
  chosen false a b r e q = cc

  pub passed : (t : Bool) (a b r : A) → t ≡ false → r ≡ b → r ≡ cond t a b
  passed true a b r e q = cc
  passed false a b r e q = q

pub or_false : (a : Bool) → (a || false) ≡ a
or_false true = refl
or_false false = refl

pub or_true : (a : Bool) → (a || true) ≡ true
or_true true = refl
or_true false = refl

pub and_false : (a : Bool) → (a && false) ≡ false
and_false true = refl
and_false false = refl

pub never : {A : Type 0} → false ≡ true → A
never e = let z : ◌≡◌ {A = ℕ} 0 1 = cc in absurd (omega arith)
