-- Ranges of kinds: a test that holds of each number from one to another holds of a kind between them, which antt computes.
-- Assumes nothing.
use mathlib.Core.Path.{◌≡◌, refl, sym}
use mathlib.Core.Bool.{Bool, true, false, not, ◌&&◌, ◌||◌}
use mathlib.Core.Logic.{⊎_elim}
use Prim.Native.Nat.{ℕ, zero, suc, ◌+◌, ◌-◌, ◌<◌, ◌≤◌}
use native.Mathlib.Omega.{arith}
use native.Mathlib.Nat.{add-suc, add-zero, eq-or-lt_of_le, le_of_suc-le-suc}
use borrow.Author.Tests.{ne_eqb}
use lib.Dec.{T, eqb, eqb→eq}

-- a test of each number from lo on, n of them
abbrev pub every : (ℕ → Bool) → ℕ → ℕ → Bool
every t lo zero = true
every t lo (suc n) = t (lo + n) && every t lo n

and_left : (a b : Bool) → T (a && b) → T a
and_left true b h = tt
and_left false b h = h

and_right : (a b : Bool) → T (a && b) → T b
and_right true b h = h
and_right false b h = absurd h

every_at : (t : ℕ → Bool) (lo n k : ℕ) → T (every t lo n) → lo ≤ k → k < lo + n → T (t k)
every_at t lo zero k h a b = absurd (omega (arith, add-zero lo))
every_at t lo (suc n) k h a b =
    ⊎_elim (λ e. rw e (and_left (t (lo + n)) (every t lo n) h)) (λ l. every_at t lo n k (and_right (t (lo + n)) (every t lo n) h) a l)
    (eq-or-lt_of_le (le_of_suc-le-suc (rw add-suc at b)))

pub in_range : (t : ℕ → Bool) (lo hi k : ℕ) → T (every t lo (hi - lo)) → lo ≤ k → k < hi → T (t k)
in_range t lo hi k h a b = every_at t lo (hi - lo) k h a (omega arith)

-- What a rule gives at a kind, and at every kind of a range but one that has an arm of its own.
module _ {A : Type 0} (rule : ℕ → A) (n : A) where
  pub given_at : (own : ℕ) → n ≡ rule own → (k : ℕ) → k ≡ own → n ≡ rule k
  given_at own h k e = rw e h

  module _ (same : A → A → Bool) (equal : (a b : A) → T (same a b) → a ≡ b) where
    gives_in : (own lo hi : ℕ) → T (every (λ k. eqb k own || same (rule k) n) lo (hi - lo)) → (k : ℕ) → (k ≡ own → ⊥) → lo ≤ k → k < hi → n ≡ rule k
    gives_in own lo hi h k d a b =
        let told : T (same (rule k) n) = simp (ne_eqb k own d) at (in_range (λ k. eqb k own || same (rule k) n) lo hi k h a b) in
        sym (equal (rule k) n told)

-- A number, and whether a test holds.
module _ (rule : ℕ → ℕ) (n : ℕ) where
  pub given_in : (own lo hi : ℕ) → T (every (λ k. eqb k own || eqb (rule k) n) lo (hi - lo)) → (k : ℕ) → (k ≡ own → ⊥) → lo ≤ k → k < hi → n ≡ rule k
  given_in = gives_in rule n eqb eqb→eq

abbrev alike : Bool → Bool → Bool
alike true b = b
alike false b = not b

alike_equal : (a b : Bool) → T (alike a b) → a ≡ b
alike_equal true true h = refl
alike_equal true false h = absurd h
alike_equal false true h = absurd h
alike_equal false false h = refl

module _ (test : ℕ → Bool) (b : Bool) where
  pub told_in : (own lo hi : ℕ) → T (every (λ k. eqb k own || alike (test k) b) lo (hi - lo)) → (k : ℕ) → (k ≡ own → ⊥) → lo ≤ k → k < hi → b ≡ test k
  told_in = gives_in test b alike alike_equal
