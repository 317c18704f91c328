-- Stores one after the other, and what a lent output then holds.
-- Assumes nothing.
use mathlib.Core.Path.{◌≡◌, refl, ap, ◌∙◌}
use mathlib.Core.List.{List, [], ◌∷◌, ◌++◌}
use Prim.Native.Nat.{ℕ, suc, ◌+◌, ◌<◌, ◌≤◌}
use native.Mathlib.Omega.{arith}
use native.Mathlib.Nat.{add-zero, add-suc, suc-add}
use lib.ListN.{length, set, drop, take}
use lib.Seq.{sets, set_comm, set_out, sets-eq, take_at}
use borrow.Author.Tests.{lt-ltb, le-ltb}
use Rattle.format.specs.Refusals.{output_short}
use Rattle.text.specs.Output.{refusal, wrote, written, delivered}

pub sets_append : (l : List ℕ) (i : ℕ) (vs ws : List ℕ) → sets l i (vs ++ ws) ≡ sets (sets l i vs) (i + length vs) ws
sets_append l i [] ws = rw (add-zero i)
sets_append l i (v ∷ vs) ws = rw (add-suc i (length vs), ← suc-add i (length vs)) (sets_append (set l i v) (suc i) vs ws)

pub sets_snoc : (l : List ℕ) (i : ℕ) (vs : List ℕ) (v : ℕ) → sets l i (vs ++ (v ∷ [])) ≡ set (sets l i vs) (i + length vs) v
sets_snoc l i vs v = sets_append l i vs (v ∷ [])

-- A store behind those that follow may come first.
pub sets_set : (l : List ℕ) (i j : ℕ) (vs : List ℕ) (v : ℕ) → i + length vs ≤ j → sets (set l j v) i vs ≡ set (sets l i vs) j v
sets_set l i j [] v h = refl
sets_set l i j (a ∷ vs) v h = rw (set_comm l j i v a (λ e. omega arith)) (sets_set (set l i a) (suc i) j vs v (omega arith))

pub sets_out : (l : List ℕ) (i : ℕ) (vs : List ℕ) → length l ≤ i → sets l i vs ≡ l
sets_out l i [] h = refl
sets_out l i (v ∷ vs) h = rw (set_out l i v h) (sets_out l (suc i) vs (omega arith))

-- What was put at the front of an array that is long enough stands there.
pub front : (entry out t : List ℕ) (n : ℕ) → out ≡ sets entry 0 t → n ≡ length t → length t ≤ length entry → take n out ≡ t
front entry out t n e en h =
    let z : 0 + length t ≡ length t = omega arith in
    rw (e, en) (ap (λ (x : List ℕ). take (length t) x) (sets-eq t entry 0 (omega arith)) ∙ take_at t (drop (0 + length t) entry) (length t) refl)

-- ---- Delivered whole, or not at all

module _ (text output : List ℕ) where
  pub deliver_none : length output < length text → written (refusal output_short 0) output ≡ delivered text output
  unfolding delivered
  deliver_none h = rw (lt-ltb (length output) (length text) h)

  pub deliver_all : (l : List ℕ)
      → l ≡ sets output 0 text
      → length text ≤ length output
      → written (wrote (length text)) l ≡ delivered text output
  unfolding delivered
  deliver_all l e h = rw (e, le-ltb (length output) (length text) h)
