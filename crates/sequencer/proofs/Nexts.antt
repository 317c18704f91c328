-- What comes next: each arm of the match is that of the control instruction that the kind is.
-- Assumes nothing.
use Prim.Native.Nat.{◌+◌, ◌<◌, ◌≤◌, ℕ}
use mathlib.Core.Path.{◌≡◌, ap}
use mathlib.Core.Logic.{⊎_elim}
use native.Mathlib.Omega.{arith}
use native.Mathlib.Numerals.{add-one}
use native.Mathlib.Nat.{eq-or-lt_of_le}
use borrow.Author.Tests.{ne_eqb}
use Rattle.blocks.specs.Control.{Op, PLAIN, ELSE, ENDIF, BGNLOOP, ENDLOOP, BRK, CONT, DEFAULT, ENDSWITCH, END, UIF, SWITCH, CASE, kind_of, op_of}
use Rattle.blocks.specs.Table.{Row}
use Rattle.blocks.specs.Run.{comes_next, most_instructions, walk}
use Rattle.std.specs.Prelude.{Option, Some, None}
use Rattle.blocks.proofs.Ops.{by_kind}

module _ (op : ℕ → Op) (value : ℕ → ℕ) (T : ℕ → Row) (k x n : ℕ) where
  abbrev here : Option ℕ
  here = comes_next op value T (op_of k) x n

  pub end_next : k ≡ 0x89 → None ≡ here
  unfolding op_of
  end_next h = rw h

  module _ (j : ℕ) (ej : j ≡ (T n).jump) where
    pub else_next : k ≡ 0x81 → Some j ≡ here
    unfolding op_of
    else_next h = rw h (ap Some ej)

    pub jump_next : 0x84 ≤ k → k < 0x87 → Some j ≡ here
    unfolding op_of
    jump_next a b =
        ⊎_elim (λ h. rw (← h) (ap Some ej))
        (λ a. ⊎_elim (λ h. rw (← h) (ap Some ej))
        (λ a. let h : k ≡ 0x86 = omega arith in rw h (ap Some ej))
        (eq-or-lt_of_le a))
        (eq-or-lt_of_le a)

    pub uif_false : k ≡ 0x90 → x ≡ 0 → Some j ≡ here
    unfolding op_of
    uif_false h z = rw (h, z) (ap Some ej)

    pub switch_next : (l w : ℕ) → k ≡ 0x91 → l ≡ (T n).label → w ≡ walk op value T most_instructions x l j → Some w ≡ here
    unfolding op_of
    switch_next l w h el ew = rw (h, ← el, ← ej) (ap Some ew)

  pub uif_true : k ≡ 0x90 → (x ≡ 0 → ⊥) → Some (n + 1) ≡ here
  unfolding op_of
  uif_true h z = rw (h, ne_eqb x 0 z) (ap Some (add-one n))

  falls : (0x84 ≤ k → k < 0x87 → ⊥) → (k ≡ 0x81 → ⊥) → (k ≡ 0x89 → ⊥) → (k ≡ 0x90 → ⊥) → (k ≡ 0x91 → ⊥) → Some (n + 1) ≡ here
  falls q w v y z = by_kind (λ o. Some (n + 1) ≡ comes_next op value T o x n) k one (ap Some (add-one n))
    where
      one : (o : Op) → k ≡ kind_of o → Some (n + 1) ≡ comes_next op value T o x n
      one ELSE h = absurd (w h)
      one ENDIF h = ap Some (add-one n)
      one BGNLOOP h = ap Some (add-one n)
      one ENDLOOP h = absurd (q (omega arith) (omega arith))
      one BRK h = absurd (q (omega arith) (omega arith))
      one CONT h = absurd (q (omega arith) (omega arith))
      one DEFAULT h = ap Some (add-one n)
      one ENDSWITCH h = ap Some (add-one n)
      one END h = absurd (v h)
      one UIF h = absurd (y h)
      one SWITCH h = absurd (z h)
      one CASE h = ap Some (add-one n)
      one PLAIN h = ap Some (add-one n)

  module _ (w : k ≡ 0x81 → ⊥) (v : k ≡ 0x89 → ⊥) (y : k ≡ 0x90 → ⊥) (z : k ≡ 0x91 → ⊥) where
    pub falls_below : k < 0x84 → Some (n + 1) ≡ here
    falls_below b = falls (λ p q. omega arith) w v y z

    pub falls_above : 0x87 ≤ k → Some (n + 1) ≡ here
    falls_above a = falls (λ p q. omega arith) w v y z
