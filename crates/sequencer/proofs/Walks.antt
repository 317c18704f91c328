-- The walk along the labels of a SWITCH: what is left of it comes to the same instruction as the whole.
-- Assumes nothing.
use mathlib.Core.Path.{◌≡◌, ◌∙◌, refl, sym}
use mathlib.Core.Bool.{Bool, true, false, cond}
use mathlib.Core.List.{List}
use Prim.Native.Nat.{ℕ, zero, suc, ◌-◌, ◌+◌, ◌<◌, ◌≤◌}
use native.Mathlib.Omega.{arith}
use native.Mathlib.Numerals.{add-one}
use borrow.Author.Tests.{ne_eqb}
use lib.Dec.{eqb}
use lib.ListN.{get_or}
use Rattle.format.specs.Fields.{case_word}
use Rattle.blocks.specs.Control.{Op, CASE, DEFAULT, case_of, default_at, is, op_of}
use Rattle.blocks.specs.Table.{Row, place_in, row_in}
use Rattle.blocks.specs.Run.{walk}
use Rattle.blocks.proofs.Ops.{not_kind}
use Rattle.sequencer.specs.Labels.{ops_of, cases_of}
use Rattle.sequencer.specs.Inner.Cases.{is_case_at}

-- ---- one label

module _ (immediates file : List ℕ) (p k x : ℕ) (ek : k ≡ get_or file p 0) where
  pub case_by_word : (w : ℕ) → k ≡ 0x92 → w ≡ case_word immediates file p → eqb w x ≡ is_case_at immediates file p x
  unfolding is_case_at op_of case_word
  case_by_word w h ew = rw (← ek, h, ← ew)

  pub no_case : (k ≡ 0x92 → ⊥) → eqb k 0x92 ≡ is_case_at immediates file p x
  unfolding is_case_at
  no_case h = rw (← ek, not_kind CASE k refl h, ne_eqb k 0x92 h)

-- ---- the walk

module _ (op : ℕ → Op) (value : ℕ → ℕ) (T : ℕ → Row) (x : ℕ) where
  walk_on : (f m other w found o n : ℕ) → 0 < f → (m ≡ 0 → ⊥) → found ≡ cond (case_of op value x m) (suc m) 0 → found ≡ 0
      → o ≡ cond (default_at op m) (suc m) other → n ≡ (T m).label → walk op value T f x m other ≡ w → walk op value T (f - 1) x n o ≡ w
  unfolding walk
  walk_on zero m other w found o n h d ef z eo en e = absurd (omega arith)
  walk_on (suc f) m other w found o n h d ef z eo en e = on (case_of op value x m) refl
    where
      one_less : suc f - 1 ≡ f
      one_less = omega arith

      on : (v : Bool) → case_of op value x m ≡ v → walk op value T (suc f - 1) x n o ≡ w
      on true k = let y : suc m ≡ 0 = rw k at (sym ef ∙ z) in absurd (omega arith)
      on false k = rw (one_less, eo, en) (rw (ne_eqb m 0 d, k) at e)

-- A label is passed, and `other` becomes o: a walk from it that comes to w goes on from the next one.
pub record Passed (immediates file rows : List ℕ) (x f m other o w : ℕ) : Type 0 where
  pub onward : walk (ops_of file (place_in rows)) (cases_of immediates file (place_in rows)) (row_in rows) f x m other ≡ w
      → walk (ops_of file (place_in rows)) (cases_of immediates file (place_in rows)) (row_in rows) (f - 1) x (row_in rows m).label o ≡ w

-- The label's record begins at place p with kind k.
pub label_passed : (immediates file rows : List ℕ) (x f m other w found p k o : ℕ)
    → 0 < f
    → (m ≡ 0 → ⊥)
    → o ≡ cond (is DEFAULT (op_of k)) (suc m) other
    → k ≡ get_or file p 0
    → p ≡ place_in rows m
    → found ≡ cond (is_case_at immediates file p x) (suc m) 0
    → found ≡ 0
    → Passed immediates file rows x f m other o w
unfolding is_case_at
label_passed immediates file rows x f m other w found p k o h d eo ek ep ef z =
    record {
      onward =
          walk_on (ops_of file (place_in rows)) (cases_of immediates file (place_in rows)) (row_in rows) x f m other w found o (row_in rows m).label h d
          (rw (← ep) ef) z (rw (← ep, ← ek) eo) refl;
    }

pub label_on : (immediates file rows : List ℕ) (x f m other w o n : ℕ)
    → walk (ops_of file (place_in rows)) (cases_of immediates file (place_in rows)) (row_in rows) f x m other ≡ w
    → n ≡ (row_in rows m).label
    → Passed immediates file rows x f m other o w
    → walk (ops_of file (place_in rows)) (cases_of immediates file (place_in rows)) (row_in rows) (f - 1) x n o ≡ w
label_on immediates file rows x f m other w o n e en passed = rw en (passed.onward e)

-- ---- the walk from a place in the loop on

module _ (immediates file rows : List ℕ) (x : ℕ) where
  abbrev op : ℕ → Op
  op = ops_of file (place_in rows)

  abbrev pub walks : ℕ → ℕ → ℕ → ℕ
  walks f m other = walk op (cases_of immediates file (place_in rows)) (row_in rows) f x m other

  -- After i of n labels the walk is at label m, and comes to w.
  module _ (n i m other w : ℕ) (left : walks (n - i) m other ≡ w) where
    pub walk_spent : n ≤ i → other ≡ w
    unfolding walk
    walk_spent h =
        let none : n - i ≡ 0 = omega arith in
        rw none at left

    module _ (more : i < n) where
      one_less : n - i ≡ suc (n - (i + 1))
      one_less = omega arith

      pub walk_ended : m ≡ 0 → other ≡ w
      unfolding walk
      walk_ended h = rw (one_less, h) at left

      -- The label's record begins at place p with kind k.
      module _ (inner : m ≡ 0 → ⊥) (p k : ℕ) (ep : p ≡ place_in rows m) (ek : k ≡ get_or file p 0) (t : Bool) (et : t ≡ is_case_at immediates file p x) where
        here : cond t (suc m) (walks (n - (i + 1)) (row_in rows m).label (cond (is DEFAULT (op_of k)) (suc m) other)) ≡ w
        unfolding walk is_case_at
        here = rw (et, ek, ep) (rw (one_less, ne_eqb m 0 inner) at left)

        pub case_found : t ≡ true → m + 1 ≡ w
        case_found h = (add-one m) ∙ (rw h at here)

        not_found : t ≡ false → 0 ≡ cond (is_case_at immediates file p x) (suc m) 0
        not_found h = rw (← et, h)

        pub label_left : (o l : ℕ) → t ≡ false → o ≡ cond (is DEFAULT (op_of k)) (suc m) other → l ≡ (row_in rows m).label → walks (n - (i + 1)) l o ≡ w
        label_left o l h eo el =
            let less : n - i - 1 ≡ n - (i + 1) = omega arith in
            rw less at (
            label_on immediates file rows x (n - i) m other w o l left el
            (label_passed immediates file rows x (n - i) m other w 0 p k o (omega (arith, more)) inner eo ek ep (not_found h) refl)
            )

module _ (k m other : ℕ) where
  pub default_found : k ≡ 0x87 → m + 1 ≡ cond (is DEFAULT (op_of k)) (suc m) other
  unfolding op_of
  default_found h = rw h (add-one m)

  pub default_none : (k ≡ 0x87 → ⊥) → other ≡ cond (is DEFAULT (op_of k)) (suc m) other
  default_none h = rw (not_kind DEFAULT k refl h)
