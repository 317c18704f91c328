-- A step: what the record's instruction does, and what comes next, as blocks' `step` has them.
-- Assumes nothing.
use Rattle.componentwise.specs.Components.{source_word}
use Rattle.destinations.specs.Destinations.{State}
use Rattle.effects.specs.Effect.{NONE, effect_of, family_of, state}
use Rattle.effects.proofs.Effects.{kind_in, same_family}
use Rattle.sources.specs.Bank.{env_in, part}
use Rattle.sources.specs.Operands.{Env, sources_of, word_in}
use Rattle.sequencer.specs.Labels.{ops_of, cases_of}
use Rattle.machine.specs.Step.{machine_of, record_effect, stepped, test_of}
use Rattle.format.specs.Fields.{case_word, destination_at}
use Rattle.format.proofs.Ranges.{every, in_range}
use Rattle.blocks.specs.Table.{place_in, row_in}
use Rattle.blocks.specs.Run.{Step, comes_next, step}
use Rattle.blocks.specs.Control.{Machine, Op, PLAIN, ELSE, ENDIF, BGNLOOP, ENDLOOP, BRK, CONT, DEFAULT, ENDSWITCH, END, UIF, SWITCH, CASE, kind_of, op_at, op_of}
use Rattle.blocks.proofs.Ops.{by_kind}
use Prim.Native.Nat.{◌+◌, ◌-◌, ◌<◌, ◌≤◌, suc, ℕ}
use mathlib.Core.Path.{◌∙◌, ◌≡◌, ap, refl, sym}
use mathlib.Core.Bool.{Bool}
use mathlib.Core.List.{List}
use native.Mathlib.Omega.{arith}
use native.Mathlib.Numerals.{add-one}
use native.Mathlib.Nat.{add-zero}
use lib.Dec.{T, eqb}
use lib.ListN.{drop, get_or}
use lib.Seq.{get_or-drop}
use Rattle.format.specs.declared.fields.Destination.{Destination}
use Rattle.std.specs.Prelude.{Option, Some}

-- ---- the step

-- kinds without effect
abbrev quiet : ℕ → Bool
quiet k = eqb (kind_in (family_of k)) (kind_in NONE)

module _ (e : Env) (file rows : List ℕ) (n : ℕ) (r m : List ℕ) where
  abbrev machine : Machine State
  machine = machine_of e file (place_in rows)

  abbrev here : Step State
  here = step machine (row_in rows) n (state r m)

  module _ (p k : ℕ) (bytes : List ℕ) (ep : p ≡ place_in rows n) (eb : bytes ≡ drop p file) (ek : k ≡ get_or bytes 0 0) where
    -- the step, were the kind that of the control instruction o
    abbrev step_as : Op → Step State
    step_as o =
        record {
          next = comes_next (op_at machine) machine.value (row_in rows) o (test_of e r bytes) n;
          state = record_effect e bytes (state r m);
        }

    kind_is : k ≡ machine.kind n
    kind_is = ek ∙ rw (eb, ep) (get_or-drop (place_in rows n) file 0 0 ∙ rw (add-zero (place_in rows n)))

    by_op : (o : Op) → op_of k ≡ o → step_as o ≡ here
    by_op o h =
        let at_place : bytes ≡ drop (place_in rows n) file = eb ∙ ap (λ (i : ℕ). drop i file) ep in
        ap step_as (sym h) ∙ rw (← kind_is, ← at_place)

    -- ---- kinds with an effect

    next_is : Some (n + 1) ≡ Some (suc n)
    next_is = ap Some (add-one n)

    plain_kind : k < 0x71 → op_of k ≡ PLAIN
    plain_kind b = by_kind (λ o. o ≡ PLAIN) k low refl
      where
        low : (o : Op) → k ≡ kind_of o → o ≡ PLAIN
        low PLAIN h = refl
        low ELSE h = absurd (omega arith)
        low ENDIF h = absurd (omega arith)
        low BGNLOOP h = absurd (omega arith)
        low ENDLOOP h = absurd (omega arith)
        low BRK h = absurd (omega arith)
        low CONT h = absurd (omega arith)
        low DEFAULT h = absurd (omega arith)
        low ENDSWITCH h = absurd (omega arith)
        low END h = absurd (omega arith)
        low UIF h = absurd (omega arith)
        low SWITCH h = absurd (omega arith)
        low CASE h = absurd (omega arith)

    pub data_step : (d : Destination) (o : List (List ℕ)) (q l : List ℕ) → k < 0x71 → d ≡ destination_at bytes 1 → o ≡ sources_of e r bytes
        → state q l ≡ effect_of (family_of k) k d o (state r m) → stepped (Some (n + 1)) q l ≡ here
    unfolding record_effect
    data_step d o q l b ed eo et =
        let same : state q l ≡ record_effect e bytes (state r m) = rw (← ek, ← ed, ← eo) et in
        let whole : stepped (Some (n + 1)) q l ≡ step_as PLAIN = cc next_is in
        whole ∙ by_op PLAIN (plain_kind b)

    -- ---- kinds without one

    stays : (lo hi : ℕ) → T (every quiet lo (hi - lo)) → lo ≤ k → k < hi → state r m ≡ record_effect e bytes (state r m)
    unfolding record_effect
    stays lo hi q a b =
        let none : family_of k ≡ NONE = same_family (family_of k) NONE (in_range quiet lo hi k q a b) in
        rw (← ek, none)

    pub low_step : k < 0x10 → stepped (Some (n + 1)) r m ≡ here
    unfolding family_of
    low_step b =
        let same : state r m ≡ record_effect e bytes (state r m) = stays 0 0x10 tt (omega arith) b in
        let whole : stepped (Some (n + 1)) r m ≡ step_as PLAIN = cc (next_is, same) in
        whole ∙ by_op PLAIN (plain_kind (omega arith))

    -- the words of CASEs are the immediates' that the machine reads
    values_are : (immediates : List ℕ) → e.immediates ≡ word_in immediates → cases_of immediates file (place_in rows) ≡ machine.value
    unfolding case_word
    values_are immediates ei = rw ei

    next_step : (o : List (List ℕ)) (immediates : List ℕ) (next : Option ℕ) → o ≡ sources_of e r bytes → 0x71 ≤ k → k < 0x100 → e.immediates ≡ word_in immediates
        → next ≡ comes_next (ops_of file (place_in rows)) (cases_of immediates file (place_in rows)) (row_in rows) (op_of k) (source_word o 0 0) n → stepped next r m ≡ here
    unfolding family_of
    next_step o immediates next eo a b ei en =
        let same : state r m ≡ record_effect e bytes (state r m) = stays 0x71 0x100 tt a b in
        let x-is : source_word o 0 0 ≡ test_of e r bytes = rw eo in
        let goes : next ≡ comes_next (op_at machine) machine.value (row_in rows) (op_of k) (test_of e r bytes) n =
        en ∙ ap (λ (v : ℕ → ℕ). comes_next (op_at machine) v (row_in rows) (op_of k) (source_word o 0 0) n) (values_are immediates ei)
        ∙ ap (λ (x : ℕ). comes_next (op_at machine) machine.value (row_in rows) (op_of k) x n) x-is in
        let whole : stepped next r m ≡ step_as (op_of k) = cc (goes, same) in
        whole ∙ by_op (op_of k) refl

-- what comes next, where the immediates are the bank's
module _ (bank file rows : List ℕ) (n : ℕ) (r m : List ℕ) (p k : ℕ) (bytes : List ℕ)
    (ep : p ≡ place_in rows n) (eb : bytes ≡ drop p file) (ek : k ≡ get_or bytes 0 0)
    (o : List (List ℕ)) (eo : o ≡ sources_of (env_in bank) r bytes)
  where
    pub next_by_bank : (immediates : List ℕ) (next : Option ℕ) → 0x71 ≤ k → k < 0x100 → immediates ≡ part bank 4224 1024
        → next ≡ comes_next (ops_of file (place_in rows)) (cases_of immediates file (place_in rows)) (row_in rows) (op_of k) (source_word o 0 0) n
        → stepped next r m ≡ step (machine_of (env_in bank) file (place_in rows)) (row_in rows) n (state r m)
    next_by_bank immediates next a b ei en =
        next_step (env_in bank) file rows n r m p k bytes ep eb ek o immediates next eo a b (rw ei) en
