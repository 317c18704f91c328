-- The run by right rows is the block reading: the two machines, one by the places in the words and over the bank, one by those of the
-- file and over what is lent, are alike on the program's instructions. So the reading of an accepted program ends or halts, and a
-- halt is before one of its instructions.
-- Assumes nothing.
use mathlib.Core.Path.{◌≡◌, refl, sym, ap, ◌∙◌, subst, fun_ext}
use mathlib.Core.Bool.{true}
use mathlib.Core.List.{List, []}
use Prim.Native.Nat.{ℕ, zero, suc, ◌<◌}
use native.Mathlib.Omega.{arith}
use borrow.Author.Tests.{lt-ltb}
use lib.ListN.{drop}
use Rattle.format.specs.Fields.{case_word, destination_at}
use Rattle.std.specs.Prelude.{Option, Some, None}
use Rattle.blocks.specs.Control.{Machine, op_at}
use Rattle.blocks.specs.Lists.{nested_lists}
use Rattle.blocks.specs.Nesting.{accepts}
use Rattle.blocks.specs.Reading.{Reading, halted}
use Rattle.blocks.specs.Run.{most_instructions, follow, step, run}
use Rattle.blocks.specs.Table.{row_at, row_in, place_in, table}
use Rattle.blocks.proofs.Correct.{Final, run_is_reading, run_by_table, run_final}
use Rattle.blocks.proofs.Inside.{Stays, reading_stays}
use Rattle.blocks.proofs.Sim.{Alike}
use Rattle.table.specs.Prepared.{op_from}
use Rattle.checker.specs.Check.{accepted, check_of}
use Rattle.checker.specs.Findings.{Seen}
use Rattle.checker.proofs.Followed.{followed}
use Rattle.destinations.specs.Destinations.{State}
use Rattle.effects.specs.Effect.{effect_of, family_of, x_of}
use Rattle.sources.specs.Operands.{Env, kind_byte}
use Rattle.machine.specs.Step.{machine_of, record_effect}
use Rattle.lending.specs.Lent.{bank_env}
use Rattle.execution.specs.Program.{place_of, env_of, program_of, carried_out}
use Rattle.execution.specs.Steps.{machine_by, by_rows}
use Rattle.execution.specs.Inner.Right.{Right}
use Rattle.execution.proofs.Alike.{banked_alike}

-- ---- A run that stays inside

-- Where the next instruction is at all times one that a program can have, the run by rows is the run.
module _ (file rows : List ℕ) (e : Env) where
  abbrev runs : ℕ → ℕ → ℕ → State → Reading State
  runs = run (machine_by file rows e) (row_in rows)

  abbrev StaysInside : ℕ → ℕ → State → Type 0
  StaysInside c n s = (k m d : ℕ) (t : State) → runs k c n s ≡ halted m d t → m < most_instructions

  abbrev after : ℕ → State → State
  after n s = (step (machine_by file rows e) (row_in rows) n s).state

  pub rows_run : (left c n : ℕ) (s : State) → StaysInside c n s → by_rows file rows e left c n s ≡ runs left c n s
  unfolding by_rows run
  rows_run zero c n s inside = refl
  rows_run (suc left) c n s inside =
      rw (lt-ltb n most_instructions (inside 0 n c s refl))
      (by (step (machine_by file rows e) (row_in rows) n s).next refl (λ m h. rows_run left (suc c) m (after n s) h))
    where
      by : (x : Option ℕ) → (step (machine_by file rows e) (row_in rows) n s).next ≡ x
          → ((m : ℕ) → StaysInside (suc c) m (after n s) → by_rows file rows e left (suc c) m (after n s) ≡ runs left (suc c) m (after n s))
          → follow (by_rows file rows e left (suc c)) (suc c) x (after n s) ≡ follow (runs left (suc c)) (suc c) x (after n s)
      by (Some m) q later = later m (λ k i d t there. inside (suc k) i d t (ap (λ (y : Option ℕ). follow (runs k (suc c)) (suc c) y (after n s)) q ∙ there))
      by None q later = refl

-- ---- The reading of an accepted program

module _ (s : Seen) (file : List ℕ) (ok : check_of file ≡ accepted s) (inputs constants : List ℕ) where
  abbrev by_file : Machine State
  by_file = program_of s file inputs constants

  nested : accepts (op_at by_file) by_file.value s.instructions 0 [] ≡ true
  unfolding case_word
  nested = (followed file s ok).1.nested

  -- "A list stops by running out, by BRK, by CONT, by END or by the budget" (01, Blocks): the outermost one by the last two alone,
  -- with a count that is at most the budget.
  pub reading_final : (budget : ℕ) (from : State) → Final budget (carried_out s file inputs constants budget from)
  unfolding carried_out
  reading_final budget from =
      subst (Final budget) (run_by_table by_file s.instructions (followed file s ok).1.most nested budget from)
      (run_final by_file (row_at (table (op_at by_file) (nested_lists (op_at by_file) s.instructions))) budget budget 0 0 from (omega arith))

  -- A halt is before one of the program's instructions.
  pub reading_inside : (budget : ℕ) (from : State) → Stays s.instructions (λ u. Unit {0}) (carried_out s file inputs constants budget from)
  unfolding carried_out
  reading_inside budget from = reading_stays s.instructions (λ u. Unit {0}) by_file budget (λ n u h v. tt) (op_from file s.start) from tt

  pub halts_inside : (budget : ℕ) (from : State) (m d : ℕ) (t : State) → carried_out s file inputs constants budget from ≡ halted m d t → m < s.instructions
  halts_inside budget from m d t there =
      let stays : Stays s.instructions (λ u. Unit {0}) (halted m d t) = subst (Stays s.instructions (λ u. Unit {0})) there (reading_inside budget from) in
      stays.0

  -- ---- By rows that are right

  module _ (rows : List ℕ) (right : Right s file rows) where
    abbrev bank_of : Env
    bank_of = bank_env s.declared s.immediates inputs constants

    abbrev by_words : Machine State
    by_words = machine_by file rows bank_of

    module _ (n : ℕ) (h : n < s.instructions) where
      abbrev bytes : List ℕ
      bytes = drop (place_of s file n) file

      effect_same : (t : State) → record_effect bank_of bytes t ≡ record_effect (env_of s inputs constants) bytes t
      unfolding record_effect
      effect_same t =
          ap (λ o. effect_of (family_of (kind_byte bytes)) (kind_byte bytes) (destination_at bytes 1) o t)
          (banked_alike file s ok n h inputs constants t.registers)

      alike : Alike by_words by_file n
      alike =
          let p : place_in rows n ≡ place_of s file n = right.places n h in
          record {
            kind = ap (λ k. (machine_of bank_of file (λ m. k)).kind n) p;
            effect = ap (λ k. (machine_of bank_of file (λ m. k)).effect n) p ∙ fun_ext effect_same;
            test =
                ap (λ k. (machine_of bank_of file (λ m. k)).test n) p
                ∙ fun_ext λ (t : State). ap (λ o. x_of o 0) (banked_alike file s ok n h inputs constants t.registers);
            value = ap (λ k. (machine_of bank_of file (λ m. k)).value n) p;
          }

    runs_read : (budget : ℕ) (from : State) → runs file rows bank_of budget 0 0 from ≡ carried_out s file inputs constants budget from
    unfolding carried_out
    runs_read = run_is_reading by_words by_file (row_in rows) s.instructions (followed file s ok).1.most nested right.steers alike

    pub rows_read : (budget : ℕ) (from : State) → by_rows file rows bank_of budget 0 0 from ≡ carried_out s file inputs constants budget from
    rows_read budget from =
        rows_run file rows bank_of budget 0 0 from
        (λ k m d t there. omega (arith, halts_inside k from m d t (sym (runs_read k from) ∙ there), (followed file s ok).1.most))
        ∙ runs_read budget from
