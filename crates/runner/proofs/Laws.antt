-- What holds of every run, stated of the definition that the contract of `run` cites: it is refused, ends or halts, it reports at most
-- the budget's steps, and it changes no register word past 1,156.
-- Assumes nothing.
use mathlib.Core.Path.{◌≡◌, refl, ◌∙◌}
use mathlib.Core.List.{List}
use Prim.Native.Nat.{ℕ, ◌<◌, ◌≤◌}
use native.Mathlib.Omega.{arith}
use lib.ListN.{drop}
use Rattle.format.specs.Files.{lent_registers}
use Rattle.blocks.specs.Reading.{Reading, out, brk, cont, ended, halted}
use Rattle.blocks.specs.Run.{most_instructions}
use Rattle.blocks.proofs.Correct.{Final}
use Rattle.blocks.proofs.Inside.{Stays}
use Rattle.checker.specs.Check.{Outcome, accepted, refused, follows, breaks}
use Rattle.checker.specs.Findings.{Seen}
use Rattle.checker.proofs.Followed.{followed}
use Rattle.destinations.specs.Destinations.{State}
use Rattle.effects.specs.Effect.{state}
use Rattle.admission.specs.Admission.{admission_of}
use Rattle.admission.proofs.Admitting.{admitted_is}
use Rattle.preparation.specs.Preparing.{prepared_in}
use Rattle.lending.specs.Lent.{cleared}
use Rattle.lending.proofs.Copies.{cleared_past}
use Rattle.execution.specs.Program.{carried_out}
use Rattle.execution.proofs.Demand.{reading_final, reading_inside}
use Rattle.execution.proofs.Past.{reading_past}
use Rattle.runner.specs.Answers.{Answer, said, end, halt, unanswered, steps_of, Lent}
use Rattle.runner.specs.Whole.{sizes_of, reported, run_admitted, run_of}

-- A refusal, or a run that ended or halted with a count that is at most the budget; and before which instruction it halted.
abbrev pub Answered : ℕ → Answer → Type 0
Answered budget (said (follows instructions)) = ⊥
Answered budget (said (breaks number place)) = Unit {0}
Answered budget (end report) = report.steps ≤ budget
Answered budget (halt report next) = (report.steps ≤ budget) × (next < most_instructions)
Answered budget unanswered = ⊥

final_answered : (budget N : ℕ) (work : List ℕ) (r : Reading State) → N ≤ most_instructions → Final budget r → Stays N (λ (t : State). Unit {0}) r → Answered budget (reported work r).answer
final_answered budget N work (ended c s) few f h = f
final_answered budget N work (halted n c s) few f h = (f, omega (arith, h.0))
final_answered budget N work (out c s) few f h = absurd f
final_answered budget N work (brk c s) few f h = absurd f
final_answered budget N work (cont c s) few f h = absurd f

answered_within : (budget : ℕ) (a : Answer) → Answered budget a → steps_of a ≤ budget
answered_within budget (said (follows instructions)) h = absurd h
answered_within budget (said (breaks number place)) h = omega arith
answered_within budget (end report) h = h
answered_within budget (halt report next) h = h.0
answered_within budget unanswered h = absurd h

reported_past : (N : ℕ) (d work : List ℕ) (r : Reading State) → Stays N (λ (t : State). drop lent_registers t.registers ≡ d) r → drop lent_registers (reported work r).lent.registers ≡ d
reported_past N d work (ended c s) f = f
reported_past N d work (halted n c s) f = f.1
reported_past N d work (out c s) f = f
reported_past N d work (brk c s) f = f
reported_past N d work (cont c s) f = f

module _ (file inputs constants : List ℕ) (words : Lent) (budget : ℕ) where
  abbrev read : Seen → Reading State
  read s = carried_out s file inputs constants budget (state (cleared words.registers) words.memory)

  -- "A list stops by running out, by BRK, by CONT, by END or by the budget" (01, Blocks): an accepted program's outermost list by the
  -- last two alone, so every run is refused, ends or halts.
  pub run_answers : Answered budget (run_of file inputs constants words budget).answer
  unfolding run_of run_admitted
  run_answers = by (admission_of file (sizes_of inputs constants words)) refl
    where
      by : (o : Outcome) → admission_of file (sizes_of inputs constants words) ≡ o → Answered budget (run_admitted o file inputs constants words budget).answer
      by (refused number place) e = tt
      by (accepted s) e =
          let follows = (admitted_is file (sizes_of inputs constants words) s e).follows in
          let from = state (cleared words.registers) words.memory in
          final_answered budget s.instructions (prepared_in s file words.work) (read s) (followed file s follows).1.most
          (reading_final s file follows inputs constants budget from) (reading_inside s file follows inputs constants budget from)

  -- "the reported count .. never above budget" (01, Forms for specific places)
  pub within_budget : steps_of (run_of file inputs constants words budget).answer ≤ budget
  within_budget = answered_within budget (run_of file inputs constants words budget).answer run_answers

  -- "clears these and no word past them" (01, Register files)
  pub past_stays : drop lent_registers (run_of file inputs constants words budget).lent.registers ≡ drop lent_registers words.registers
  unfolding run_of run_admitted
  past_stays = by (admission_of file (sizes_of inputs constants words)) refl
    where
      by : (o : Outcome) → admission_of file (sizes_of inputs constants words) ≡ o → drop lent_registers (run_admitted o file inputs constants words budget).lent.registers ≡ drop lent_registers words.registers
      by (refused number place) e = refl
      by (accepted s) e =
          reported_past s.instructions (drop lent_registers (cleared words.registers)) (prepared_in s file words.work) (read s)
          (reading_past file s (admitted_is file (sizes_of inputs constants words) s e).follows inputs constants budget
          (state (cleared words.registers) words.memory))
          ∙ cleared_past words.registers
