-- A run that is lent what `ropebonnet_needs` says is refused with none of 20, 21 and 23, and one that is lent a word less is. Stated of
-- the definitions that the contracts of `ropebonnet_needs` and `ropebonnet_run` cite.
-- Assumes nothing.
use Prim.Native.Nat.{ℕ, ◌<◌, ◌≤◌}
use mathlib.Core.Path.{◌≡◌, refl, ◌∙◌}
use mathlib.Core.Bool.{Bool, true, false, not, ◌&&◌}
use mathlib.Core.List.{List}
use lib.Dec.{eqb, ltb}
use lib.ListN.{length}
use Rattle.format.specs.Files.{lent_registers}
use Rattle.format.specs.Refusals.{inputs_short, constants_short, working_short}
use Rattle.blocks.specs.Reading.{Reading, out, brk, cont, ended, halted}
use Rattle.checker.specs.Check.{Outcome, accepted, refused, check_of, told_of}
use Rattle.destinations.specs.Destinations.{State}
use Rattle.effects.specs.Effect.{state}
use Rattle.lending.specs.Lent.{cleared}
use Rattle.execution.specs.Program.{carried_out}
use Rattle.admission.specs.Admission.{admission_of}
use Rattle.preparation.specs.Preparing.{prepared_in}
use Rattle.needs.specs.Needs.{needed, needs_in, needs_of}
use Rattle.needs.proofs.Enough.{refused_with}
use Rattle.needs.proofs.Enough as admission
use Rattle.runner.specs.Answers.{Lent}
use Rattle.runner.specs.Whole.{sizes_of, reported, run_admitted, run_of}
use Rattle.answers.specs.declared.Answer.{Answer}
use Rattle.answers.specs.Words.{answer_of, result_in_words, words, told_words}

-- ---- Answers in words

-- Whether an answer in words is the refusal of this number.
abbrev pub refuses : ℕ → Answer → Bool
refuses number a = eqb a.status 2 && eqb a.first number

-- What is carried out is not refused.
carried_out_is : (number : ℕ) (work : List ℕ) (r : Reading State) → refuses number (answer_of (reported work r).answer) ≡ false
carried_out_is number work (ended steps s) = refl
carried_out_is number work (halted next steps s) = refl
carried_out_is number work (out steps s) = refl
carried_out_is number work (brk steps s) = refl
carried_out_is number work (cont steps s) = refl

-- ---- The law

module _ (file inputs constants : List ℕ) (over : Lent) (budget : ℕ) where
  abbrev answer : Answer
  answer = (result_in_words (run_of file inputs constants over budget)).answer

  as_admitted : (number : ℕ) → refuses number answer ≡ refused_with number (admission_of file (sizes_of inputs constants over))
  unfolding run_of run_admitted
  as_admitted number = by (admission_of file (sizes_of inputs constants over))
    where
      by : (o : Outcome) → refuses number (answer_of (run_admitted o file inputs constants over budget).answer) ≡ refused_with number o
      by (refused n place) = refl
      by (accepted s) =
          carried_out_is number (prepared_in s file over.work)
          (carried_out s file inputs constants budget (state (cleared over.registers) over.memory))

  module _ (program : (needs_of file).status ≡ 0) where
    abbrev inputs_few : Bool
    inputs_few = ltb (length inputs) (needs_of file).inputs

    abbrev constants_few : Bool
    constants_few = ltb (length constants) (needs_of file).constants

    abbrev registers_few : Bool
    registers_few = ltb (length over.registers) lent_registers

    abbrev work_few : Bool
    work_few = ltb (length over.work) (needs_of file).work

    -- 20, 21 and 23 are answered exactly where there is less than needed, and nothing that is asked before is lacking.
    pub inputs_refused : refuses inputs_short answer ≡ inputs_few
    inputs_refused = as_admitted inputs_short ∙ admission.inputs_refused file (sizes_of inputs constants over) program

    pub constants_refused : refuses constants_short answer ≡ (not inputs_few && constants_few)
    constants_refused = as_admitted constants_short ∙ admission.constants_refused file (sizes_of inputs constants over) program

    pub work_refused : refuses working_short answer ≡ (not inputs_few && (not constants_few && (not registers_few && work_few)))
    work_refused = as_admitted working_short ∙ admission.work_refused file (sizes_of inputs constants over) program

    -- As much as is needed, or more.
    pub enough : (needs_of file).inputs ≤ length inputs → (needs_of file).constants ≤ length constants → (needs_of file).work ≤ length over.work
        → (refuses inputs_short answer ≡ false) × (refuses constants_short answer ≡ false) × (refuses working_short answer ≡ false)
    enough i c w =
        let e = admission.enough file (sizes_of inputs constants over) program i c w in
        (as_admitted inputs_short ∙ e.0, as_admitted constants_short ∙ e.1, as_admitted working_short ∙ e.2)

    -- Less than is needed, by one word or more; what is asked before suffices.
    pub less_inputs : length inputs < (needs_of file).inputs → refuses inputs_short answer ≡ true
    less_inputs h = as_admitted inputs_short ∙ admission.less_inputs file (sizes_of inputs constants over) program h

    pub less_constants : (needs_of file).inputs ≤ length inputs → length constants < (needs_of file).constants → refuses constants_short answer ≡ true
    less_constants i h = as_admitted constants_short ∙ admission.less_constants file (sizes_of inputs constants over) program i h

    pub less_work : (needs_of file).inputs ≤ length inputs → (needs_of file).constants ≤ length constants
        → lent_registers ≤ length over.registers → length over.work < (needs_of file).work → refuses working_short answer ≡ true
    less_work i c r h = as_admitted working_short ∙ admission.less_work file (sizes_of inputs constants over) program i c r h

-- ---- The first three words

-- What `ropebonnet_needs` answers begins with what `ropebonnet_check` answers.
pub needs_as_checked : (file : List ℕ) → words (needs_of file).status (needs_of file).first (needs_of file).second ≡ told_words (told_of (check_of file))
unfolding needs_of needed
needs_as_checked file = by (check_of file)
  where
    by : (o : Outcome) → words (needs_in o).status (needs_in o).first (needs_in o).second ≡ told_words (told_of o)
    by (accepted s) = refl
    by (refused number place) = refl
