-- What the functions answer is what the definitions of the whole run say, return by return.
-- Assumes nothing.
use mathlib.Core.Path.{◌≡◌, refl, sym, ap, ◌∙◌, subst}
use mathlib.Core.List.{List, []}
use Prim.Native.Nat.{ℕ, ◌-◌, ◌*◌, ◌^◌, ◌<◌, ◌≤◌}
use native.Mathlib.Omega.{arith}
use lib.ListN.{length, take}
use Rattle.blocks.specs.Run.{most_instructions}
use Rattle.blocks.specs.Table.{row_words}
use Rattle.table.specs.Prepared.{filled}
use Rattle.registers.specs.Sets.{is_in}
use Rattle.std.specs.Prelude.{Ok, Err}
use Rattle.std.specs.Prelude.{Result as Fallible}
use Rattle.format.specs.declared.refusals.Refused.{Refused}
use Rattle.checker.specs.declared.program.Program.{Program}
use Rattle.checker.specs.Check.{accepted, program_seen, words_after, examined_as, examined}
use Rattle.checker.specs.Findings.{Seen}
use Rattle.checker.proofs.Examining.{outcome_is, words_are}
use Rattle.checker.proofs.Followed.{followed}
use Rattle.destinations.specs.Destinations.{State}
use Rattle.effects.specs.Effect.{state}
use Rattle.sources.specs.Operands.{word_in}
use Rattle.admission.specs.declared.Sizes.{Sizes}
use Rattle.admission.specs.Admission.{admission_of}
use Rattle.admission.proofs.Admitting.{Admitted, admitted_is, lent_enough}
use Rattle.preparation.specs.Preparing.{prepared_in}
use Rattle.preparation.proofs.Preparing.{table_made}
use Rattle.lending.specs.Lent.{bank_env, cleared, zeroed}
use Rattle.lending.proofs.Copies.{zeroed_is}
use Rattle.lending.proofs.Indirect.{padded_words}
use Rattle.execution.specs.declared.Stop.{Stop}
use Rattle.execution.specs.Program.{carried_out}
use Rattle.execution.specs.Steps.{reached, by_rows}
use Rattle.execution.specs.Inner.Right.{Right}
use Rattle.execution.proofs.Demand.{halts_inside, rows_read}
use Rattle.execution.proofs.Rows.{prepared_right}
use Rattle.runner.specs.declared.Outcome.{Outcome}
use Rattle.runner.specs.Answers.{Answer, run_answer, steps_of, Lent, lent, after}
use Rattle.runner.specs.Whole.{sizes_of, reported, run_admitted, run_of}
use Rattle.runner.specs.Inner.Stops.{Near, stop_answer}
use Rattle.runner.proofs.Laws.{within_budget}

-- ---- An admitted program

reported_is : (r : Stop) (w : List ℕ) (t : State) → after (stop_answer r) (lent t.registers w t.memory) ≡ reported w (reached r t)
reported_is (Stop.Ended report) w t = refl
reported_is (Stop.Halted report next) w t = refl

-- ---- The run

-- What was admitted, by whatever sizes; that they are those of what is lent is asked last.
module _ (file inputs constants registers work memory : List ℕ) (sizes : Sizes) (words before : List ℕ) where
  abbrev over : Lent
  over = lent registers work memory

  pub run_refused : (budget : ℕ) (due : Refused ℕ) → examined_as (Err due) words ≡ examined (admission_of file sizes) before
      → sizes ≡ sizes_of inputs constants over → after (run_answer (Err due)) over ≡ run_of file inputs constants over budget
  unfolding run_of run_admitted
  run_refused budget due answer measured = rw (← measured, ← outcome_is (Err due) words before (admission_of file sizes) answer)

  -- The program that was seen is admitted, and came to a stop.
  module _ (p : Program) (answer : examined_as (Ok p) words ≡ examined (admission_of file sizes) before) (budget : ℕ) (stop : Stop) (r' w m' : List ℕ)
      (made : w ≡ filled file p.start p.instructions work)
      (came : reached stop (state r' m') ≡ by_rows file w (bank_env (is_in p.declared) words inputs constants) budget 0 0 (state (zeroed registers) memory))
      (r-lent : sizes.registers ≡ length registers) (w_lent : sizes.work ≡ length work)
    where
      abbrev seen : Seen
      seen = program_seen p words []

      admits : admission_of file sizes ≡ accepted seen
      admits = sym (outcome_is (Ok p) words before (admission_of file sizes) answer)

      -- The immediates are the first of the words, and 0 follows them.
      padded : word_in words ≡ word_in (take (4 * p.immediates) words)
      padded =
          padded_words words (take (4 * p.immediates) words) (1024 - length (take (4 * p.immediates) words))
          (words_are (Ok p) words before (admission_of file sizes) answer ∙ ap (λ o. words_after o before) admits)

      holds : Admitted seen file sizes
      holds = admitted_is file sizes seen admits

      fits : (1156 ≤ length registers) × (row_words * p.instructions ≤ length work)
      fits = rw (← r-lent, ← w_lent) (lent_enough seen sizes holds.none_due)

      w_prepared : w ≡ prepared_in seen file work
      w_prepared = made ∙ table_made seen file work holds.follows fits.1

      right : Right seen file w
      right = rw w_prepared (prepared_right seen file holds.follows work fits.1)

      carried : reached stop (state r' m') ≡ carried_out seen file inputs constants budget (state (cleared registers) memory)
      carried =
          came
          ∙ ap (λ (l : List ℕ). by_rows file w (bank_env (is_in p.declared) words inputs constants) budget 0 0 (state l memory)) (zeroed_is registers fits.0)
          ∙ rw padded
          (rows_read seen file holds.follows inputs constants w right budget (state (cleared registers) memory))

      pub near_stop : Near stop
      near_stop = by stop refl
        where
          by : (x : Stop) → stop ≡ x → Near x
          by (Stop.Ended report) q = tt
          by (Stop.Halted report next) q =
              omega (
                arith,
                halts_inside seen file holds.follows inputs constants budget (state (cleared registers) memory) next report.steps (state r' m')
                    (sym carried ∙ ap (λ (x : Stop). reached x (state r' m')) q),
                (followed file seen holds.follows).1.most,
              )

      module _ (r : Fallible Outcome (Refused ℕ)) (told : run_answer r ≡ stop_answer stop) (measured : sizes ≡ sizes_of inputs constants over) where
        pub carried_out_is : after (run_answer r) (lent r' w m') ≡ run_of file inputs constants over budget
        unfolding run_of run_admitted
        carried_out_is =
            ap (λ (a : Answer). after a (lent r' w m')) told
            ∙ reported_is stop w (state r' m')
            ∙ ap (reported w) carried
            ∙ rw (← measured, admits, w_prepared)

        -- Every answer of a run is within the budget.
        pub carried_within : steps_of (run_answer r) ≤ budget
        carried_within =
            let same : steps_of (run_answer r) ≡ steps_of (run_of file inputs constants over budget).answer = ap (λ x. steps_of x.answer) carried_out_is in
            omega (arith, same, within_budget file inputs constants over budget)
