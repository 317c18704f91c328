-- The whole run: the refusals, and then what the block reading gives (document 01, demands 1 to 3).
-- Assumes nothing.
use Rattle.std.specs.Prelude.{ℕ, List, length}
use Rattle.blocks.specs.Reading.{Reading, out, brk, cont, ended, halted}
use Rattle.checker.specs.Check.{Outcome, accepted, refused, breaks}
use Rattle.destinations.specs.Destinations.{State}
use Rattle.effects.specs.Effect.{state}
use Rattle.admission.specs.declared.Sizes.{Sizes}
use Rattle.admission.specs.Admission.{admission_of}
use Rattle.preparation.specs.Preparing.{prepared_in}
use Rattle.lending.specs.Lent.{cleared}
use Rattle.execution.specs.Program.{carried_out}
use Rattle.execution.specs.Steps.{report}
use Rattle.runner.specs.Answers.{said, end, halt, unanswered, Lent, lent, Result, after}

-- How many words are lent of each.
abbrev pub sizes_of : List ℕ → List ℕ → Lent → Sizes
sizes_of inputs constants words =
    record {
      inputs = length inputs;
      constants = length constants;
      registers = length words.registers;
      work = length words.work;
      memory = length words.memory;
    }

-- What a reading comes to. No run answers what a list would come to that runs out or stops by BRK or CONT: the outermost list of an
-- accepted program has END last, and BRK and CONT stand in a block.
abbrev pub reported : List ℕ → Reading State → Result
reported work (ended steps s) = after (end (report steps)) (lent s.registers work s.memory)
reported work (halted next steps s) = after (halt (report steps) next) (lent s.registers work s.memory)
reported work (out steps s) = after unanswered (lent s.registers work s.memory)
reported work (brk steps s) = after unanswered (lent s.registers work s.memory)
reported work (cont steps s) = after unanswered (lent s.registers work s.memory)

-- "A run checks, prepares, clears these and no word past them, then carries out." (01, Register files)
unfoldable pub run_admitted : Outcome → List ℕ → List ℕ → List ℕ → Lent → ℕ → Result
run_admitted (refused number place) file inputs constants words budget = after (said (breaks number place)) words
run_admitted (accepted s) file inputs constants words budget =
    reported (prepared_in s file words.work)
    (carried_out s file inputs constants budget (state (cleared words.registers) words.memory))

-- The run of a file over lent inputs and constants and lent words, with a budget.
unfoldable pub run_of : List ℕ → List ℕ → List ℕ → Lent → ℕ → Result
run_of file inputs constants words budget =
    run_admitted (admission_of file (sizes_of inputs constants words)) file inputs constants words budget
