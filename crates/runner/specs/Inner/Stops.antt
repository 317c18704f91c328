-- What a run asks of how its program stopped, and answers for it.
-- Assumes nothing.
use Rattle.std.specs.Prelude.{◌<◌}
use Rattle.blocks.specs.Run.{most_instructions}
use Rattle.execution.specs.declared.Stop.{Stop}
use Rattle.runner.specs.Answers.{Answer, end, halt}

-- A halt is before an instruction that a program can have.
abbrev pub Near : Stop → Type 0
Near (Stop.Ended report) = Unit {0}
Near (Stop.Halted report next) = next < most_instructions

abbrev pub stop_answer : Stop → Answer
stop_answer (Stop.Ended report) = end report
stop_answer (Stop.Halted report next) = halt report next
