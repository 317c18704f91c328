-- The loop over steps: what is left to do comes to what the whole comes to.
use Rattle.std.proofs.Common.{◌≡◌, ◌-◌}
use Rattle.effects.specs.Effect.{state}
use Rattle.sources.specs.Bank.{env_in}
use Rattle.execution.specs.Steps.{by_rows}
use Rattle.execution.proofs.steps.carry_out.Given as goal

abbrev pub invariant-loop-steps : goal.invariant-loop-steps
invariant-loop-steps l =
    by_rows l.code.file.now l.code.rows.now (env_in l.code.bank.now) (l.budget - l.steps) l.steps l.n (state l.registers l.memory)
    ≡ by_rows l.code.file.now l.code.rows.now (env_in l.code.bank.now) l.budget 0 0 (state l.initial.registers l.initial.memory)
