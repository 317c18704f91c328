-- A program is carried out by the table that is made of it, over the bank that holds what it reads, from cleared registers.
use Rattle.running.proofs.Cleared.{came_cleared}
use Rattle.running.proofs.carry_out_program.Goals as goal

pub returns-clause-came : goal.returns-clause-came
returns-clause-came c = came_cleared _ _ _ _ _ _ _ _ _ _ _ _ _ _ c.bank_into.ensures c.clear.ensures c.carry_out.ensures
