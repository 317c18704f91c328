-- The numbers of a program that the check accepted: no register past its file is declared, and the instructions are counted.
-- Assumes nothing.
use Rattle.std.specs.Prelude.{◌≤◌}
use Rattle.format.specs.Files.{CONST, IN, registers_of}
use Rattle.blocks.specs.Run.{most_instructions}
use Rattle.checker.specs.declared.program.Program.{Program}

pub record Small (p : Program) : Type 0 where
  pub inputs : p.inputs ≤ registers_of IN
  pub constants : p.constants ≤ registers_of CONST
  pub instructions : p.instructions ≤ most_instructions
