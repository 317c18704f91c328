-- The register of each file that a source may name.
use Rattle.sources.proofs.Sources.{register_const, register_imm, register_in, register_none, register_temp}
use Rattle.std.proofs.Common.{rules}
use Rattle.sources.proofs.operands.pick_register.Goals as goal

pub returns-in-1 : goal.returns-in-1
returns-in-1 c = register_const _ _ _ _ _ _ c.pick.ensures c.in-1.is c.constants.ensures

pub returns-in-2 : goal.returns-in-2
returns-in-2 c = register_in _ _ _ _ _ _ c.pick-in-2.ensures c.in-2.is c.inputs.ensures

pub returns-in-4 : goal.returns-in-4
returns-in-4 c = register_temp _ _ _ _ _ c.in-4.is c.pick-in-4.ensures

pub returns-in-6 : goal.returns-in-6
returns-in-6 c = register_imm _ _ _ _ _ _ c.pick-in-6.ensures c.in-6.is c.immediates.ensures

pub returns-in_default : goal.returns-in_default
returns-in_default c = search (rules, register_none)
