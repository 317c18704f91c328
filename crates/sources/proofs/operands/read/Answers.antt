-- The register that the source names, or none.
use Rattle.sources.proofs.Sources.{source_nowhere, source_register}
use Rattle.sources.proofs.operands.read.Goals as goal

pub returns-in-Some : goal.returns-in-Some
returns-in-Some c = source_register _ _ _ _ c.in-Some.ensures _ c.pick_register.ensures

pub returns-in-None : goal.returns-in-None
returns-in-None c = source_nowhere _ _ _ c.in-None.ensures
