-- A mask has no component from 8 on.
use Rattle.std.proofs.Common.{◌∙◌, le-ltb}
use Rattle.destinations.proofs.Writes.{no_component}
use Rattle.destinations.proofs.is_masked.Goals as goal

pub returns-else-i-lt8 : goal.returns-else-i-lt8
returns-else-i-lt8 c = le-ltb _ _ c.if-i-lt8.false ∙ no_component _ _ c.ranges.mask.fits c.if-i-lt8.false
