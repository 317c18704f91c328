-- A result goes to its components one after the other.
use Rattle.std.proofs.Common.{◌≡◌, arith}
use Rattle.destinations.specs.Destinations.{if_masked, placed}
use Rattle.destinations.proofs.Writes.{masked_all, masked_more}
use Rattle.destinations.proofs.write.Goals as goal

pub loop-i-preserved : goal.loop-i-preserved
unfolding if_masked
loop-i-preserved c = masked_more c.args.mask (placed c.args.first c.args.v) _ _ _ _ c.loop-i.invariant c.put.ensures

pub returns : goal.returns
returns c = let all : c.loop-i.i ≡ 4 = omega arith in masked_all _ _ _ _ _ c.loop-i.invariant all
