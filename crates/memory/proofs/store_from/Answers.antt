-- The masked words from an address on, one after the other.
use Rattle.std.proofs.Common.{◌≡◌, ◌+◌, ◌*◌, arith, get_or}
use Rattle.destinations.specs.Destinations.{if_masked}
use Rattle.memory.specs.Memory.{stored, stored_from}
use Rattle.destinations.proofs.Writes.{masked_all, masked_more}
use Rattle.memory.proofs.store_from.Goals as goal

pub loop-i-preserved : goal.loop-i-preserved
unfolding if_masked
loop-i-preserved c =
    masked_more c.args.mask (λ i m. stored m (c.args.address + 4 * i) (get_or c.args.v i 0)) _ _ _ _ c.loop-i.invariant c.store_masked.ensures

pub returns : goal.returns
unfolding stored_from
returns c = let all : c.loop-i.i ≡ 4 = omega arith in masked_all _ _ _ _ _ c.loop-i.invariant all
