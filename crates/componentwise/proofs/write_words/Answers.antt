-- One component after the other.
use Rattle.std.proofs.Common.{◌≡◌, arith}
use Rattle.destinations.proofs.Writes.{masked_all, masked_more}
use Rattle.componentwise.proofs.write_words.Goals as goal

pub loop-i-preserved : goal.loop-i-preserved
loop-i-preserved c = masked_more _ _ _ _ _ _ c.loop-i.invariant c.put_word.ensures

pub returns : goal.returns
returns c = let all : c.loop-i.i ≡ 4 = omega arith in masked_all _ _ _ _ _ c.loop-i.invariant all
