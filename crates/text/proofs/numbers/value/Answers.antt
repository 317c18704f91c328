-- A digit more, and the end.
-- Assumes nothing.
use Rattle.std.proofs.Common.{arith}
use Rattle.text.proofs.Values.{value_more, value_end}
use Rattle.text.proofs.numbers.value.Goals as goal

pub loop-byte-preserved : goal.loop-byte-preserved
loop-byte-preserved c = (omega arith, value_more _ _ _ _ c.loop-byte.invariant.1 _ c.loop-byte-test.true c.with_digit-v.ensures)

pub returns : goal.returns
returns c = value_end _ _ _ _ c.loop-byte.invariant.1 c.loop-byte-test.false c.loop-byte.invariant.0
