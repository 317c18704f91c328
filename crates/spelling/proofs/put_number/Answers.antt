-- A byte more, and the end.
-- Assumes nothing.
use Rattle.std.proofs.Common.{rules, ◌∙◌}
use Rattle.spelling.proofs.Records.{bytes_next, bytes_put}
use Rattle.spelling.proofs.put_number.Goals as goal

pub loop-i-preserved : goal.loop-i-preserved
loop-i-preserved c = bytes_next _ _ _ _ _ _ c.loop-i.invariant _ c.loop-i-test.true (c.put.ensures ∙ rw c.from.ensures)

pub returns : goal.returns
returns c = search (rules, bytes_put)
