-- All of the bytes, where there is room for them.
-- Assumes nothing.
use Rattle.std.proofs.Common.{arith}
use Rattle.text.proofs.Stores.{deliver_none, deliver_all}
use Rattle.text.proofs.output.deliver.Goals as goal

pub returns-then-output-bytes : goal.returns-then-output-bytes
returns-then-output-bytes c = deliver_none _ _ (omega arith)

pub returns : goal.returns
returns c = deliver_all _ _ _ c.put_all.ensures (omega arith)
