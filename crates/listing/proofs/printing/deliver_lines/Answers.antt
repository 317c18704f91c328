-- Too long for the output, or put into it.
-- Assumes nothing.
use Rattle.std.proofs.Common.{arith, rules}
use Rattle.text.proofs.Stores.{deliver_none}
use Rattle.listing.proofs.Delivering.{lines_done}
use Rattle.listing.proofs.printing.deliver_lines.Goals as goal

pub returns-then-output-length : goal.returns-then-output-length
returns-then-output-length c = deliver_none _ _ (omega arith)

pub returns : goal.returns
returns c = search (rules, lines_done)
