-- What was written is read back, since a lent file has bytes only.
-- Assumes nothing.
use Rattle.std.proofs.Common.{rules}
use Rattle.listing.proofs.CallsBack.{printed_back}
use Rattle.listing.proofs.print.Goals as goal

pub returns-clause-back : goal.returns-clause-back
returns-clause-back c = λ n is. search (rules, printed_back, c.all_bytes.ensures)
