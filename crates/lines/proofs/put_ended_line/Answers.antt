-- The line, then its line feed.
-- Assumes nothing.
use Rattle.std.proofs.Common.{rules}
use Rattle.lines.proofs.Printing.{ended_put}
use Rattle.lines.proofs.put_ended_line.Goals as goal

pub returns-clause-put : goal.returns-clause-put
returns-clause-put c = search (rules, ended_put)
