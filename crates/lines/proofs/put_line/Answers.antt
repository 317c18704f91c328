-- The kind, then its fields.
-- Assumes nothing.
use Rattle.std.proofs.Common.{rules}
use Rattle.lines.proofs.Printing.{line_put, line_length}
use Rattle.lines.proofs.put_line.Goals as goal

pub returns-clause-put : goal.returns-clause-put
returns-clause-put c = search (rules, line_put)

pub returns-clause-length : goal.returns-clause-length
returns-clause-length c = search (rules, line_length)
