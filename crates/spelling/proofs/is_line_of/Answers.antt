-- The line is put and compared.
-- Assumes nothing.
use Rattle.std.proofs.Common.{rules}
use Rattle.spelling.proofs.Records.{unknown_line, line_same}
use Rattle.spelling.proofs.is_line_of.Goals as goal

pub returns-then-not-is_known : goal.returns-then-not-is_known
returns-then-not-is_known c = search (rules, unknown_line)

pub returns : goal.returns
returns c = search (rules, line_same)
