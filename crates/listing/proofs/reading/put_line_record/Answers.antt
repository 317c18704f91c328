-- The record is put apart first, so that nothing of a malformed line's is put.
-- Assumes nothing.
use Rattle.std.proofs.Common.{rules}
use Rattle.listing.proofs.Texts.{line_refused_size, line_refused_file, line_taken_size, line_taken_file}
use Rattle.listing.proofs.reading.put_line_record.Goals as goal

pub returns-then-not-is_line_of-clause-size : goal.returns-then-not-is_line_of-clause-size
returns-then-not-is_line_of-clause-size c = search (rules, line_refused_size)

pub returns-then-not-is_line_of-clause-put : goal.returns-then-not-is_line_of-clause-put
returns-then-not-is_line_of-clause-put c = search (rules, line_refused_file)

pub returns-clause-size : goal.returns-clause-size
returns-clause-size c = search (rules, line_taken_size)

pub returns-clause-put : goal.returns-clause-put
returns-clause-put c = search (rules, line_taken_file)
