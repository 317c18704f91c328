-- A field more; the width past the last is 0, and no record has a twentieth field.
-- Assumes nothing.
use Rattle.std.proofs.Common.{arith, rules}
use Rattle.spelling.proofs.Records.{fields_next, length_next, fields_put, fields_length, fields_all_put, fields_all_length}
use Rattle.spelling.proofs.put_fields.Goals as goal

pub loop-i-preserved : goal.loop-i-preserved
loop-i-preserved c =
    rw c.from-size.ensures (search (rules, fields_next), search (rules, length_next), omega arith, search rules)

pub returns-then-width-eq0-clause-put : goal.returns-then-width-eq0-clause-put
returns-then-width-eq0-clause-put c = search (rules, fields_put)

pub returns-then-width-eq0-clause-length : goal.returns-then-width-eq0-clause-length
returns-then-width-eq0-clause-length c = search (rules, fields_length)

pub returns-clause-put : goal.returns-clause-put
returns-clause-put c = search (rules, fields_all_put)

pub returns-clause-length : goal.returns-clause-length
returns-clause-length c = search (rules, fields_all_length)
