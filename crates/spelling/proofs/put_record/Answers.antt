-- The first number gives the kind's byte, and the others its fields.
-- Assumes nothing.
use Rattle.std.proofs.Common.{rules}
use Rattle.spelling.proofs.Records.{record_put, record_length, record_few}
use Rattle.spelling.proofs.put_record.Goals as goal

pub returns-clause-put : goal.returns-clause-put
returns-clause-put c = search (rules, record_put)

pub returns-clause-length : goal.returns-clause-length
returns-clause-length c = search (rules, record_length)

pub returns-clause-few : goal.returns-clause-few
returns-clause-few c = search (rules, record_few)
