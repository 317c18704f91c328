-- Past the output's end there is nothing to put.
-- Assumes nothing.
use Rattle.std.proofs.Common.{rules}
use Rattle.text.proofs.Decimals.{digits_none, count_few}
use Rattle.text.proofs.numbers.put_decimal.Goals as goal

pub returns-then-output-at-clause-put : goal.returns-then-output-at-clause-put
returns-then-output-at-clause-put c = digits_none c.args.n c.args.at c.args.output.now c.if-output-at.true

pub returns-then-output-at-clause-few : goal.returns-then-output-at-clause-few
returns-then-output-at-clause-few c = search (rules, count_few)

pub returns-clause-few : goal.returns-clause-few
returns-clause-few c = search (rules, count_few)
