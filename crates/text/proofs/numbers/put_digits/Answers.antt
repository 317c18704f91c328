-- One digit is put, and those of the tenth part are left.
-- Assumes nothing.
use Rattle.text.proofs.Decimals.{digits_start, digits_fewer, digits_more, digits_end}
use Rattle.text.proofs.numbers.put_digits.Goals as goal

pub loop-k-init : goal.loop-k-init
loop-k-init c = (λ _. c.requires, digits_start _ _ _ _ c.requires)

pub loop-k-preserved : goal.loop-k-preserved
loop-k-preserved c =
    let left = c.loop-k.invariant.0 in
    (digits_fewer _ _ left, digits_more _ _ left _ _ _ _ c.loop-k.invariant.1 c.loop-k-test.true c.put_last_digit.ensures)

pub returns : goal.returns
returns c = digits_end _ _ _ _ _ c.loop-k.invariant.1 c.loop-k-test.false
