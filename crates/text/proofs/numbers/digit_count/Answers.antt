-- The powers of ten on both sides of the number.
-- Assumes nothing.
use Rattle.std.proofs.Common.{arith}
use Rattle.text.proofs.Decimals.{count_one, count_between}
use Rattle.text.proofs.numbers.digit_count.Goals as goal

pub returns-in-Some : goal.returns-in-Some
returns-in-Some c = count_between c.in-Some.power c.args.n c.in-Some.ensures.power_le c.in-Some.ensures.next_power_gt

pub returns-in-None : goal.returns-in-None
returns-in-None c = count_one c.args.n (omega (arith, c.in-None.ensures.none))
