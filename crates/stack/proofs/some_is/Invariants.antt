-- None of the blocks before is one.
use Rattle.std.proofs.Common.{◌≡◌, false}
use Rattle.stack.specs.Arrays.{some_code}
use Rattle.stack.proofs.some_is.Given as goal

abbrev pub invariant-loop-n : goal.invariant-loop-n
invariant-loop-n l = some_code l.lo l.hi l.b.codes l.n ≡ false
