-- The digits of what is left of the number, over the output so far, make the whole.
-- Assumes nothing.
use Rattle.std.proofs.Common.{◌≡◌, ◌<◌, length, take}
use Rattle.std.proofs.lemmas.List.Edits.{sets}
use Rattle.text.specs.Decimal.{decimal}
use Rattle.text.proofs.numbers.put_digits.Given as goal

abbrev pub invariant-loop-k : goal.invariant-loop-k
invariant-loop-k l =
    (0 < l.k → l.k ≡ length (decimal l.rest))
    × (sets l.output l.at (take l.k (decimal l.rest)) ≡ sets l.fn.output l.at (decimal l.n))
