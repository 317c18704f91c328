-- The bytes left to put, over the output so far, make the whole.
-- Assumes nothing.
use Rattle.std.proofs.Common.{◌≡◌, ◌+◌, ◌-◌}
use Rattle.std.proofs.lemmas.List.Edits.{sets}
use Rattle.format.specs.Fields.{little_endian}
use Rattle.spelling.proofs.put_number.Given as goal

abbrev pub invariant-loop-i : goal.invariant-loop-i
invariant-loop-i l = sets l.output (l.at + l.i) (little_endian (l.width - l.i) l.rest) ≡ sets l.fn.output l.at (little_endian l.width l.n)
