-- The fields left to put, over the output so far, make the whole.
-- Assumes nothing.
use Rattle.std.proofs.Common.{◌≡◌, ◌+◌, ◌*◌, ◌≤◌, length}
use Rattle.std.proofs.lemmas.List.Edits.{sets}
use Rattle.spelling.proofs.Records.{bytes_left}
use Rattle.spelling.proofs.put_fields.Given as goal

abbrev pub invariant-loop-i : goal.invariant-loop-i
invariant-loop-i l =
    (sets l.output l.size (bytes_left l.kind l.line l.at l.i) ≡ sets l.fn.output 1 (bytes_left l.kind l.line l.from 0))
    × (l.size + length (bytes_left l.kind l.line l.at l.i) ≡ 1 + length (bytes_left l.kind l.line l.from 0))
    × (l.size ≤ 1 + 255 * l.i)
    × (l.at ≤ length l.line)
