-- The fields left to put, over the output so far, make the whole.
-- Assumes nothing.
use Rattle.std.proofs.Common.{◌≡◌, ◌+◌, ◌*◌, ◌≤◌, length}
use Rattle.std.proofs.lemmas.List.Edits.{sets}
use Rattle.lines.proofs.Printing.{left}
use Rattle.lines.proofs.put_fields.Given as goal

abbrev pub invariant-loop-i : goal.invariant-loop-i
invariant-loop-i l =
    (sets l.output (l.at + l.count) (left l.kind l.file l.place l.i) ≡ sets l.fn.output l.at (left l.kind l.file l.from 0))
    × (l.count + length (left l.kind l.file l.place l.i) ≡ length (left l.kind l.file l.from 0))
    × (l.count ≤ 11 * l.i)
    × (l.place ≤ l.from + 255 * l.i)
