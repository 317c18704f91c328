-- What is at hand lies within the buffer, and each turn passes at most the buffer's 262,145 bytes.
-- Assumes nothing.
use Rattle.std.proofs.Common.{◌≡◌, ◌*◌, ◌≤◌, length}
use Rattle.tgsi_read.proofs.pieces.refuse.Given as goal

abbrev pub invariant-loop : goal.invariant-loop
invariant-loop g l = (l.count ≤ 262145) × (length l.text ≡ 262145) × (l.place ≤ 262145 * l.counter)
