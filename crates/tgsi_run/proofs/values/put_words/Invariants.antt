-- What is left to put makes up the whole.
-- Assumes nothing.
use Rattle.std.proofs.Common.{◌≡◌, ◌≤◌, length}
use Rattle.tgsi_run.proofs.Words.{left, whole}
use Rattle.tgsi_run.proofs.values.put_words.Given as goal

abbrev pub invariant-loop-i : goal.invariant-loop-i
invariant-loop-i l =
    (l.n ≤ length l.words) × (left l.words l.bytes l.i l.n ≡ whole l.initial.words l.bytes l.n)
