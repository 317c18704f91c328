-- The digits left, after the value so far, make the whole.
-- Assumes nothing.
use Rattle.std.proofs.Common.{◌≡◌, ◌%◌, ◌^◌, ◌<◌, drop}
use Rattle.text.specs.Decimal.{value_from, value_of}
use Rattle.text.proofs.numbers.value.Given as goal

abbrev pub invariant-loop-byte : goal.invariant-loop-byte
invariant-loop-byte l = (l.v < 2 ^ 32) × (value_from l.v (drop l.byte-index l.bytes) % 2 ^ 32 ≡ value_of l.bytes % 2 ^ 32)
