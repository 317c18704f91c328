-- The word of bit i has got that bit, and no other word changes.
use Rattle.std.proofs.Common.{◌%◌, arith}
use native.Mathlib.Nat.{one-mul}
use lib.Pow.{shl_exact}
use Rattle.bits.proofs.WordBits.{bits_more}
use Rattle.registers.proofs.sets.set_bit.Goals as goal

pub returns : goal.returns
returns c = rw (shl_exact {a = 1} 1 (c.args.i % 32) 32 (omega arith) (omega arith), one-mul) (bits_more _ _ (omega arith))
