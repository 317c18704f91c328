-- A field that is not outside lies within the word.
use Rattle.std.proofs.Common.{lit<, refl}
use Rattle.bitfields.proofs.Fields.{inside}
use Rattle.bitfields.proofs.ubfe32.Goals as goal

pub cut-requires : goal.cut-requires
cut-requires c = inside 32 refl (lit< tt) _ _ c.ranges.offset.fits c.ranges.bits.fits _ c.is_outside.ensures c.if-is_outside.false
