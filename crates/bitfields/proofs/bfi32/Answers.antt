-- A field that is not outside lies within the word.
use Rattle.std.proofs.Common.{lit<, refl}
use Rattle.bitfields.proofs.Fields.{inside}
use Rattle.bitfields.proofs.bfi32.Goals as goal

pub inserted-requires : goal.inserted-requires
inserted-requires c = inside 32 refl (lit< tt) _ _ c.ranges.offset.fits c.ranges.bits.fits _ c.is_outside.ensures c.if-is_outside.false
