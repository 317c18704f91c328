-- A field that is not outside lies within the word, and has the bits that it says.
use Rattle.std.proofs.Common.{lit<, pos_of_ne-zero, refl, rules}
use Rattle.bitfields.proofs.Fields.{cut_lt, inside, inside_bits}
use Rattle.bitfields.proofs.ibfe32.Goals as goal

pub cut-requires : goal.cut-requires
cut-requires c = inside 32 refl (lit< tt) _ _ c.ranges.offset.fits c.ranges.bits.fits _ c.is_outside.ensures c.if-is_outside.false

pub extended-requires : goal.extended-requires
extended-requires c = search (rules, pos_of_ne-zero, inside_bits 32 refl (lit< tt), cut_lt)
