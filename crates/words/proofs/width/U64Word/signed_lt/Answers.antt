-- The order of the signed type.
use Rattle.words.proofs.Signed.{signed_order}
use Rattle.std.proofs.Common.{refl, w64}
use Rattle.words.proofs.width.U64Word.signed_lt.Goals as goal

pub returns : goal.returns
returns c = signed_order w64 refl _ _ _ _ c.ranges.self.fits c.ranges.other.fits c.cast_signed.ensures c.cast_signed-2.ensures
