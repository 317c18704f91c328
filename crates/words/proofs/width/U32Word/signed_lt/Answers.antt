-- The order of the signed type.
use Rattle.words.proofs.Signed.{signed_order}
use Rattle.std.proofs.Common.{refl, w32}
use Rattle.words.proofs.width.U32Word.signed_lt.Goals as goal

pub returns : goal.returns
returns c = signed_order w32 refl _ _ _ _ c.ranges.self.fits c.ranges.other.fits c.cast_signed.ensures c.cast_signed-2.ensures
