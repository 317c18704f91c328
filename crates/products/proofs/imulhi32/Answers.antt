-- The upper half of the product of the magnitudes, or of its negative.
use Rattle.std.proofs.Common.{refl, rules}
use Rattle.products.proofs.Product.{imulhi_other, imulhi_same}
use Rattle.products.proofs.imulhi32.Goals as goal

pub returns-then-same_sign : goal.returns-then-same_sign
returns-then-same_sign c = search (rules, imulhi_same 32 refl)

pub returns-else-same_sign : goal.returns-else-same_sign
returns-else-same_sign c = search (rules, imulhi_other 32 refl)
