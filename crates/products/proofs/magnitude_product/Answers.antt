-- What IABS gives is the magnitude.
use Rattle.std.proofs.Common.{refl, rules}
use Rattle.products.proofs.Product.{magnitudes_are}
use Rattle.products.proofs.magnitude_product.Goals as goal

pub returns : goal.returns
returns c = search (rules, magnitudes_are 32 refl)
