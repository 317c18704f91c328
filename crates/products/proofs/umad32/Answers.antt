-- A sum modulo 2^32 does not see that the product was taken modulo 2^32 before.
use Rattle.std.proofs.Common.{rules}
use Rattle.products.proofs.Product.{umad_is}
use Rattle.products.proofs.umad32.Goals as goal

pub returns : goal.returns
returns c = search (rules, umad_is 32)
