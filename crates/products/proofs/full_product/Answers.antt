-- The product of two words fits 64 bits.
use Rattle.products.proofs.Product.{product_lt}
use Rattle.products.proofs.full_product.Goals as goal

pub overflow_mul-result : goal.overflow_mul-result
overflow_mul-result c = record { fits = product_lt 32 c.ranges.a.fits c.ranges.b.fits }
