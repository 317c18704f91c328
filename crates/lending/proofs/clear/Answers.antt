-- The registers' words are 0, and those past them stay.
use Rattle.lending.proofs.Copies.{clear_is}
use Rattle.lending.proofs.clear.Goals as goal

pub returns : goal.returns
returns c = clear_is _ _ _ c.min-end.ensures (c.fill.ensures.after (λ y e. e))
