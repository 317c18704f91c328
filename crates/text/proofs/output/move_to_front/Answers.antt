-- What stands from the place on, over the front.
-- Assumes nothing.
use Rattle.std.proofs.Common.{◌∙◌}
use Rattle.text.proofs.Moves.{moved}
use Rattle.text.proofs.output.move_to_front.Goals as goal

pub returns : goal.returns
returns c = c.copy_within.ensures.after ∙ rw c.min-from.ensures (moved c.args.from c.args.text.now)
