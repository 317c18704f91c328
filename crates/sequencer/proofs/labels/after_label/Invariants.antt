-- The walk from here, with what is left of it, comes to where the whole comes.
use Rattle.std.proofs.Common.{◌≡◌, ◌-◌}
use Rattle.blocks.specs.Run.{most_instructions}
use Rattle.sequencer.proofs.Walks.{walks}
use Rattle.sequencer.proofs.labels.after_label.Given as goal

abbrev pub invariant-loop : goal.invariant-loop
invariant-loop l =
    walks l.immediates l.file l.rows l.x (most_instructions - l.counter) l.m l.other
    ≡ walks l.immediates l.file l.rows l.x most_instructions l.label l.jump
