-- The instructions left fall, and at the same number a list comes before the block that it begins with. At each turn the list from
-- instruction m on ends where the whole list does.
use Rattle.std.proofs.Common.{◌≡◌, ◌+◌, ◌-◌, ◌*◌, ◌≤◌, length}
use Rattle.blocks.specs.Lists.{size}
use Rattle.lists.specs.Lists.{list_in}
use Rattle.lists.proofs.+past_past_block.Given as goal

abbrev pub decreases-past : goal.decreases-past
decreases-past l = 2 * (length l.kinds.now - l.n) + 1

abbrev pub decreases-past_block : goal.decreases-past_block
decreases-past_block l = 2 * (length l.kinds.now - l.n)

abbrev pub invariant-past-loop-kind : goal.invariant-past-loop-kind
invariant-past-loop-kind l = (l.n ≤ l.m) × (l.m + size (list_in l.kinds l.m) ≡ l.n + size (list_in l.kinds l.n))

abbrev pub decreases-past-loop-kind : goal.decreases-past-loop-kind
decreases-past-loop-kind l = length l.kinds - l.m
