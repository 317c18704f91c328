-- At each turn the first label of the list from instruction m on is that of the whole list.
use Rattle.std.proofs.Common.{◌≡◌, ◌-◌, length}
use Rattle.blocks.specs.Table.{first_label}
use Rattle.lists.specs.Lists.{op_in, list_in}
use Rattle.lists.proofs.next_label.Given as goal

abbrev pub invariant-loop-kind : goal.invariant-loop-kind
invariant-loop-kind l = first_label (op_in l.kinds) (list_in l.kinds l.m) ≡ first_label (op_in l.kinds) (list_in l.kinds l.n)

abbrev pub decreases-loop-kind : goal.decreases-loop-kind
decreases-loop-kind l = length l.kinds - l.m
