-- The instructions left fall, and at the same number a list comes before the block that it begins with. At each turn what is left to
-- write, over the words so far, makes the words of the whole list.
use Rattle.std.proofs.Common.{◌≡◌, ◌+◌, ◌-◌, ◌*◌, ◌≤◌, length}
use Rattle.std.proofs.lemmas.List.Edits.{sets}
use Rattle.blocks.specs.Table.{row_words}
use Rattle.lists.specs.Lists.{list_in}
use Rattle.table.specs.Inner.Rows.{words_in}
use Rattle.table.proofs.Program.+block_opening.Given as goal

abbrev pub decreases-block : goal.decreases-block
decreases-block l = 2 * (length l.self.now.kinds.now - l.n) + 1

abbrev pub decreases-opening : goal.decreases-opening
decreases-opening l = 2 * (length l.self.now.kinds.now - l.n)

abbrev pub invariant-block-loop-kind : goal.invariant-block-loop-kind
invariant-block-loop-kind l =
    (l.n ≤ l.m)
    × (length l.work ≡ length l.initial.work)
    × (sets l.work (row_words * l.m) (words_in l.self.kinds.now l.self.places.now l.targets l.m (list_in l.self.kinds.now l.m))
    ≡ sets l.initial.work (row_words * l.n) (words_in l.self.kinds.now l.self.places.now l.targets l.n (list_in l.self.kinds.now l.n)))

abbrev pub decreases-block-loop-kind : goal.decreases-block-loop-kind
decreases-block-loop-kind l = length l.self.kinds.now - l.m
