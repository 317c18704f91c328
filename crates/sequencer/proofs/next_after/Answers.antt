-- Each arm is what comes next after a control instruction, or the next instruction.
use Rattle.std.proofs.Common.{rules}
use Rattle.sequencer.proofs.Nexts.{else_next, end_next, falls_above, falls_below, jump_next, switch_next, uif_false, uif_true}
use Rattle.sequencer.proofs.next_after.Goals as goal

pub returns-in-129 : goal.returns-in-129
returns-in-129 c = search (rules, else_next)

pub returns-in-132-to-134 : goal.returns-in-132-to-134
returns-in-132-to-134 c = search (rules, jump_next)

pub returns-in-137 : goal.returns-in-137
returns-in-137 c = search (rules, end_next)

pub returns-then-x-eq0 : goal.returns-then-x-eq0
returns-then-x-eq0 c = search (rules, uif_false)

pub returns-else-x-eq0 : goal.returns-else-x-eq0
returns-else-x-eq0 c = search (rules, uif_true)

pub returns-in-145 : goal.returns-in-145
returns-in-145 c = search (rules, switch_next)

pub returns-in_default : goal.returns-in_default
returns-in_default c = search (rules, falls_below)

pub returns-in_default-2 : goal.returns-in_default-2
returns-in_default-2 c = search (rules, falls_above)
