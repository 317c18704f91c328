-- The block that an instruction opens: where its lists are, the instruction's row, and where the instructions of its lists go.
-- Assumes nothing.
use Rattle.std.specs.Prelude.{ℕ, suc, ◌+◌, cond}
use Rattle.blocks.specs.Control.{Op, BGNLOOP, SWITCH, is}
use Rattle.blocks.specs.Lists.{Items, nil, one, uif, loop, switch, size}
use Rattle.blocks.specs.declared.Targets.{Targets}
use Rattle.blocks.specs.Table.{Row, row, in_uif, in_loop, in_switch, uif_row, loop_row, switch_row}
use Rattle.rows.specs.declared.Opened.{Opened}

-- The number past the first list of a block at n.
abbrev pub past_first : ℕ → Items → ℕ
past_first n nil = n
past_first n (one m rest) = n
past_first n (uif m p q rest) = suc n + size p
past_first n (loop m l rest) = suc n + size l
past_first n (switch m l rest) = suc n + size l

module _ (op : ℕ → Op) where
  -- The row of the instruction that opens the block.
  abbrev pub first_row : ℕ → Items → Row
  first_row n nil = row 0 0
  first_row n (one m rest) = row 0 0
  first_row n (uif m p q rest) = uif_row n p
  first_row n (loop m l rest) = loop_row
  first_row n (switch m l rest) = switch_row op n l

  -- Of a block alone, or of none.
  abbrev pub opened_by : ℕ → Items → Opened
  opened_by n l = record { end = n + size l; second = past_first n l; jump = (first_row n l).jump; label = (first_row n l).label }

-- The targets in the lists of a block, the first of which starts at instruction `first`, and which ends before `end`.
abbrev pub inside_of : Op → ℕ → ℕ → Targets → Targets
inside_of o first end t = cond (is BGNLOOP o) (in_loop first end) (cond (is SWITCH o) (in_switch end t) (in_uif end t))
