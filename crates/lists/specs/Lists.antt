-- The nested lists by the kinds of a program's instructions: what the functions of src/lib.rt promise.
-- Assumes nothing.
use Rattle.std.specs.Prelude.{ℕ, List, length, get_or}
use Rattle.blocks.specs.Control.{Op, op_of}
use Rattle.blocks.specs.Lists.{Items, nil, one, uif, loop, switch, list_at}

-- The block that a list begins with, alone; none where its first instruction opens none.
abbrev pub block_of : Items → Items
block_of nil = nil
block_of (one n rest) = nil
block_of (uif n p q rest) = uif n p q nil
block_of (loop n l rest) = loop n l nil
block_of (switch n l rest) = switch n l nil

-- By the kinds of a program's instructions:
module _ (kinds : List ℕ) where
  abbrev pub op_in : ℕ → Op
  op_in n = op_of (get_or kinds n 0)

  -- the list whose first instruction is number n, and the block that instruction n opens
  abbrev pub list_in : ℕ → Items
  list_in n = list_at op_in (length kinds) n

  abbrev pub block_in : ℕ → Items
  block_in n = block_of (list_in n)
