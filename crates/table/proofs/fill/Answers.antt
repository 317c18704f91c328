-- Where there is room, the outermost list's rows, written from row 0, are the table.
use native.Mathlib.Omega.{arith}
use Rattle.table.proofs.Filled.{fill_table}
use Rattle.table.proofs.fill.Goals as goal

pub returns : goal.returns
returns c = fill_table _ _ _ _ _ _ (omega arith) (omega arith) (omega arith) c.locate-found.ensures (omega arith) _ c.block.ensures
