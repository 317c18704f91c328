-- Which rows in lent words are right for a program.
-- Assumes nothing.
use Rattle.std.specs.Prelude.{ℕ, ◌<◌, ◌≡◌, List}
use Rattle.blocks.specs.Table.{row_at, row_in, place_in, table}
use Rattle.table.specs.Prepared.{op_from}
use Rattle.checker.specs.Findings.{Seen}
use Rattle.execution.specs.Program.{place_of, lists_of}

-- The rows in lent words are right for a program: of each of its instructions the byte place, and the row of the table. Then the run
-- by them is the block reading (`rows_read`).
pub record Right (s : Seen) (file rows : List ℕ) : Type 0 where
  pub places : (n : ℕ) → n < s.instructions → place_in rows n ≡ place_of s file n
  pub steers : (n : ℕ) → n < s.instructions → row_in rows n ≡ row_at (table (op_from file s.start) (lists_of s file)) n
