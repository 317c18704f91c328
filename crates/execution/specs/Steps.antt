-- Carrying out by the rows of a table that stand in lent words, over the bank: what the functions of this crate leave.
-- Assumes nothing.
use Rattle.std.specs.Prelude.{ℕ, zero, suc, cond, List, ltb}
use Rattle.blocks.specs.Control.{Machine}
use Rattle.blocks.specs.Reading.{Reading, ended, halted}
use Rattle.blocks.specs.Run.{most_instructions, follow, step}
use Rattle.blocks.specs.Table.{row_in, place_in}
use Rattle.destinations.specs.Destinations.{State}
use Rattle.sources.specs.Operands.{Env}
use Rattle.machine.specs.Step.{machine_of}
use Rattle.execution.specs.declared.Report.{Report}
use Rattle.execution.specs.declared.Stop.{Stop}

-- A report of so many steps.
abbrev pub report : ℕ → Report
report steps = record { steps = steps }

-- How the run stopped, and the state that the lent words hold then.
abbrev pub reached : Stop → State → Reading State
reached (Stop.Ended told) s = ended told.steps s
reached (Stop.Halted told next) s = halted next told.steps s

module _ (file rows : List ℕ) (e : Env) where
  abbrev pub machine_by : Machine State
  machine_by = machine_of e file (place_in rows)

  -- From instruction n after c steps, `left` more at most. Rows that are right lead to no instruction past a program's last, so
  -- that the run stops there is of no matter (`rows_run`).
  unfoldable pub by_rows : ℕ → ℕ → ℕ → State → Reading State
  by_rows zero c n s = halted n c s
  by_rows (suc left) c n s =
      cond (ltb n most_instructions)
      (follow (by_rows left (suc c)) (suc c) (step machine_by (row_in rows) n s).next (step machine_by (row_in rows) n s).state)
      (halted n c s)
