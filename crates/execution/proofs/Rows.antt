-- The words that preparing writes are right for the program: each instruction's place and row stand where they are looked for.
-- Assumes nothing.
use mathlib.Core.Path.{◌≡◌}
use mathlib.Core.List.{List, []}
use mathlib.Core.Bool.{true}
use Prim.Native.Nat.{ℕ, ◌*◌, ◌≤◌}
use lib.ListN.{length}
use lib.Seq.{sets}
use Rattle.format.specs.Fields.{case_word}
use Rattle.blocks.specs.Nesting.{accepts}
use Rattle.blocks.specs.Table.{row_words}
use Rattle.table.specs.Prepared.{op_from, table_words}
use Rattle.table.proofs.Filled.{filled_place, filled_row}
use Rattle.checker.specs.Check.{accepted, check_of}
use Rattle.checker.specs.Findings.{Seen}
use Rattle.checker.proofs.Followed.{followed}
use Rattle.execution.specs.Program.{place_of}
use Rattle.execution.specs.Inner.Right.{Right}

module _ (s : Seen) (file : List ℕ) (ok : check_of file ≡ accepted s) (work : List ℕ) (room : row_words * s.instructions ≤ length work) where
  abbrev value : ℕ → ℕ
  value n = case_word s.immediates file (place_of s file n)

  nested : accepts (op_from file s.start) value s.instructions 0 [] ≡ true
  nested = (followed file s ok).1.nested

  pub prepared_right : Right s file (sets work 0 (table_words file s.start s.instructions))
  prepared_right = record {
    places = filled_place file s.start s.instructions work value room nested;
    steers = filled_row file s.start s.instructions work value room nested;
  }
