-- Preparing alone: the refusals of the check, 23, and the words that it leaves (document 01, Blocks).
-- Assumes nothing.
use Rattle.std.specs.Prelude.{ℕ, cond, List, length}
use Rattle.std.proofs.lemmas.List.Edits.{sets}
use Rattle.format.specs.Refusals.{working_short}
use Rattle.table.specs.Prepared.{table_words}
use Rattle.checker.specs.Findings.{Seen}
use Rattle.checker.specs.Check.{Told, follows, breaks, Outcome, accepted, refused, check_of}
use Rattle.admission.specs.Admission.{work_short}

-- Preparing is lent the working words alone.
pub record Preparation : Type 0 where
  pub answer : Told
  pub work : List ℕ

abbrev pub prepare_after : Told → List ℕ → Preparation
prepare_after answer work = record { answer = answer; work = work }

-- "The prepared table has three words an instruction: byte place, jump, label. .. Words past the last row stay." (01, Blocks)
abbrev pub prepared_in : Seen → List ℕ → List ℕ → List ℕ
prepared_in s file work = sets work 0 (table_words file s.start s.instructions)

abbrev pub prepare_accepted : Outcome → List ℕ → List ℕ → Preparation
prepare_accepted (refused number place) file work = prepare_after (breaks number place) work
prepare_accepted (accepted s) file work =
    cond (work_short s (length work)) (prepare_after (breaks working_short 0) work)
    (prepare_after (follows s.instructions) (prepared_in s file work))

-- "preparing alone: 23 only"
unfoldable pub prepare_of : List ℕ → List ℕ → Preparation
prepare_of file work = prepare_accepted (check_of file) file work
