-- What a call answers, in document 01's numbers, and what it leaves in the lent words.
-- Assumes nothing.
use Rattle.std.specs.Prelude.{ℕ, List, Ok, Err}
use Rattle.std.specs.Prelude.{Result as Fallible}
use Rattle.format.specs.Refusals.{number_of}
use Rattle.format.specs.declared.refusals.Refused.{Refused}
use Rattle.checker.specs.Check.{Told, breaks}
use Rattle.execution.specs.declared.Report.{Report}
use Rattle.runner.specs.declared.Outcome.{Outcome}

-- What a run answers: a refusal, as a check says it; the report of a run that ended; the report of one that halted, and its next
-- instruction's number. No outcome is `unanswered`.
pub data Answer : Type 0 where
  said : Told → Answer
  end : Report → Answer
  halt : Report → ℕ → Answer
  unanswered : Answer

abbrev pub run_answer : Fallible Outcome (Refused ℕ) → Answer
run_answer (Ok (Outcome.Ended report)) = end report
run_answer (Ok (Outcome.Halted report next)) = halt report next
run_answer (Err due) = said (breaks (number_of due.refusal) due.place)

-- How many steps an answer reports.
abbrev pub steps_of : Answer → ℕ
steps_of (said t) = 0
steps_of (end report) = report.steps
steps_of (halt report next) = report.steps
steps_of unanswered = 0

-- What a run writes: register words, working words and data memory, and nothing else.
pub record Lent : Type 0 where
  pub registers : List ℕ
  pub work : List ℕ
  pub memory : List ℕ

abbrev pub lent : List ℕ → List ℕ → List ℕ → Lent
lent registers work memory = record { registers = registers; work = work; memory = memory }

pub record Result : Type 0 where
  pub answer : Answer
  pub lent : Lent

abbrev pub after : Answer → Lent → Result
after answer words = record { answer = answer; lent = words }
