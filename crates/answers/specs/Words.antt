-- What the C interface answers: the library's answers in words, by numbers of status.
-- Assumes nothing.
use Rattle.std.specs.Prelude.{ℕ, min, cond, List, eqb}
use Rattle.format.specs.declared.records.Bounds.{Bounds}
use Rattle.checker.specs.Check.{Told, follows, breaks}
use Rattle.preparation.specs.Preparing.{Preparation}
use Rattle.runner.specs.Answers.{said, end, halt, unanswered, Lent, Result}
use Rattle.runner.specs.Answers.{Answer as Library}
use Rattle.text.specs.Output.{wrote, refusal, Written}
use Rattle.text.specs.Output.{Answer as Output}
use Rattle.answers.specs.declared.Answer.{Answer}
use Rattle.answers.specs.declared.Part.{Part}

abbrev pub words : ℕ → ℕ → ℕ → Answer
words status first second = record { status = status; first = first; second = second }

-- Status 0 is done, 1 halted, 2 refused. A word that a status does not use is 0. What no run answers has a status of its own.
abbrev pub told_words : Told → Answer
told_words (follows instructions) = words 0 instructions 0
told_words (breaks number place) = words 2 number place

abbrev pub answer_of : Library → Answer
answer_of (said t) = told_words t
answer_of (end report) = words 0 report.steps 0
answer_of (halt report next) = words 1 report.steps next
answer_of unanswered = words 3 0 0

-- A length or a place as a word: the greatest word stands for whatever is greater.
abbrev pub in_word : ℕ → ℕ
in_word n = min n 4294967295

-- The first word of a call that writes to an output is how many bytes it wrote.
abbrev pub filled_words : Output → Answer
filled_words (wrote length) = words 0 (in_word length) 0
filled_words (refusal number place) = words 2 number (in_word place)

-- How many steps the answer to a run reports.
abbrev pub steps_in : Answer → ℕ
steps_in a = cond (eqb a.status 2) 0 a.first

-- What a host holds after a preparing: the answer in words, and the working words.
pub record Prepared : Type 0 where
  pub answer : Answer
  pub work : List ℕ

abbrev pub after_preparing : Answer → List ℕ → Prepared
after_preparing answer work = record { answer = answer; work = work }

abbrev pub preparation_in_words : Preparation → Prepared
preparation_in_words x = after_preparing (told_words x.answer) x.work

-- What a host holds after a run: the answer in words, and every lent word.
pub record Ran : Type 0 where
  pub answer : Answer
  pub lent : Lent

abbrev pub after_run : Answer → Lent → Ran
after_run answer words = record { answer = answer; lent = words }

abbrev pub result_in_words : Result → Ran
result_in_words x = record { answer = answer_of x.answer; lent = x.lent }

-- What a host holds after a call that writes to an output: the answer in words, and the output's bytes.
pub record FilledOutput : Type 0 where
  pub answer : Answer
  pub output : List ℕ

abbrev pub after_filling : Answer → List ℕ → FilledOutput
after_filling answer output = record { answer = answer; output = output }

abbrev pub written_in_words : Written → FilledOutput
written_in_words x = after_filling (filled_words x.answer) x.output

-- A part of the file: where it starts, and how many bytes it has.
abbrev pub part_of : Bounds → Part
part_of b = record { start = b.start; length = b.length }
