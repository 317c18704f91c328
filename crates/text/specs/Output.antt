-- A lent output, and what a call that writes to it answers.
-- Assumes nothing.
use Rattle.std.specs.Prelude.{ℕ, cond, List, ltb, length, Result, Ok, Err}
use Rattle.std.proofs.lemmas.List.Edits.{sets}
use Rattle.format.specs.Refusals.{number_of, output_short}
use Rattle.format.specs.declared.refusals.Refused.{Refused}

-- How many bytes were written, or the number of a refusal and its place.
pub data Answer : Type 0 where
  wrote : ℕ → Answer
  refusal : ℕ → ℕ → Answer

abbrev pub answered : Result ℕ (Refused ℕ) → Answer
answered (Ok n) = wrote n
answered (Err r) = refusal (number_of r.refusal) r.place

-- What a call leaves: its answer, and the bytes of the output.
pub record Written : Type 0 where
  pub answer : Answer
  pub output : List ℕ

abbrev pub written : Answer → List ℕ → Written
written answer output = record { answer = answer; output = output }

-- "a lent output is written from its front ..; the result gives the length, and bytes past it stay" (document 02, W1);
-- "31 output short" at place 0 (document 01: "0 from number 20 up, unless stated")
unfoldable pub delivered : List ℕ → List ℕ → Written
delivered text output =
    cond (ltb (length output) (length text)) (written (refusal output_short 0) output)
    (written (wrote (length text)) (sets output 0 text))
