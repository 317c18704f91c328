-- Which files may be run over what is lent, by lengths alone: the refusals of the check, and after them those for what is lent.
-- Assumes nothing.
use Rattle.std.specs.Prelude.{ℕ, ◌*◌, Bool, cond, List, eqb, ltb}
use Rattle.format.specs.Files.{lent_registers}
use Rattle.format.specs.Refusals.{inputs_short, constants_short, registers_short, working_short, memory_long}
use Rattle.blocks.specs.Table.{row_words}
use Rattle.checker.specs.Findings.{Seen}
use Rattle.checker.specs.Check.{Outcome, accepted, refused, check_of}
use Rattle.admission.specs.declared.Sizes.{Sizes}

-- "working words under 3 per instruction"
abbrev pub work_short : Seen → ℕ → Bool
work_short s work = ltb work (row_words * s.instructions)

-- "20-24: run only .., after all above, in order, place 0: inputs, constants shorter than 4·(highest declared+1) words, 0 if none
-- is declared; registers under 1,156; working words under 3 per instruction; memory over 16,384 words" (01, Refusals by number)
-- The number, 0 where none is due.
unfoldable pub lent_refusal : Seen → Sizes → ℕ
lent_refusal s lent =
    cond (ltb lent.inputs (4 * s.inputs)) inputs_short
    (cond (ltb lent.constants (4 * s.constants)) constants_short
    (cond (ltb lent.registers lent_registers) registers_short
    (cond (work_short s lent.work) working_short
    (cond (ltb 16384 lent.memory) memory_long 0))))

abbrev pub admitted : Outcome → Sizes → Outcome
admitted (refused number place) lent = refused number place
admitted (accepted s) lent = cond (eqb (lent_refusal s lent) 0) (accepted s) (refused (lent_refusal s lent) 0)

-- The program that may be run, or the first refusal due.
unfoldable pub admission_of : List ℕ → Sizes → Outcome
admission_of file lent = admitted (check_of file) lent
