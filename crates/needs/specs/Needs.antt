-- What a run of a file needs, in words: from what the check has seen of the program, and from nothing else.
-- Assumes nothing.
use Rattle.std.specs.Prelude.{ℕ, ◌*◌, ◌^◌, cond, List}
use Rattle.words.specs.Word.{sum}
use Rattle.format.specs.Files.{OUT, MEM, registers_of}
use Rattle.blocks.specs.Table.{row_words}
use Rattle.registers.specs.Sets.{Registers}
use Rattle.checker.specs.Findings.{Seen}
use Rattle.checker.specs.Check.{Outcome, accepted, refused, check_of}
use Rattle.needs.specs.declared.Needs.{Needs}

-- "3 OUT 0-31" (01, Register files): bit i is 1 where OUT[i] is declared, and 0 where it is not.
unfoldable pub outputs_in : Registers → ℕ
outputs_in declared = sum (registers_of OUT) (λ i. cond (declared OUT i) 1 0 * 2 ^ i)

-- "7 MEM 0" (01, Register files): 1 where it is declared, and 0 where it is not.
abbrev pub memory_in : Registers → ℕ
memory_in declared = cond (declared MEM 0) 1 0

-- Of an accepted program. "inputs, constants shorter than 4·(highest declared+1) words, 0 if none is declared; .. working words
-- under 3 per instruction" (01, Refusals by number): as many as are not refused for being too few.
unfoldable pub needed : Seen → Needs
needed s =
    record {
      status = 0;
      first = s.instructions;
      second = 0;
      instructions = s.instructions;
      work = row_words * s.instructions;
      inputs = 4 * s.inputs;
      constants = 4 * s.constants;
      outputs = outputs_in s.declared;
      memory = memory_in s.declared;
    }

-- "A refusal returns its number and a byte place" (01, Refusals by number); nothing is said of what a refused file needs.
abbrev pub denied : ℕ → ℕ → Needs
denied number place =
    record {
      status = 2;
      first = number;
      second = place;
      instructions = 0;
      work = 0;
      inputs = 0;
      constants = 0;
      outputs = 0;
      memory = 0;
    }

abbrev pub needs_in : Outcome → Needs
needs_in (accepted s) = needed s
needs_in (refused number place) = denied number place

unfoldable pub needs_of : List ℕ → Needs
needs_of file = needs_in (check_of file)
