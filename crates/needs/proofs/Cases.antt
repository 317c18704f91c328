-- Two files: one that declares registers of every file with gaps, and one that is refused after it has declared some.
-- Assumes nothing.
use mathlib.Core.Path.{◌≡◌, refl}
use mathlib.Core.List.{List, [], ◌∷◌}
use Prim.Native.Nat.{ℕ}
use Rattle.words.specs.Word.{sum}
use Rattle.format.specs.Kinds.{length_of}
use Rattle.format.specs.Fields.{word16, word32, declaration_at, case_word}
use Rattle.format.specs.Records.{size_at}
use Rattle.blocks.specs.Control.{op_of}
use Rattle.registers.specs.Rules.{declaration_rule, all_operands}
use Rattle.registers.specs.Found.{operands_found}
use Rattle.checker.specs.Findings.{with_declaration, declaration_finding, with_instruction, instruction_finding, record_finding}
use Rattle.checker.specs.Check.{walk, check_of}
use Rattle.needs.specs.declared.Needs.{Needs}
use Rattle.needs.specs.Needs.{outputs_in, needed, needs_of}

numbers : Needs → List ℕ
numbers n =
    n.status ∷ n.first ∷ n.second ∷ n.instructions ∷ n.work ∷ n.inputs ∷ n.constants ∷ n.outputs ∷ n.memory ∷ []

-- IN[2] to IN[4], CONST[7], OUT[0], OUT[5] and OUT[6], OUT[31], MEM, TEMP[1], NOP, END
program : List ℕ
program =
    0x01 ∷ 2 ∷ 2 ∷ 0 ∷ 4 ∷ 0 ∷ 0x01 ∷ 1 ∷ 7 ∷ 0 ∷ 7 ∷ 0 ∷ 0x01 ∷ 3 ∷ 0 ∷ 0 ∷ 0 ∷ 0 ∷ 0x01 ∷ 3 ∷ 5 ∷ 0 ∷ 6 ∷ 0
    ∷ 0x01 ∷ 3 ∷ 31 ∷ 0 ∷ 31 ∷ 0 ∷ 0x01 ∷ 7 ∷ 0 ∷ 0 ∷ 0 ∷ 0 ∷ 0x01 ∷ 4 ∷ 1 ∷ 0 ∷ 1 ∷ 0 ∷ 0x80 ∷ 0x89 ∷ []

-- OUT[0] to OUT[3], NOP, and a declaration too late at byte 7
late : List ℕ
late = 0x01 ∷ 3 ∷ 0 ∷ 0 ∷ 3 ∷ 0 ∷ 0x80 ∷ 0x01 ∷ 3 ∷ 9 ∷ 0 ∷ 9 ∷ 0 ∷ 0x89 ∷ []

cases : numbers (needs_of program) ∷ numbers (needs_of late) ∷ []
    ≡ (0 ∷ 2 ∷ 0 ∷ 2 ∷ 6 ∷ 20 ∷ 32 ∷ 0x8000_0061 ∷ 1 ∷ [])
    ∷ (2 ∷ 5 ∷ 7 ∷ 0 ∷ 0 ∷ 0 ∷ 0 ∷ 0 ∷ 0 ∷ [])
    ∷ []
unfolding numbers program late length_of word16 word32 declaration_at case_word size_at op_of walk check_of with_declaration declaration_finding with_instruction instruction_finding record_finding declaration_rule all_operands operands_found sum outputs_in needed needs_of
cases = refl
