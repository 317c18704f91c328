-- What has been seen of a program, and what is found of its next record: it is taken, or the lowest number of a refusal that
-- applies to it is due.
-- Assumes nothing.
use Rattle.std.specs.Prelude.{ℕ, ◌+◌, ◌*◌, max, List, [], ◌∷◌, ◌++◌, cond, not, eqb, leb, ltb, length, get_or}
use Rattle.format.specs.Files.{CONST, IN}
use Rattle.format.specs.Kinds.{length_of}
use Rattle.format.specs.Records.{size_at}
use Rattle.format.specs.Fields.{word32, declaration_at, case_word}
use Rattle.format.specs.declared.fields.Declaration.{Declaration}
use Rattle.format.specs.Refusals.{unknown_kind, body_cut, late_declaration, too_many, field_rule_broken, overlapping, not_declared}
use Rattle.blocks.specs.Control.{op_of}
use Rattle.blocks.specs.Run.{most_instructions}
use Rattle.blocks.specs.Nesting.{Open, Ruling, goes, refused, rule}
use Rattle.registers.specs.Sets.{Registers, none, with_range}
use Rattle.registers.specs.Rules.{operand_rules, declaration_rule}
use Rattle.registers.specs.Found.{overlaps, operands_found}

-- What has been seen so far: the declared registers; the immediates' words in order, four each; one more than the highest
-- declared IN and CONST, 0 for none; where the instructions begin, which is after the last declaration or immediate; how many
-- instructions there were; and the open blocks, the innermost first.
pub record Seen : Type 0 where
  pub declared : Registers
  pub immediates : List ℕ
  pub inputs : ℕ
  pub constants : ℕ
  pub start : ℕ
  pub instructions : ℕ
  pub blocks : List Open

abbrev pub nothing : Seen
nothing =
    record { declared = none; immediates = []; inputs = 0; constants = 0; start = 0; instructions = 0; blocks = [] }

pub data Finding : Type 0 where
  taken : Seen → Finding
  due : ℕ → Finding

-- "1,025th instruction or 257th immediate"
abbrev pub most_immediates : ℕ
most_immediates = 256

-- ---- Declarations and immediates

-- One more than the highest declared register of file f, after declaration d.
abbrev pub reach : ℕ → Declaration → ℕ → ℕ
reach f d before = cond (eqb d.file f) (max before (d.last + 1)) before

unfoldable pub with_declaration : Seen → Declaration → ℕ → Seen
with_declaration s d next =
    record {
      declared = with_range s.declared d.file d.first d.last;
      immediates = s.immediates;
      inputs = reach IN d s.inputs;
      constants = reach CONST d s.constants;
      start = next;
      instructions = s.instructions;
      blocks = s.blocks;
    }

unfoldable pub declaration_finding : Seen → List ℕ → ℕ → Finding
declaration_finding s file at =
    let d : Declaration = declaration_at file (at + 1) in
    cond (ltb 0 s.instructions) (due late_declaration)
    (cond (not (declaration_rule d)) (due field_rule_broken)
    (cond (overlaps s.declared d) (due overlapping)
    (taken (with_declaration s d (at + size_at file at)))))

-- "immediate: four words", which stand from place p on.
abbrev pub immediate_at : List ℕ → ℕ → List ℕ
immediate_at file p = word32 file p ∷ word32 file (p + 4) ∷ word32 file (p + 8) ∷ word32 file (p + 12) ∷ []

unfoldable pub with_immediate : Seen → List ℕ → ℕ → Seen
with_immediate s file at =
    record {
      declared = s.declared;
      immediates = s.immediates ++ immediate_at file (at + 1);
      inputs = s.inputs;
      constants = s.constants;
      start = at + size_at file at;
      instructions = s.instructions;
      blocks = s.blocks;
    }

unfoldable pub immediate_finding : Seen → List ℕ → ℕ → Finding
immediate_finding s file at =
    cond (ltb 0 s.instructions) (due late_declaration)
    (cond (leb (4 * most_immediates) (length s.immediates)) (due too_many)
    (taken (with_immediate s file at)))

-- ---- Instructions

unfoldable pub with_instruction : Seen → List Open → Seen
with_instruction s blocks =
    record {
      declared = s.declared;
      immediates = s.immediates;
      inputs = s.inputs;
      constants = s.constants;
      start = s.start;
      instructions = s.instructions + 1;
      blocks = blocks;
    }

-- 10, 11 and 12 are what the rule of the blocks says.
abbrev pub nested : Seen → Ruling → Finding
nested s (goes blocks) = taken (with_instruction s blocks)
nested s (refused number) = due number

unfoldable pub instruction_finding : Seen → List ℕ → ℕ → Finding
instruction_finding s file at =
    let kind : ℕ = get_or file at 0 in
    cond (leb most_instructions s.instructions) (due too_many)
    (cond (not (operand_rules kind file at)) (due field_rule_broken)
    (cond (not (operands_found kind s.declared (length s.immediates) file at)) (due not_declared)
    (nested s (rule (op_of kind) (case_word s.immediates file at) s.blocks))))

-- ---- Any record

-- "3: unknown kind. 4: body runs past the file." Each later number is that of one of the three forms.
unfoldable pub record_finding : Seen → List ℕ → ℕ → Finding
record_finding s file at =
    cond (eqb (length_of (get_or file at 0)) 255) (due unknown_kind)
    (cond (eqb (size_at file at) 0) (due body_cut)
    (cond (eqb (get_or file at 0) 0x01) (declaration_finding s file at)
    (cond (eqb (get_or file at 0) 0x02) (immediate_finding s file at)
    (instruction_finding s file at))))
