-- Whether what a record names has been seen before: the registers of a declaration, which is then refused with 8, and the
-- registers and immediates of an instruction, which is refused with 9 where one has not.
-- Assumes nothing.
use Rattle.std.specs.Prelude.{ℕ, ◌+◌, ◌-◌, ◌*◌, List, Bool, cond, not, ◌&&◌, ◌||◌, eqb, ltb}
use Rattle.format.specs.Files.{ADDR, IMM, MEM, registers_of}
use Rattle.format.specs.Fields.{is_indirect}
use Rattle.format.specs.declared.fields.Destination.{Destination}
use Rattle.format.specs.declared.fields.Source.{Source}
use Rattle.format.specs.declared.fields.Declaration.{Declaration}
use Rattle.registers.specs.Sets.{Registers, any_of}
use Rattle.registers.specs.Rules.{memory_kind, all_operands}

-- "declaration overlaps an earlier one of its file"
abbrev pub overlaps : Registers → Declaration → Bool
overlaps declared d = any_of (declared d.file) d.first (d.last + 1 - d.first)

-- "direct operand not declared, or no such immediate", the immediates having so many words
abbrev pub direct_found : Registers → ℕ → ℕ → ℕ → Bool
direct_found declared words f i = cond (eqb f IMM) (ltb (4 * i) words) (declared f i)

-- "indirect with ADDR or the whole file undeclared"
abbrev pub indirect_found : Registers → ℕ → Bool
indirect_found declared f = declared ADDR 0 && any_of (declared f) 0 (registers_of f)

abbrev pub destination_found : Registers → Destination → Bool
destination_found declared d = declared d.file d.index

unfoldable pub source_found : Registers → ℕ → Source → Bool
source_found declared words s =
    cond (is_indirect s) (indirect_found declared s.file) (direct_found declared words s.file s.index)

-- Where this fails an instruction is refused with 9, "memory kind without MEM" too.
unfoldable pub operands_found : ℕ → Registers → ℕ → List ℕ → ℕ → Bool
operands_found kind declared words file at =
    all_operands kind (destination_found declared) (source_found declared words) file at
    && (not (memory_kind kind) || declared MEM 0)
