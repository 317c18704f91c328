-- The field rules of document 01, sentence by sentence. A record that breaks one is refused with 7.
-- Assumes nothing.
use Rattle.std.specs.Prelude.{ℕ, zero, suc, ◌+◌, List, Bool, true, cond, not, ◌&&◌, ◌||◌, eqb, leb, ltb}
use Rattle.format.specs.Files.{CONST, IN, OUT, TEMP, ADDR, IMM, MEM, registers_of}
use Rattle.format.specs.Kinds.{destinations, sources, form_of, first_source, within}
use Rattle.format.specs.Fields.{destination_at, source_at, negates, is_indirect}
use Rattle.format.specs.declared.fields.Destination.{Destination}
use Rattle.format.specs.declared.fields.Source.{Source}
use Rattle.format.specs.declared.fields.Declaration.{Declaration}

-- ---- Kinds that a rule names

abbrev pub UARL : ℕ
UARL = 0x1A

abbrev pub STORE : ℕ
STORE = 0x58

abbrev pub CASE : ℕ
CASE = 0x92

-- I64ABS I64NEG I64SSG, and U64ADD to U64SHR.
abbrev pub wide_result : ℕ → Bool
wide_result kind = within 0x1B 0x1D kind || within 0x40 0x4C kind

-- U64SEQ to I64SGE: "64-bit comparisons (4D-52)"
abbrev pub wide_comparison : ℕ → Bool
wide_comparison kind = within 0x4D 0x52 kind

-- "Negate only in kinds 12-14, 20-37, 60."
abbrev pub may_negate : ℕ → Bool
may_negate kind = within 0x12 0x14 kind || within 0x20 0x37 kind || eqb kind 0x60

-- LOAD, ATOMIMIN to ATOMUMAX with STORE among them, and ATOMCAS.
abbrev pub memory_kind : ℕ → Bool
memory_kind kind = eqb kind 0x1E || within 0x56 0x5F kind || eqb kind 0x64

-- ---- Destinations

-- "Destination OUT or TEMP; UARL only ADDR; STORE only MEM."
abbrev pub destination_file : ℕ → ℕ → Bool
destination_file kind f =
    cond (eqb kind UARL) (eqb f ADDR)
    (cond (eqb kind STORE) (eqb f MEM)
    (eqb f OUT || eqb f TEMP))

-- "Mask 1-15; 64-bit results 3, 12 or 15; 64-bit comparisons (4D-52) 1, 4 or 5."
abbrev pub mask_rule : ℕ → ℕ → Bool
mask_rule kind mask =
    cond (wide_result kind) (eqb mask 3 || eqb mask 12 || eqb mask 15)
    (cond (wide_comparison kind) (eqb mask 1 || eqb mask 4 || eqb mask 5)
    (within 1 15 mask))

unfoldable pub destination_rule : ℕ → Destination → Bool
destination_rule kind d = destination_file kind d.file && mask_rule kind d.mask

-- ---- Sources

-- "Sources CONST, IN, TEMP, IMM." "Modifier 0-9." "Negate only in kinds 12-14, 20-37, 60." "Indirect only for CONST and
-- TEMP." "CASE takes IMM, modifier 0."
unfoldable pub source_rule : ℕ → Source → Bool
source_rule kind s =
    (eqb s.file CONST || eqb s.file IN || eqb s.file TEMP || eqb s.file IMM)
    && leb s.modifier 9
    && (not (negates s) || may_negate kind)
    && (not (is_indirect s) || (eqb s.file CONST || eqb s.file TEMP))
    && (not (eqb kind CASE) || eqb s.file IMM && eqb s.modifier 0)

-- ---- The operands of an instruction

-- Whether n sources, which stand from place p on, five bytes each, are all as asked.
abbrev pub all_sources : (Source → Bool) → List ℕ → ℕ → ℕ → Bool
all_sources asked file p zero = true
all_sources asked file p (suc n) = asked (source_at file p) && all_sources asked file (p + 5) n

-- Whether all operands of an instruction of this kind at a place are as asked: the destination, if it has one, and the
-- sources after it.
unfoldable pub all_operands : ℕ → (Destination → Bool) → (Source → Bool) → List ℕ → ℕ → Bool
all_operands kind askedD askedS file at =
    (eqb (destinations (form_of kind)) 0 || askedD (destination_at file (at + 1)))
    && all_sources askedS file (at + first_source kind) (sources (form_of kind))

abbrev pub operand_rules : ℕ → List ℕ → ℕ → Bool
operand_rules kind file at = all_operands kind (destination_rule kind) (source_rule kind) file at

-- ---- Declarations

-- "A declaration names files 1-5 or 7, first at most last, last within the file."
unfoldable pub declaration_rule : Declaration → Bool
declaration_rule d =
    (within CONST ADDR d.file || eqb d.file MEM) && leb d.first d.last && ltb d.last (registers_of d.file)
