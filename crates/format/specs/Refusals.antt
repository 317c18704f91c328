-- The refusals by number, each under its row (document 01, "Refusals by number"; document 02, W1).
-- Assumes nothing.
use Rattle.std.specs.Prelude.{ℕ, List, [], ◌∷◌, Option, Result, Ok, Err, codes, find, nat_eq}
use Rattle.format.specs.declared.refusals.Refusal.{Refusal}
use Rattle.format.specs.declared.refusals.Refusal.TheVariants.{TooLong, ByteAfterEnd, UnknownKind, BodyCut, LateDeclaration, TooMany, FieldRuleBroken, Overlapping, NotDeclared, NestingBroken, SwitchRuleBroken, TooDeep, NoEnd, InputsShort, ConstantsShort, RegistersShort, WorkingShort, MemoryLong, MalformedLine, OutputShort}

-- "file over 65,536 bytes (place 0, before all else)"
abbrev pub too_long : ℕ
too_long = 1

-- "a byte follows an END that no later row refuses (place of that byte)"
abbrev pub byte_after_end : ℕ
byte_after_end = 2

-- "unknown kind"
abbrev pub unknown_kind : ℕ
unknown_kind = 3

-- "body runs past the file"
abbrev pub body_cut : ℕ
body_cut = 4

-- "declaration or immediate after an instruction"
abbrev pub late_declaration : ℕ
late_declaration = 5

-- "1,025th instruction or 257th immediate"
abbrev pub too_many : ℕ
too_many = 6

-- "a field rule broken"
abbrev pub field_rule_broken : ℕ
field_rule_broken = 7

-- "declaration overlaps an earlier one of its file"
abbrev pub overlapping : ℕ
overlapping = 8

-- "direct operand not declared, or no such immediate; indirect with ADDR or the whole file undeclared; memory kind without MEM"
abbrev pub not_declared : ℕ
not_declared = 9

-- "nesting broken"
abbrev pub nesting_broken : ℕ
nesting_broken = 10

-- "switch rule broken"
abbrev pub switch_rule_broken : ℕ
switch_rule_broken = 11

-- "a 17th open block"
abbrev pub too_deep : ℕ
too_deep = 12

-- "file ends without END (place: file length)"
abbrev pub no_end : ℕ
no_end = 13

-- "20-24: run only (preparing alone: 23 only), after all above, in order, place 0"

-- "inputs, constants shorter than 4·(highest declared+1) words, 0 if none is declared"
abbrev pub inputs_short : ℕ
inputs_short = 20

abbrev pub constants_short : ℕ
constants_short = 21

-- "registers under 1,156"
abbrev pub registers_short : ℕ
registers_short = 22

-- "working words under 3 per instruction"
abbrev pub working_short : ℕ
working_short = 23

-- "memory over 16,384 words"
abbrev pub memory_long : ℕ
memory_long = 24

-- "in reading, 30 malformed line (also an unknown kind or a number too large for its field; place: its first byte)" (document 02, W1)
abbrev pub malformed_line : ℕ
malformed_line = 30

-- "31 output short" (document 02, W1)
abbrev pub output_short : ℕ
output_short = 31

abbrev pub number_of : Refusal → ℕ
number_of TooLong = too_long
number_of ByteAfterEnd = byte_after_end
number_of UnknownKind = unknown_kind
number_of BodyCut = body_cut
number_of LateDeclaration = late_declaration
number_of TooMany = too_many
number_of FieldRuleBroken = field_rule_broken
number_of Overlapping = overlapping
number_of NotDeclared = not_declared
number_of NestingBroken = nesting_broken
number_of SwitchRuleBroken = switch_rule_broken
number_of TooDeep = too_deep
number_of NoEnd = no_end
number_of InputsShort = inputs_short
number_of ConstantsShort = constants_short
number_of RegistersShort = registers_short
number_of WorkingShort = working_short
number_of MemoryLong = memory_long
number_of MalformedLine = malformed_line
number_of OutputShort = output_short

-- The number that is due, 0 where nothing is refused.
abbrev pub number_due : Result (Unit {0}) Refusal → ℕ
number_due (Ok _) = 0
number_due (Err refusal) = number_of refusal

-- What a refusal says to a person, in the papers' words.
abbrev pub meaning_of : Refusal → List ℕ
meaning_of TooLong = codes "file over 65,536 bytes"
meaning_of ByteAfterEnd = codes "a byte follows END"
meaning_of UnknownKind = codes "unknown kind"
meaning_of BodyCut = codes "body runs past the file"
meaning_of LateDeclaration = codes "declaration or immediate after an instruction"
meaning_of TooMany = codes "1,025th instruction or 257th immediate"
meaning_of FieldRuleBroken = codes "a field rule broken"
meaning_of Overlapping = codes "declaration overlaps an earlier one of its file"
meaning_of NotDeclared = codes "operand not declared, or no such immediate, or memory kind without MEM"
meaning_of NestingBroken = codes "nesting broken"
meaning_of SwitchRuleBroken = codes "switch rule broken"
meaning_of TooDeep = codes "a 17th open block"
meaning_of NoEnd = codes "file ends without END"
meaning_of InputsShort = codes "inputs shorter than the program declares"
meaning_of ConstantsShort = codes "constants shorter than the program declares"
meaning_of RegistersShort = codes "registers under 1,156 words"
meaning_of WorkingShort = codes "working words under 3 per instruction"
meaning_of MemoryLong = codes "memory over 16,384 words"
meaning_of MalformedLine = codes "malformed line, also an unknown kind or a number too large for its field"
meaning_of OutputShort = codes "output short"

-- All of them, in the order of their numbers.
abbrev pub refusals : List Refusal
refusals =
    TooLong ∷ ByteAfterEnd ∷ UnknownKind ∷ BodyCut ∷ LateDeclaration ∷ TooMany ∷ FieldRuleBroken ∷ Overlapping ∷ NotDeclared ∷ NestingBroken ∷
    SwitchRuleBroken ∷ TooDeep ∷ NoEnd ∷ InputsShort ∷ ConstantsShort ∷ RegistersShort ∷ WorkingShort ∷ MemoryLong ∷ MalformedLine ∷
    OutputShort ∷ []

-- The refusal that has a number, where there is one.
abbrev pub refusal_of : ℕ → Option Refusal
refusal_of n = find (λ r. nat_eq (number_of r) n) refusals
