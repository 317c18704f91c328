-- No refusal has the number 0, which stands for none.
-- Assumes nothing.
use mathlib.Core.Path.{◌≡◌, refl}
use mathlib.Core.Bool.{false}
use lib.Dec.{eqb}
use Rattle.format.specs.Refusals.{number_of}
use Rattle.format.specs.declared.refusals.Refusal.{Refusal}
use Rattle.format.specs.declared.refusals.Refusal.TheVariants.{TooLong, ByteAfterEnd, UnknownKind, BodyCut, LateDeclaration, TooMany, FieldRuleBroken, Overlapping, NotDeclared, NestingBroken, SwitchRuleBroken, TooDeep, NoEnd, InputsShort, ConstantsShort, RegistersShort, WorkingShort, MemoryLong, MalformedLine, OutputShort}

pub numbered : (r : Refusal) → eqb (number_of r) 0 ≡ false
numbered TooLong = refl
numbered ByteAfterEnd = refl
numbered UnknownKind = refl
numbered BodyCut = refl
numbered LateDeclaration = refl
numbered TooMany = refl
numbered FieldRuleBroken = refl
numbered Overlapping = refl
numbered NotDeclared = refl
numbered NestingBroken = refl
numbered SwitchRuleBroken = refl
numbered TooDeep = refl
numbered NoEnd = refl
numbered InputsShort = refl
numbered ConstantsShort = refl
numbered RegistersShort = refl
numbered WorkingShort = refl
numbered MemoryLong = refl
numbered MalformedLine = refl
numbered OutputShort = refl
