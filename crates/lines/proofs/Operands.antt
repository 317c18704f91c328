-- The numbers of a line are the fields that a check and a run read: of a declaration, an immediate, a destination, a source.
-- Assumes nothing.
use Prim.Native.Nat.{ℕ, ◌+◌}
use mathlib.Core.Path.{◌≡◌}
use mathlib.Core.List.{List, [], ◌∷◌}
use native.Mathlib.Nat.{add_assoc}
use Rattle.format.specs.Kinds.{declaration, immediate, instruction, widths}
use Rattle.format.specs.Fields.{word32, number_at, destination_at, source_at, declaration_at}
use Rattle.lines.specs.Lines.{numbers_at}

module _ (file : List ℕ) (p : ℕ) where
  pub declaration_numbers : let d = declaration_at file p in numbers_at file p (widths declaration) ≡ d.file ∷ d.first ∷ d.last ∷ []
  unfolding numbers_at number_at declaration_at
  declaration_numbers = rw (add_assoc p 1 2)

  pub destination_numbers : let d = destination_at file p in numbers_at file p (widths (instruction 1 0)) ≡ d.file ∷ d.index ∷ d.mask ∷ []
  unfolding numbers_at number_at destination_at
  destination_numbers = rw (add_assoc p 1 2)

  pub source_numbers : let s = source_at file p in numbers_at file p (widths (instruction 0 1)) ≡ s.file ∷ s.index ∷ s.swizzle ∷ s.modifier ∷ []
  unfolding numbers_at number_at source_at
  source_numbers = rw (add_assoc p 1 2, add_assoc p 3 1)

  pub immediate_numbers : numbers_at file p (widths immediate) ≡ word32 file p ∷ word32 file (p + 4) ∷ word32 file (p + 8) ∷ word32 file (p + 12) ∷ []
  unfolding numbers_at number_at
  immediate_numbers = rw (add_assoc p 4 4, add_assoc p 8 4)
