-- A quoted text, as the numbers of its characters.
-- Assumes nothing.
use Prim.Native.Nat.{ℕ}
use Prim.Native.Char.{code}
use Prim.Native.String.{String, [], ◌∷◌}
use mathlib.Core.List.{List}
use mathlib.Core.List as list

abbrev pub quoted : String → List ℕ
quoted [] = list.[]
quoted (c ∷ s) = list.◌∷◌ (code c) (quoted s)
