-- The file of document 01's case 12, which document 02 lists: OUT[0] is declared, an immediate given and moved there.
-- Assumes nothing.
use mathlib.Core.List.{List, [], ◌∷◌, ◌++◌}
use Prim.Native.Nat.{ℕ}
use lib.ListN.{replicate}

-- "`01 03 00 00 00 00`, `02 19` and fifteen `00`, `10 03 00 00 01 06 00 00 E4 00`, `89`: 34 bytes, accepted" (01, case 12)
abbrev pub file12 : List ℕ
file12 =
    0x01 ∷ 3 ∷ 0 ∷ 0 ∷ 0 ∷ 0 ∷ 0x02 ∷ 0x19 ∷ replicate 15 0 ++ (0x10 ∷ 3 ∷ 0 ∷ 0 ∷ 1 ∷ 6 ∷ 0 ∷ 0 ∷ 0xE4 ∷ 0 ∷ 0x89 ∷ [])
