-- What the words of open blocks stand for, and what the steps of specs/Left keep of them.
-- Assumes nothing.
use Rattle.std.specs.Prelude.{ℕ, zero, suc, ◌+◌, ◌-◌, ◌<◌, ◌≤◌, ◌≡◌, List, [], ◌∷◌, cond, eqb, length, get_or}
use Rattle.blocks.specs.Nesting.{Open, open_uif, open_else, open_loop, open_switch, Ruling, goes, refused, most_open}
use Rattle.stack.specs.Arrays.{innermost_start}
use Rattle.tree.specs.Inner.Tree.{Tree}
use Rattle.stack.specs.declared.Blocks.{Blocks}
use Rattle.nesting.specs.Left.{Nested, opened, denied}

-- The block of a code, with the words of its CASEs.
abbrev pub open_of : ℕ → List ℕ → Open
open_of code values =
    cond (eqb code 0) open_uif
    (cond (eqb code 1) open_else
    (cond (eqb code 2) open_loop
    (open_switch values (eqb code 4))))

-- n words from a place on, the last of them first.
abbrev pub newest_first : List ℕ → ℕ → ℕ → List ℕ
newest_first words from zero = []
newest_first words from (suc n) = get_or words (from + n) 0 ∷ newest_first words from n

-- The blocks of n codes, the last of them innermost.
abbrev pub blocks_in : List ℕ → List ℕ → List ℕ → ℕ → ℕ → List Open
blocks_in codes starts values zero end = []
blocks_in codes starts values (suc n) end =
    open_of (get_or codes n 0) (newest_first values (get_or starts n 0) (end - get_or starts n 0))
    ∷ blocks_in codes starts values n (get_or starts n 0)

abbrev pub blocks_of : Blocks → List ℕ → List Open
blocks_of b values = blocks_in b.codes b.starts values b.depth b.held

abbrev pub top_values : Blocks → List ℕ → List ℕ
top_values b values = newest_first values (innermost_start b) (b.held - innermost_start b)

-- What the code's answer on an instruction says, the values standing in `values` after it.
abbrev pub ruling_of : Nested → List ℕ → Ruling
ruling_of (opened b) values = goes (blocks_of b values)
ruling_of (denied number) values = refused number

-- The codes are those of `stack`'s specs/Arrays, and each block starts where or after the one around it does.
abbrev pub Stacked : List ℕ → List ℕ → ℕ → ℕ → Type 0
Stacked codes starts zero end = Unit {0}
Stacked codes starts (suc n) end =
    (get_or codes n 0 < 5) × (get_or starts n 0 ≤ end) × Stacked codes starts n (get_or starts n 0)

-- The words of each block are a tree.
abbrev pub Treed : List ℕ → List ℕ → List ℕ → ℕ → ℕ → Type 0
Treed values links starts zero end = Unit {0}
Treed values links starts (suc n) end =
    Tree values links (get_or starts n 0) end × Treed values links starts n (get_or starts n 0)

pub record SoundBlocks (b : Blocks) : Type 0 where
  pub codes : length b.codes ≡ most_open
  pub starts : length b.starts ≡ most_open
  pub depth : b.depth ≤ most_open
  pub stacked : Stacked b.codes b.starts b.depth b.held

pub record Trees (b : Blocks) (values links : List ℕ) : Type 0 where
  pub room : length values ≡ 1024
  pub slots : length links ≡ 2048
  pub each : Treed values links b.starts b.depth b.held
