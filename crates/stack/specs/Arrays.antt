-- The open blocks in arrays. The code of a block is 0 for a UIF before its ELSE, 1 for one after it, 2 for a loop, 3 for a SWITCH
-- and 4 for one whose DEFAULT has stood. The words of the CASEs of all open SWITCHes stand in one array, those of each block from
-- where it starts to where the next one inside it starts, those of the innermost to `held`.
-- Assumes nothing.
use Rattle.std.specs.Prelude.{ℕ, zero, suc, ◌-◌, Bool, false, ◌||◌, List, get_or, set, replicate}
use Rattle.format.specs.Kinds.{within}
use Rattle.blocks.specs.Nesting.{most_open}
use Rattle.stack.specs.declared.Blocks.{Blocks}

abbrev pub none_open : Blocks
none_open = record { codes = replicate most_open 0; starts = replicate most_open 0; depth = 0; held = 0 }

-- ---- What is asked of the blocks

-- The code of the innermost of n blocks, 5 where there is none, and where its words start.
abbrev pub top_code : List ℕ → ℕ → ℕ
top_code codes zero = 5
top_code codes (suc n) = get_or codes n 0

abbrev pub top_start : List ℕ → ℕ → ℕ → ℕ
top_start starts zero end = end
top_start starts (suc n) end = get_or starts n 0

-- Whether the code of one of n blocks is from lo to hi.
abbrev pub some_code : ℕ → ℕ → List ℕ → ℕ → Bool
some_code lo hi codes zero = false
some_code lo hi codes (suc n) = within lo hi (get_or codes n 0) || some_code lo hi codes n

abbrev pub innermost_is : ℕ → ℕ → Blocks → Bool
innermost_is lo hi b = within lo hi (top_code b.codes b.depth)

abbrev pub some_is : ℕ → ℕ → Blocks → Bool
some_is lo hi b = some_code lo hi b.codes b.depth

abbrev pub innermost_start : Blocks → ℕ
innermost_start b = top_start b.starts b.depth b.held

-- ---- A block is closed, and recoded

-- The innermost block is gone, and its words are.
abbrev pub popped : Blocks → Blocks
popped b = record { codes = b.codes; starts = b.starts; depth = b.depth - 1; held = innermost_start b }

-- Another code for the innermost block.
abbrev pub top_set : List ℕ → ℕ → ℕ → List ℕ
top_set codes zero code = codes
top_set codes (suc n) code = set codes n code

abbrev pub recoded : ℕ → Blocks → Blocks
recoded code b = record { codes = top_set b.codes b.depth code; starts = b.starts; depth = b.depth; held = b.held }
