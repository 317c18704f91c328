-- What the functions that write rows ask of their callers and promise them.
-- Assumes nothing.
use Rattle.std.specs.Prelude.{ℕ, ◌≤◌, ◌<◌, List, ◌≡◌, length, get_or}
use Rattle.format.specs.Records.{place_from}
use Rattle.blocks.specs.Lists.{Items}
use Rattle.blocks.specs.Run.{most_instructions}
use Rattle.blocks.specs.declared.Targets.{Targets}
use Rattle.blocks.specs.Table.{rows, words_of}
use Rattle.table.specs.Prepared.{kind_from}
use Rattle.lists.specs.Lists.{op_in}

module _ (kinds places : List ℕ) where
  -- The words of a list's rows from instruction n on.
  unfoldable pub words_in : Targets → ℕ → Items → List ℕ
  words_in t n l = words_of (λ m. get_or places m 0) n (rows (op_in kinds) t l)

-- What `locate` finds: the kinds and byte places of a program's first `count` instructions, in lists for the most that there are.
pub record Located (file : List ℕ) (start count : ℕ) (kinds places : List ℕ) : Type 0 where
  pub kinds_length : length kinds ≡ most_instructions
  pub places_length : length places ≡ most_instructions
  pub kind : (n : ℕ) → n < count → get_or kinds n 0 ≡ kind_from file start n
  pub place : (n : ℕ) → n < count → get_or places n 0 ≡ place_from file start n

-- Targets that are instructions' numbers.
pub record Near (t : Targets) : Type 0 where
  pub brk : t.brk ≤ most_instructions
  pub cont : t.cont ≤ most_instructions
  pub after : t.after ≤ most_instructions
