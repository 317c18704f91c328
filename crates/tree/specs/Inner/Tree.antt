-- The words of a SWITCH's CASEs as a tree, as a new word keeps it.
-- Assumes nothing.
use Rattle.std.specs.Prelude.{ℕ, ◌+◌, ◌*◌, ◌^◌, ◌<◌, ◌≤◌, ◌≡◌, List, get_or}
use Rattle.words.specs.Word.{bit}
use Rattle.tree.specs.Search.{ending, most_nodes}
use Rattle.tree.specs.declared.Place.TheVariants.{Here}

-- Node c hangs from link b of node p: it came later, lies one deeper, has p's bits above p's depth, and b as its next.
pub record Child (values : List ℕ) (end : ℕ) (level : ℕ → ℕ) (p b c : ℕ) : Type 0 where
  pub later : p < c
  pub inside : c < end
  pub deeper : level c ≡ level p + 1
  pub shares : (k : ℕ) → k < level p → bit (get_or values c 0) k ≡ bit (get_or values p 0) k
  pub turns : bit (get_or values c 0) (level p) ≡ b

-- The words from a place to `end` are a tree, each node of which has its depth, and every word of which is found.
pub record Tree (values links : List ℕ) (from end : ℕ) : Type 0 where
  pub level : ℕ → ℕ
  pub top : level from ≡ 0
  pub words : (j : ℕ) → from ≤ j → j < end → get_or values j 0 < 2 ^ 32
  pub below : (p b : ℕ) → from ≤ p → p < end → b < 2 → (get_or links (2 * p + b) 0 ≡ 0 → ⊥) → Child values end level p b (get_or links (2 * p + b) 0)
  pub all : (j : ℕ) → from ≤ j → j < end → ending values links (get_or values j 0) most_nodes from 0 ≡ Here
