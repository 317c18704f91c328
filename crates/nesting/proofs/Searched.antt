-- The trees of the open blocks, as blocks are opened, closed and labelled: one word more is a node more of the innermost tree, and
-- the trees around it, which end where it starts, have neither a word nor a link changed.
-- Assumes nothing.
use mathlib.Core.Path.{◌≡◌, ◌∙◌}
use mathlib.Core.List.{List}
use Prim.Native.Nat.{ℕ, zero, suc, ◌+◌, ◌-◌, ◌*◌, ◌^◌, ◌<◌, ◌≤◌}
use native.Mathlib.Omega.{arith}
use native.Mathlib.Numerals.{add-one}
use lib.ListN.{length, get_or, set, length-set}
use lib.Seq.{get_or-set_same, get_or-set_other}
use Rattle.tree.specs.Search.{place_in, hung}
use Rattle.stack.specs.Arrays.{top_start, innermost_start, popped, recoded}
use Rattle.nesting.specs.Left.{pushed, more}
use Rattle.nesting.specs.Inner.Held.{Stacked, Treed, SoundBlocks, Trees}
use Rattle.stack.specs.declared.Blocks.{Blocks}
use Rattle.tree.proofs.Trees.{tree_none, tree_same, tree_more, hung_below, length_hung}

-- ---- Blocks are opened and closed

treed_starts : (values links starts starts' : List ℕ) (m e : ℕ) → ((k : ℕ) → k < m → get_or starts' k 0 ≡ get_or starts k 0)
    → Treed values links starts m e → Treed values links starts' m e
treed_starts values links starts starts' zero e f s = tt
treed_starts values links starts starts' (suc m) e f s =
    rw (f m (omega arith)) (s.0, treed_starts values links starts starts' m (get_or starts m 0) (λ k l. f k (omega arith)) s.1)

module _ (values links starts : List ℕ) where
  pushed_treed : (n end : ℕ) → length starts ≡ 16 → n < 16 → Treed values links starts n end → Treed values links (set starts n end) (n + 1) end
  pushed_treed n end b h s =
      rw (add-one n, get_or-set_same starts n end 0 (omega arith))
      (tree_none values links end, treed_starts values links starts (set starts n end) n end (λ k l. get_or-set_other starts n k end 0 (λ q. omega arith)) s)

  popped_treed : (n end : ℕ) → Treed values links starts n end → Treed values links starts (n - 1) (top_start starts n end)
  popped_treed zero end s = s
  popped_treed (suc n) end s = let e : suc n - 1 ≡ n = omega arith in rw e s.1

module _ (b : Blocks) (values links : List ℕ) (t : Trees b values links) where
  pub pushed_trees : (code : ℕ) → SoundBlocks b → b.depth < 16 → Trees (pushed code b) values links
  pushed_trees code sound h =
      record { room = t.room; slots = t.slots; each = pushed_treed values links b.starts b.depth b.held sound.starts h t.each }

  pub popped_trees : Trees (popped b) values links
  popped_trees = record { room = t.room; slots = t.slots; each = popped_treed values links b.starts b.depth b.held t.each }

  pub recoded_trees : (code : ℕ) → Trees (recoded code b) values links
  recoded_trees code = record { room = t.room; slots = t.slots; each = t.each }

-- ---- The innermost block has one word more

treed_same : (values links values' links' codes starts : List ℕ) (n end : ℕ) → Stacked codes starts n end → ((k : ℕ) → k < end → get_or values' k 0 ≡ get_or values k 0)
    → ((k : ℕ) → k < 2 * end → get_or links' k 0 ≡ get_or links k 0) → Treed values links starts n end → Treed values' links' starts n end
treed_same values links values' links' codes starts zero end o f g s = tt
treed_same values links values' links' codes starts (suc n) end o f g s =
    let l : get_or starts n 0 ≤ end = o.1 in (
      tree_same values links values' links' (get_or starts n 0) end s.0 f g,
      treed_same values links values' links' codes starts n (get_or starts n 0) o.2 (λ k u. f k (omega arith)) (λ k u. g k (omega arith)) s.1,
    )

-- The word's node hangs where the search for it ended.
module _ (values links codes starts : List ℕ) (end x : ℕ) (words : length values ≡ 1024) (slots : length links ≡ 2048) (h : end < 1024) (small : x < 2 ^ 32) where
  more_treed : (n : ℕ) → Stacked codes starts n end → Treed values links starts n end
      → Treed (set values end x) (hung links (place_in values links (top_start starts n end) end x) end) starts n (end + 1)
  more_treed zero o s = tt
  more_treed (suc n) o s =
      let u : get_or starts n 0 ≤ end = o.1 in (
        tree_more values links (get_or starts n 0) end x s.0 small (omega arith) (omega arith) u,
        treed_same values links (set values end x) (hung links (place_in values links (get_or starts n 0) end x) end) codes starts n (get_or starts n 0) o.2
            (λ k q. get_or-set_other values end k x 0 (λ y. omega arith)) (hung_below values links (get_or starts n 0) end x s.0 small (omega arith) (omega arith) u) s.1,
      )

pub more_trees : (b : Blocks) (values links : List ℕ) (x : ℕ) → SoundBlocks b → b.held < 1024 → Trees b values links → x < 2 ^ 32
    → Trees (more b) (set values b.held x) (hung links (place_in values links (innermost_start b) b.held x) b.held)
more_trees b values links x sound h t small =
    record {
      room = length-set values b.held x ∙ t.room;
      slots = length_hung links (place_in values links (innermost_start b) b.held x) b.held ∙ t.slots;
      each = more_treed values links b.codes b.starts b.held x t.room t.slots h small b.depth sound.stacked t.each;
    }
