-- The open blocks as they stand in arrays: what a rule asks of the innermost, or of some block, is a range of codes, and the search
-- for a word says whether a CASE has had it.
-- Assumes nothing.
use mathlib.Core.Path.{◌≡◌, refl, sym, ap, ◌∙◌}
use mathlib.Core.Bool.{Bool, true, false, not, ◌&&◌, ◌||◌}
use mathlib.Core.List.{List}
use mathlib.Core.Logic.{⊎_elim}
use Prim.Native.Nat.{ℕ, zero, suc, ◌-◌, ◌^◌, ◌<◌, ◌≤◌}
use native.Mathlib.Omega.{arith}
use lib.Dec.{eqb, leb}
use lib.ListN.{length, get_or}
use borrow.Author.Tests.{eq-eqb, ne_eqb, le-leb, lt-leb}
use Rattle.format.specs.Kinds.{within}
use Rattle.blocks.specs.Control.{Op, PLAIN, ELSE, ENDIF, BGNLOOP, ENDLOOP, BRK, CONT, DEFAULT, ENDSWITCH, END, UIF, SWITCH, CASE}
use Rattle.blocks.specs.Nesting.{Open, is_uif, is_else, is_loop, is_switch, any_switch, some, innermost, after_switch, nesting_rule, switch_rule}
use Rattle.registers.proofs.Choices.{and_false, le_or_lt}
use Rattle.tree.specs.Search.{place_in, is_here}
use Rattle.stack.specs.Arrays.{top_code, top_start, some_code, innermost_is, innermost_start}
use Rattle.rules.specs.Kept.{wordless, unlabelled, nesting_kept, switch_kept}
use Rattle.tree.specs.Inner.Tree.{Tree}
use Rattle.nesting.specs.Inner.Held.{open_of, newest_first, blocks_in, blocks_of, top_values, Stacked, Treed, SoundBlocks, Trees}
use Rattle.stack.specs.declared.Blocks.{Blocks}
use Rattle.nesting.proofs.Among.{here_among}
use Rattle.tree.proofs.Trees.{tree_none}

and_true : (a : Bool) → (a && true) ≡ a
and_true true = refl
and_true false = refl

-- ---- Codes

-- A property of blocks that goes by a range of codes.
abbrev Ranged : (Open → Bool) → ℕ → ℕ → Type 0
Ranged f lo hi = (k : ℕ) (vs : List ℕ) → k < 5 → f (open_of k vs) ≡ within lo hi k

pub code_cases : (P : ℕ → Type 0) → P 0 → P 1 → P 2 → P 3 → P 4 → (k : ℕ) → k < 5 → P k
code_cases P p0 p1 p2 p3 p4 zero h = p0
code_cases P p0 p1 p2 p3 p4 (suc zero) h = p1
code_cases P p0 p1 p2 p3 p4 (suc (suc zero)) h = p2
code_cases P p0 p1 p2 p3 p4 (suc (suc (suc zero))) h = p3
code_cases P p0 p1 p2 p3 p4 (suc (suc (suc (suc zero)))) h = p4
code_cases P p0 p1 p2 p3 p4 (suc (suc (suc (suc (suc k))))) h = absurd (omega arith)

ranged : (f : Open → Bool) (lo hi : ℕ) → ((vs : List ℕ) → (f (open_of 0 vs) ≡ within lo hi 0) × (f (open_of 1 vs) ≡ within lo hi 1)
    × (f (open_of 2 vs) ≡ within lo hi 2) × (f (open_of 3 vs) ≡ within lo hi 3) × (f (open_of 4 vs) ≡ within lo hi 4)) → Ranged f lo hi
ranged f lo hi h k vs l = code_cases (λ (k : ℕ). f (open_of k vs) ≡ within lo hi k) (h vs).0 (h vs).1 (h vs).2 (h vs).3 (h vs).4 k l

module _ (codes starts values : List ℕ) where
  top_is : (f : Open → Bool) (lo hi : ℕ) → within lo hi 5 ≡ false → Ranged f lo hi → (n end : ℕ) → Stacked codes starts n end
      → within lo hi (top_code codes n) ≡ innermost f (blocks_in codes starts values n end)
  top_is f lo hi z r zero end s = z
  top_is f lo hi z r (suc n) end s = sym (r (get_or codes n 0) (newest_first values (get_or starts n 0) (end - get_or starts n 0)) s.0)

  some_is : (f : Open → Bool) (lo hi : ℕ) → Ranged f lo hi → (n end : ℕ) → Stacked codes starts n end
      → some_code lo hi codes n ≡ some f (blocks_in codes starts values n end)
  some_is f lo hi r zero end s = refl
  some_is f lo hi r (suc n) end s =
      rw (r (get_or codes n 0) (newest_first values (get_or starts n 0) (end - get_or starts n 0)) s.0, some_is f lo hi r n (get_or starts n 0) s.2)

  pub blocks_length : (n end : ℕ) → length (blocks_in codes starts values n end) ≡ n
  blocks_length zero end = refl
  blocks_length (suc n) end = ap suc (blocks_length n (get_or starts n 0))

-- ---- The rule of nesting

module _ (b : Blocks) (values : List ℕ) (sound : SoundBlocks b) where
  innermost_by : (f : Open → Bool) (lo hi : ℕ) → within lo hi 5 ≡ false → Ranged f lo hi → innermost_is lo hi b ≡ innermost f (blocks_of b values)
  innermost_by f lo hi z g = top_is b.codes b.starts values f lo hi z g b.depth b.held sound.stacked

  some_by : (f : Open → Bool) (lo hi : ℕ) → Ranged f lo hi → some_code lo hi b.codes b.depth ≡ some f (blocks_of b values)
  some_by f lo hi g = some_is b.codes b.starts values f lo hi g b.depth b.held sound.stacked

  pub switch_by : innermost_is 3 4 b ≡ innermost any_switch (blocks_of b values)
  switch_by = innermost_by any_switch 3 4 refl (ranged any_switch 3 4 (λ vs. (refl, refl, refl, refl, refl)))

  pub nesting_is : (o : Op) → nesting_kept o b ≡ nesting_rule o (blocks_of b values)
  unfolding nesting_kept
  nesting_is ELSE = innermost_by is_uif 0 0 refl (ranged is_uif 0 0 (λ vs. (refl, refl, refl, refl, refl)))
  nesting_is ENDIF =
      innermost_by (λ o. is_uif o || is_else o) 0 1 refl (ranged (λ o. is_uif o || is_else o) 0 1 (λ vs. (refl, refl, refl, refl, refl)))
  nesting_is ENDLOOP = innermost_by is_loop 2 2 refl (ranged is_loop 2 2 (λ vs. (refl, refl, refl, refl, refl)))
  nesting_is CASE = switch_by
  nesting_is DEFAULT = switch_by
  nesting_is ENDSWITCH = switch_by
  nesting_is BRK = some_by (λ o. is_loop o || any_switch o) 2 4 (ranged (λ o. is_loop o || any_switch o) 2 4 (λ vs. (refl, refl, refl, refl, refl)))
  nesting_is CONT = some_by is_loop 2 2 (ranged is_loop 2 2 (λ vs. (refl, refl, refl, refl, refl)))
  nesting_is END = ap (λ (n : ℕ). eqb n 0) (sym (blocks_length b.codes b.starts values b.depth b.held))
  nesting_is PLAIN = refl
  nesting_is BGNLOOP = refl
  nesting_is UIF = refl
  nesting_is SWITCH = refl

-- ---- The words of the innermost block

pub start_below : (b : Blocks) → SoundBlocks b → innermost_start b ≤ b.held
start_below b sound = by b.depth sound.stacked where
  by : (n : ℕ) → Stacked b.codes b.starts n b.held → top_start b.starts n b.held ≤ b.held
  by zero s = omega arith
  by (suc n) s = s.1

pub top_tree : (b : Blocks) (values links : List ℕ) → Trees b values links → Tree values links (innermost_start b) b.held
top_tree b values links t = by b.depth t.each where
  by : (n : ℕ) → Treed values links b.starts n b.held → Tree values links (top_start b.starts n b.held) b.held
  by zero s = tree_none values links b.held
  by (suc n) s = s.0

length_newest : (ws : List ℕ) (from n : ℕ) → length (newest_first ws from n) ≡ n
length_newest ws from zero = refl
length_newest ws from (suc n) = ap suc (length_newest ws from n)

no_words : (b : Blocks) (values : List ℕ) → wordless b ≡ eqb (length (top_values b values)) 0
no_words b values = rw (length_newest values (innermost_start b) (b.held - innermost_start b)) (by b.held (innermost_start b)) where
  by : (e s : ℕ) → leb e s ≡ eqb (e - s) 0
  by e s = ⊎_elim (λ h. rw (le-leb e s h, eq-eqb (e - s) 0 (omega arith))) (λ h. rw (lt-leb e s h, ne_eqb (e - s) 0 (λ q. omega arith))) (le_or_lt e s)

-- ---- The rules of a SWITCH

-- What a rule asks of the innermost block, by its code.
top_by : (f : Open → Bool) (g : ℕ → Bool) (codes starts values : List ℕ) (n end : ℕ) → Stacked codes starts n end
    → let vs = newest_first values (top_start starts n end) (end - top_start starts n end) in
    g 5 ≡ false → g 0 ≡ f (open_of 0 vs) → g 1 ≡ f (open_of 1 vs) → g 2 ≡ f (open_of 2 vs) → g 3 ≡ f (open_of 3 vs) → g 4 ≡ f (open_of 4 vs)
    → g (top_code codes n) ≡ innermost f (blocks_in codes starts values n end)
top_by f g codes starts values zero end s z p0 p1 p2 p3 p4 = z
top_by f g codes starts values (suc n) end s z p0 p1 p2 p3 p4 =
    code_cases (λ (k : ℕ). g k ≡ f (open_of k (newest_first values (get_or starts n 0) (end - get_or starts n 0)))) p0 p1 p2 p3 p4 (get_or codes n 0) s.0

module _ (b : Blocks) (values links : List ℕ) (x : ℕ) (sound : SoundBlocks b) (trees : Trees b values links) (small : x < 2 ^ 32) where
  by_top : (f : Open → Bool) (g : ℕ → Bool) → g 5 ≡ false → g 0 ≡ f (open_of 0 (top_values b values)) → g 1 ≡ f (open_of 1 (top_values b values))
      → g 2 ≡ f (open_of 2 (top_values b values)) → g 3 ≡ f (open_of 3 (top_values b values)) → g 4 ≡ f (open_of 4 (top_values b values))
      → g (top_code b.codes b.depth) ≡ innermost f (blocks_of b values)
  by_top f g = top_by f g b.codes b.starts values b.depth b.held sound.stacked

  had : is_here (place_in values links (innermost_start b) b.held x) ≡ some (eqb x) (top_values b values)
  had = here_among values links (innermost_start b) b.held x (top_tree b values links trees) small (start_below b sound)

  others : not (unlabelled b) ≡ not (after_switch (blocks_of b values))
  others =
      ap not
      (by_top (is_switch (λ vs d. eqb (length vs) 0 && not d)) (λ k. within 3 3 k && wordless b) refl refl refl refl
      (no_words b values ∙ sym (and_true (eqb (length (top_values b values)) 0))) (sym (and_false (eqb (length (top_values b values)) 0))))

  pub switch_is : (o : Op) → switch_kept o x b values links ≡ switch_rule o x (blocks_of b values)
  unfolding switch_kept
  switch_is CASE =
      by_top (is_switch (λ vs d. not (d || some (eqb x) vs))) (λ k. within 3 3 k && not (is_here (place_in values links (innermost_start b) b.held x)))
      refl refl refl refl (ap not had) refl
  switch_is DEFAULT = by_top (is_switch (λ vs d. not d)) (within 3 3) refl refl refl refl refl refl
  switch_is ENDSWITCH =
      by_top (is_switch (λ vs d. not (eqb (length vs) 0))) (λ k. within 3 4 k && not (wordless b))
      refl refl refl refl (ap not (no_words b values)) (ap not (no_words b values))
  switch_is PLAIN = others
  switch_is ELSE = others
  switch_is ENDIF = others
  switch_is BGNLOOP = others
  switch_is ENDLOOP = others
  switch_is BRK = others
  switch_is CONT = others
  switch_is END = others
  switch_is UIF = others
  switch_is SWITCH = others
