-- Blocks that are opened, closed, recoded and labelled in arrays: a write at or above the top leaves what lies below it as it was.
-- Assumes nothing.
use mathlib.Core.Path.{◌≡◌, refl, ap, ◌∙◌}
use mathlib.Core.Bool.{Bool, true}
use mathlib.Core.List.{List, [], ◌∷◌}
use Prim.Native.Nat.{ℕ, zero, suc, ◌+◌, ◌-◌, ◌<◌, ◌≤◌}
use native.Mathlib.Omega.{arith}
use native.Mathlib.Numerals.{add-one}
use lib.ListN.{length, get_or, set, drop, length-set}
use lib.Seq.{get_or-set_same, get_or-set_other}
use Rattle.format.specs.Kinds.{within}
use Rattle.blocks.specs.Control.{DEFAULT, CASE}
use Rattle.blocks.specs.Nesting.{Open, innermost, open_after}
use Rattle.registers.proofs.Choices.{never}
use Rattle.stack.specs.Arrays.{top_code, top_start, top_set, innermost_is, popped, recoded}
use Rattle.nesting.specs.Left.{pushed, more}
use Rattle.nesting.specs.Inner.Held.{open_of, newest_first, blocks_in, blocks_of, top_values, Stacked, SoundBlocks}
use Rattle.stack.specs.declared.Blocks.{Blocks}
use Rattle.nesting.proofs.Stack.{code_cases}

-- ---- What lies below

-- Arrays that agree below m.
module _ (codes starts codes' starts' : List ℕ) where
  blocks_same : (values : List ℕ) (m e : ℕ) → ((k : ℕ) → k < m → get_or codes' k 0 ≡ get_or codes k 0) → ((k : ℕ) → k < m → get_or starts' k 0 ≡ get_or starts k 0)
      → blocks_in codes' starts' values m e ≡ blocks_in codes starts values m e
  blocks_same values zero e f g = refl
  blocks_same values (suc m) e f g =
      rw (f m (omega arith), g m (omega arith), blocks_same values m (get_or starts m 0) (λ k l. f k (omega arith)) (λ k l. g k (omega arith)))

  stacked_same : (m e : ℕ) → ((k : ℕ) → k < m → get_or codes' k 0 ≡ get_or codes k 0) → ((k : ℕ) → k < m → get_or starts' k 0 ≡ get_or starts k 0)
      → Stacked codes starts m e → Stacked codes' starts' m e
  stacked_same zero e f g s = tt
  stacked_same (suc m) e f g s =
      rw (f m (omega arith), g m (omega arith))
      (s.0, s.1, stacked_same m (get_or starts m 0) (λ k l. f k (omega arith)) (λ k l. g k (omega arith)) s.2)

set_below : (ws : List ℕ) (i x k m : ℕ) → k < m → m ≤ i → get_or (set ws i x) k 0 ≡ get_or ws k 0
set_below ws i x k m l h = get_or-set_other ws i k x 0 (λ q. omega arith)

-- ---- A block is opened

module _ (codes starts : List ℕ) (n end code : ℕ) (a : length codes ≡ 16) (b : length starts ≡ 16) (h : n < 16) where
  pushed_in : (values : List ℕ) → blocks_in (set codes n code) (set starts n end) values (n + 1) end ≡ open_of code [] ∷ blocks_in codes starts values n end
  pushed_in values =
      let z : end - end ≡ 0 = omega arith in
      rw (
        add-one n,
        get_or-set_same codes n code 0 (omega arith),
        get_or-set_same starts n end 0 (omega arith),
        z,
        blocks_same codes starts (set codes n code) (set starts n end) values n end (λ k l. set_below codes n code k n l (omega arith)) (λ k l. set_below starts n end k n l (omega arith)),
      )

  pushed_stacked : code < 5 → Stacked codes starts n end → Stacked (set codes n code) (set starts n end) (n + 1) end
  pushed_stacked c s =
      rw (add-one n, get_or-set_same codes n code 0 (omega arith), get_or-set_same starts n end 0 (omega arith))
      (c, omega arith, stacked_same codes starts (set codes n code) (set starts n end) n end (λ k l. set_below codes n code k n l (omega arith)) (λ k l. set_below starts n end k n l (omega arith)) s)

module _ (b : Blocks) (sound : SoundBlocks b) (code : ℕ) (h : b.depth < 16) where
  pub pushed_blocks : (values : List ℕ) → blocks_of (pushed code b) values ≡ open_of code [] ∷ blocks_of b values
  pushed_blocks = pushed_in b.codes b.starts b.depth b.held code sound.codes sound.starts h

  pub pushed_sound : code < 5 → SoundBlocks (pushed code b)
  pushed_sound c =
      record {
        codes = length-set b.codes b.depth code ∙ sound.codes;
        starts = length-set b.starts b.depth b.held ∙ sound.starts;
        depth = omega arith;
        stacked = pushed_stacked b.codes b.starts b.depth b.held code sound.codes sound.starts h c sound.stacked;
      }

-- ---- A block is closed

last : (n : ℕ) → suc n - 1 ≡ n
last n = omega arith

popped_in : (codes starts values : List ℕ) (n end : ℕ) → blocks_in codes starts values (n - 1) (top_start starts n end) ≡ drop 1 (blocks_in codes starts values n end)
popped_in codes starts values zero end = refl
popped_in codes starts values (suc n) end = rw (last n)

popped_stacked : (codes starts : List ℕ) (n end : ℕ) → Stacked codes starts n end → Stacked codes starts (n - 1) (top_start starts n end)
popped_stacked codes starts zero end s = s
popped_stacked codes starts (suc n) end s = rw (last n) s.2

pub popped_blocks : (b : Blocks) (values : List ℕ) → blocks_of (popped b) values ≡ drop 1 (blocks_of b values)
popped_blocks b values = popped_in b.codes b.starts values b.depth b.held

pub popped_sound : (b : Blocks) → SoundBlocks b → SoundBlocks (popped b)
popped_sound b sound =
    let d = sound.depth in
    record {
      codes = sound.codes;
      starts = sound.starts;
      depth = omega arith;
      stacked = popped_stacked b.codes b.starts b.depth b.held sound.stacked;
    }

-- ---- The innermost block has another code

module _ (codes starts : List ℕ) (code : ℕ) (a : length codes ≡ 16) where
  recoded_in : (values : List ℕ) (n end : ℕ) → n ≤ 16 → (n ≡ 0 → ⊥)
      → blocks_in (top_set codes n code) starts values n end
      ≡ open_of code (newest_first values (top_start starts n end) (end - top_start starts n end)) ∷ drop 1 (blocks_in codes starts values n end)
  recoded_in values zero end l h = absurd (h refl)
  recoded_in values (suc n) end l h =
      rw (
        get_or-set_same codes n code 0 (omega arith),
        blocks_same codes starts (set codes n code) starts values n (get_or starts n 0) (λ k q. set_below codes n code k n q (omega arith)) (λ k q. refl),
      )

  recoded_stacked : (n end : ℕ) → n ≤ 16 → code < 5 → Stacked codes starts n end → Stacked (top_set codes n code) starts n end
  recoded_stacked zero end l c s = tt
  recoded_stacked (suc n) end l c s =
      rw (get_or-set_same codes n code 0 (omega arith))
      (c, s.1, stacked_same codes starts (set codes n code) starts n (get_or starts n 0) (λ k q. set_below codes n code k n q (omega arith)) (λ k q. refl) s.2)

  length_top : (n : ℕ) → length (top_set codes n code) ≡ 16
  length_top zero = a
  length_top (suc n) = length-set codes n code ∙ a

module _ (b : Blocks) (sound : SoundBlocks b) (code : ℕ) where
  pub recoded_blocks : (values : List ℕ) → (b.depth ≡ 0 → ⊥) → blocks_of (recoded code b) values ≡ open_of code (top_values b values) ∷ drop 1 (blocks_of b values)
  recoded_blocks values h = recoded_in b.codes b.starts code sound.codes values b.depth b.held sound.depth h

  pub recoded_sound : code < 5 → SoundBlocks (recoded code b)
  recoded_sound c =
      record {
        codes = length_top b.codes b.starts code sound.codes b.depth;
        starts = sound.starts;
        depth = sound.depth;
        stacked = recoded_stacked b.codes b.starts code sound.codes b.depth b.held sound.depth c sound.stacked;
      }

pub some_open : (b : Blocks) (values : List ℕ) (f : Open → Bool) → innermost f (blocks_of b values) ≡ true → b.depth ≡ 0 → ⊥
some_open b values f h e = never (rw e at h)

-- ---- The innermost block has one word more

newest_below : (ws : List ℕ) (i x from n : ℕ) → from + n ≤ i → newest_first (set ws i x) from n ≡ newest_first ws from n
newest_below ws i x from zero h = refl
newest_below ws i x from (suc n) h =
    rw (get_or-set_other ws i (from + n) x 0 (λ q. omega arith), newest_below ws i x from n (omega arith))

blocks_below : (codes starts values : List ℕ) (i x n end : ℕ) → end ≤ i → Stacked codes starts n end → blocks_in codes starts (set values i x) n end ≡ blocks_in codes starts values n end
blocks_below codes starts values i x zero end h s = refl
blocks_below codes starts values i x (suc n) end h s =
    let l : get_or starts n 0 ≤ end = s.1 in
    rw (newest_below values i x (get_or starts n 0) (end - get_or starts n 0) (omega arith), blocks_below codes starts values i x n (get_or starts n 0) (omega arith) s.2)

newest_more : (ws : List ℕ) (x from end : ℕ) → from ≤ end → end < length ws → newest_first (set ws end x) from (end + 1 - from) ≡ x ∷ newest_first ws from (end - from)
newest_more ws x from end l h =
    let e : end + 1 - from ≡ suc (end - from) = omega arith in
    let f : from + (end - from) ≡ end = omega arith in
    ap (newest_first (set ws end x) from) e ∙ rw (f, get_or-set_same ws end x 0 h, newest_below ws end x from (end - from) (omega arith))

relabel_case : (x : ℕ) (vs : List ℕ) (σ : List Open) (k : ℕ) → k < 5 → within 3 4 k ≡ true → open_of k (x ∷ vs) ∷ σ ≡ open_after CASE x (open_of k vs ∷ σ)
relabel_case x vs σ =
    code_cases (λ (k : ℕ). within 3 4 k ≡ true → open_of k (x ∷ vs) ∷ σ ≡ open_after CASE x (open_of k vs ∷ σ)) (λ e. never e) (λ e. never e) (λ e. never e) (λ e. refl) (λ e. refl)

relabel_default : (x : ℕ) (vs : List ℕ) (σ : List Open) (k : ℕ) → k < 5 → within 3 4 k ≡ true → open_of 4 vs ∷ σ ≡ open_after DEFAULT x (open_of k vs ∷ σ)
relabel_default x vs σ =
    code_cases (λ (k : ℕ). within 3 4 k ≡ true → open_of 4 vs ∷ σ ≡ open_after DEFAULT x (open_of k vs ∷ σ)) (λ e. never e) (λ e. never e) (λ e. never e) (λ e. refl) (λ e. refl)

more_in : (codes starts values : List ℕ) (n end x : ℕ) → length values ≡ 1024 → end < 1024 → within 3 4 (top_code codes n) ≡ true → Stacked codes starts n end
    → blocks_in codes starts (set values end x) n (end + 1) ≡ open_after CASE x (blocks_in codes starts values n end)
more_in codes starts values zero end x v h t s = refl
more_in codes starts values (suc n) end x v h t s =
    rw (newest_more values x (get_or starts n 0) end s.1 (omega arith), blocks_below codes starts values end x n (get_or starts n 0) s.1 s.2)
    (relabel_case x (newest_first values (get_or starts n 0) (end - get_or starts n 0)) (blocks_in codes starts values n (get_or starts n 0)) (get_or codes n 0) s.0 t)

more_stacked : (codes starts : List ℕ) (n end : ℕ) → Stacked codes starts n end → Stacked codes starts n (end + 1)
more_stacked codes starts zero end s = tt
more_stacked codes starts (suc n) end s = (s.0, omega (arith, s.1), s.2)

defaulted_in : (codes starts values : List ℕ) (n end x : ℕ) → within 3 4 (top_code codes n) ≡ true → Stacked codes starts n end
    → open_of 4 (newest_first values (top_start starts n end) (end - top_start starts n end)) ∷ drop 1 (blocks_in codes starts values n end) ≡ open_after DEFAULT x (blocks_in codes starts values n end)
defaulted_in codes starts values zero end x t s = never t
defaulted_in codes starts values (suc n) end x t s =
    relabel_default x (newest_first values (get_or starts n 0) (end - get_or starts n 0)) (blocks_in codes starts values n (get_or starts n 0)) (get_or codes n 0) s.0 t

module _ (b : Blocks) (sound : SoundBlocks b) (values : List ℕ) (x : ℕ) (switch : innermost_is 3 4 b ≡ true) where
  pub more_blocks : length values ≡ 1024 → b.held < 1024 → blocks_of (more b) (set values b.held x) ≡ open_after CASE x (blocks_of b values)
  more_blocks v h = more_in b.codes b.starts values b.depth b.held x v h switch sound.stacked

  pub defaulted_blocks : open_of 4 (top_values b values) ∷ drop 1 (blocks_of b values) ≡ open_after DEFAULT x (blocks_of b values)
  defaulted_blocks = defaulted_in b.codes b.starts values b.depth b.held x switch sound.stacked

pub more_sound : (b : Blocks) → SoundBlocks b → SoundBlocks (more b)
more_sound b sound =
    record { codes = sound.codes; starts = sound.starts; depth = sound.depth; stacked = more_stacked b.codes b.starts b.depth b.held sound.stacked }
