-- Sources: a register number with its address, the words of each file, and the four components.
-- Assumes nothing.
use Rattle.sources.specs.Bank.{env_in, part, declared_in}
use Rattle.sources.specs.Operands.{Env, four_from, if_declared, negated, register_of, register_words, selected, source_of, taken, word_in}
use Rattle.destinations.specs.Destinations.{components, zeros}
use Rattle.words.specs.Word.{neg, signed}
use Rattle.format.specs.Fields.{indirection, negates}
use Prim.Native.Nat.{◌*◌, ◌+◌, ◌/◌, ◌<◌, ◌^◌, suc, zero, ℕ}
use mathlib.Core.Path.{◌∙◌, ◌≡◌, ap, refl, sym}
use mathlib.Core.Bool.{Bool, cond, false, true}
use mathlib.Core.List.{List, [], ◌∷◌}
use native.Mathlib.Omega.{arith}
use native.Mathlib.Nat.{mod-lt}
use borrow.Author.Tests.{ne_eqb}
use lib.ListN.{get_or}
use lib.IntN.{ℤ, ◌+ℤ◌, pos, negsuc}
use Rattle.std.proofs.Common.{w32, ◌<ℤ◌, of_z, to_z, unsigned_abs}
use Rattle.std.specs.Int.{FitsUnsigned}
use Rattle.std.specs.Bool.{then_some}
use Rattle.std.proofs.lemmas.Int.{ints}
use Rattle.words.proofs.Signed.{by_sign, signed_low, signed_high}
use Rattle.format.specs.declared.fields.Source.{Source}
use Rattle.std.specs.Prelude.{Option, Some, None}

-- ---- index plus address

-- The address read in two's complement, as the code converts it.
signed_is : (a : ℕ) → a < 2 ^ 32 → to_z w32 (of_z w32 (to_z w32 a)) ≡ signed 32 a
signed_is a fits =
    by_sign 32 refl a
    (λ low. rw (signed_low 32 refl a low) (omega (arith, ints)))
    (λ high. rw (signed_high 32 refl a high fits) (grind (arith, ints)))

module _ (d : ℕ → ℕ → Bool) (f : ℕ) where
  no_sum : (z : ℤ) → z <ℤ pos (2 ^ 32) → ¬ FitsUnsigned w32 z → None ≡ if_declared d f z
  no_sum (pos n) below none = absurd (none (omega (arith, ints), below))
  no_sum (negsuc n) below none = refl

  one_sum : (z : ℤ) (n : ℕ) → FitsUnsigned w32 z → n ≡ unsigned_abs z → then_some (d f n) n ≡ if_declared d f z
  one_sum (pos m) n fits e = rw e (by (d f m))
    where
      by : (t : Bool) → then_some t m ≡ cond t (Some m) None
      by true = refl
      by false = refl
  one_sum (negsuc m) n fits e = absurd (omega (arith, ints, fits.0))

  -- The sum that the code makes of an index and an address.
  module _ (i a x : ℕ) (z : ℤ) (index : i < 2 ^ 16) (fits : a < 2 ^ 32) (ex : x ≡ i) (ez : z ≡ to_z w32 a) where
    abbrev sum : ℤ
    sum = pos x +ℤ to_z w32 (of_z w32 z)

    sum_is : sum ≡ pos i +ℤ signed 32 a
    sum_is = rw (ex, ez, signed_is a fits)

    pub indirect_none : ¬ FitsUnsigned w32 sum → None ≡ if_declared d f (pos i +ℤ signed 32 a)
    indirect_none none = rw (← sum_is) (no_sum sum (omega (arith, ints)) none)

    pub indirect_at : (n : ℕ) → FitsUnsigned w32 sum × (n ≡ unsigned_abs sum) → then_some (d f n) n ≡ if_declared d f (pos i +ℤ signed 32 a)
    indirect_at n there = rw (← sum_is) (one_sum sum n there.0 there.1)

module _ (s : Source) (k : ℕ) (ek : k ≡ indirection s) where
  pub register_direct : (d : ℕ → ℕ → Bool) (r : List ℕ) (n : ℕ) → k ≡ 0 → n ≡ s.index → Some n ≡ register_of d r s
  unfolding register_of
  register_direct d r n h e = rw (← ek, h, e)

  pub register_indirect : (l m r : List ℕ) (a : ℕ) (p : Option ℕ) → (k ≡ 0 → ⊥) → a ≡ get_or r (1151 + k) 0 → l ≡ m
      → p ≡ if_declared (declared_in l) s.file (pos s.index +ℤ signed 32 a) → p ≡ register_of (declared_in m) r s
  unfolding register_of
  register_indirect l m r a p h ea el ep = rw (← ek, ne_eqb k 0 h, ← ea, ← el) ep

-- ---- components

-- no word of a register that is not all there, negated or not
zero_word : (k : ℕ) → word_in zeros k ≡ 0
zero_word zero = refl
zero_word (suc zero) = refl
zero_word (suc (suc zero)) = refl
zero_word (suc (suc (suc zero))) = refl
zero_word (suc (suc (suc (suc k)))) = refl

zero_negated : (s : Source) → negated s 0 ≡ 0
zero_negated s = on (negates s)
  where
    on : (t : Bool) → cond t (neg 32 0) 0 ≡ 0
    on true = refl
    on false = refl

none_taken : (s : Source) → zeros ≡ taken zeros s
unfolding taken components
none_taken s = sym (simp (zero_word, zero_negated))

-- word i of four
four_word : (word : ℕ → ℕ) (first i : ℕ) → i < 4 → word (first + i) ≡ word_in (four_from word first) i
unfolding components
four_word word first zero b = refl
four_word word first (suc zero) b = refl
four_word word first (suc (suc zero)) b = refl
four_word word first (suc (suc (suc zero))) b = refl
four_word word first (suc (suc (suc (suc i)))) b = absurd (omega arith)

pub selected_below : (swizzle i k : ℕ) → k ≡ selected swizzle i → k < 4
selected_below swizzle i k e = rw e (mod-lt (swizzle / 2 ^ (2 * i)) (omega arith))

module _ (l : List ℕ) (first : ℕ) (s : Source) where
  -- component c of what the source takes
  pub component : ℕ → ℕ
  component c = negated s (word_in (four_from (word_in l) first) (selected s.swizzle c))

  pub four_taken : (x y z w : ℕ) → x ≡ component 0 → y ≡ component 1 → z ≡ component 2 → w ≡ component 3
      → x ∷ y ∷ z ∷ w ∷ [] ≡ taken (four_from (word_in l) first) s
  unfolding taken components component
  four_taken x y z w ex ey ez ew = cc

  -- the word that is selected for it, negated or not
  module _ (c v : ℕ) (t : Bool) (et : t ≡ negates s) where
    word : v ≡ word_in l (first + selected s.swizzle c) → v ≡ word_in (four_from (word_in l) first) (selected s.swizzle c)
    word e = e ∙ four_word (word_in l) first (selected s.swizzle c) (selected_below s.swizzle c (selected s.swizzle c) refl)

    pub component_plain : t ≡ false → v ≡ word_in l (first + selected s.swizzle c) → v ≡ component c
    unfolding component
    component_plain h e = rw (← et, h) (word e)

    pub component_negated : (n : ℕ) → n ≡ neg 32 v → t ≡ true → v ≡ word_in l (first + selected s.swizzle c) → n ≡ component c
    unfolding component
    component_negated n en h e = rw (← et, h) (en ∙ ap (neg 32) (word e))

-- ---- the register of each file

module _ (bank r : List ℕ) (f n : ℕ) (l : List ℕ) where
  const_words : f ≡ 1 → l ≡ part bank 0 4096 → four_from (word_in l) (4 * n) ≡ register_words (env_in bank) r f n
  unfolding register_words
  const_words h el = rw (h, ← el)

  in_words : f ≡ 2 → l ≡ part bank 4096 128 → four_from (word_in l) (4 * n) ≡ register_words (env_in bank) r f n
  unfolding register_words
  in_words h el = rw (h, ← el)

  imm_words : f ≡ 6 → l ≡ part bank 4224 1024 → four_from (word_in l) (4 * n) ≡ register_words (env_in bank) r f n
  unfolding register_words
  imm_words h el = rw (h, ← el)

module _ (e : Env) (r : List ℕ) (f n : ℕ) where
  temp_words : f ≡ 4 → four_from (word_in r) (128 + 4 * n) ≡ register_words e r f n
  unfolding register_words
  temp_words h = rw h

  no_words : (f ≡ 1 → ⊥) → (f ≡ 2 → ⊥) → (f ≡ 4 → ⊥) → (f ≡ 6 → ⊥) → zeros ≡ register_words e r f n
  unfolding register_words
  no_words a b c d = simp (ne_eqb f 1 a, ne_eqb f 2 b, ne_eqb f 4 c, ne_eqb f 6 d)

-- what a source takes of them
module _ (bank r : List ℕ) (s : Source) (n : ℕ) (l v : List ℕ) (ev : v ≡ taken (four_from (word_in l) (4 * n)) s) where
  abbrev from_register : List ℕ
  from_register = taken (register_words (env_in bank) r s.file n) s

  pub register_const : s.file ≡ 1 → l ≡ part bank 0 4096 → v ≡ from_register
  register_const h el = ev ∙ ap (λ (q : List ℕ). taken q s) (const_words bank r s.file n l h el)

  pub register_in : s.file ≡ 2 → l ≡ part bank 4096 128 → v ≡ from_register
  register_in h el = ev ∙ ap (λ (q : List ℕ). taken q s) (in_words bank r s.file n l h el)

  pub register_imm : s.file ≡ 6 → l ≡ part bank 4224 1024 → v ≡ from_register
  register_imm h el = ev ∙ ap (λ (q : List ℕ). taken q s) (imm_words bank r s.file n l h el)

module _ (e : Env) (r : List ℕ) (s : Source) (n : ℕ) where
  pub register_temp : (v : List ℕ) → s.file ≡ 4 → v ≡ taken (four_from (word_in r) (128 + 4 * n)) s → v ≡ taken (register_words e r s.file n) s
  register_temp v h ev = ev ∙ ap (λ (q : List ℕ). taken q s) (temp_words e r s.file n h)

  pub register_none : (s.file ≡ 1 → ⊥) → (s.file ≡ 2 → ⊥) → (s.file ≡ 4 → ⊥) → (s.file ≡ 6 → ⊥) → zeros ≡ taken (register_words e r s.file n) s
  register_none a b c d = none_taken s ∙ ap (λ (q : List ℕ). taken q s) (no_words e r s.file n a b c d)

module _ (e : Env) (r : List ℕ) (s : Source) where
  pub source_nowhere : None ≡ register_of e.declared r s → zeros ≡ source_of e r s
  unfolding source_of
  source_nowhere h = rw (← h)

  pub source_register : (n : ℕ) → Some n ≡ register_of e.declared r s → (v : List ℕ) → v ≡ taken (register_words e r s.file n) s → v ≡ source_of e r s
  unfolding source_of
  source_register n h v ev = rw (← h) ev
