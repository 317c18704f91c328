-- What the machine asks of the declared words is what the checker saw declared, of the files that an indirect operand may name; and
-- immediates with 0 after them are read as they are.
-- Assumes nothing.
use mathlib.Core.Path.{◌≡◌, refl, sym, ap, ◌∙◌, fun_ext}
use mathlib.Core.Bool.{Bool, true, false, ◌&&◌}
use mathlib.Core.List.{List, ◌++◌}
use Prim.Native.Nat.{ℕ, ◌+◌, ◌-◌, ◌/◌, ◌%◌, ◌^◌, ◌<◌, ◌≤◌}
use native.Mathlib.Omega.{arith}
use borrow.Author.Tests.{ltb-true, ltb-false, eqb-true}
use lib.Dec.{eqb, ltb}
use lib.ListN.{length, take, replicate, length-replicate, get_or-replicate, get_or-append, get_or-eq_default}
use lib.Seq.{get_or-append-add}
use Rattle.words.specs.Word.{bit_in}
use Rattle.bits.proofs.WordBits.{bits_past}
use Rattle.registers.specs.declared.sets.Declared.{Declared}
use Rattle.registers.specs.Sets.{is_in}
use Rattle.sources.specs.Bank.{env_in, declared_in}
use Rattle.sources.specs.Operands.{env_with, word_in}
use Rattle.lending.specs.Lent.{asked_indirectly, bank_env}
use Rattle.lending.proofs.Copies.{laid_behind}
use borrow.Rule.Slice.PartMut.{put_mid}

module _ (a b : List ℕ) (la : length a ≡ 32) (lb : length b ≡ 8) (i : ℕ) where
  -- The first list has the bits below 1,024, the second those from there on.
  first_bits : (t : Bool) → ltb i 1024 ≡ t → t && bit_in (a ++ b) i ≡ bit_in a i
  unfolding bit_in
  first_bits true e =
      let below : i < 1024 = ltb-true i 1024 e in
      ap (λ w. eqb (w / 2 ^ (i % 32) % 2) 1) (get_or-append a b 0 (i / 32) (omega arith))
  first_bits false e =
      let above : 1024 ≤ i = ltb-false i 1024 e in
      bits_past a i (omega arith)

  second_bits : (t : Bool) → ltb i 256 ≡ t → t && bit_in (a ++ b) (1024 + i) ≡ bit_in b i
  unfolding bit_in
  second_bits true e =
      let word : (1024 + i) / 32 ≡ length a + i / 32 = omega arith in
      let place : (1024 + i) % 32 ≡ i % 32 = omega arith in
      rw (word, place) (ap (λ w. eqb (w / 2 ^ (i % 32) % 2) 1) (get_or-append-add a b (i / 32) 0))
  second_bits false e =
      let above : 256 ≤ i = ltb-false i 256 e in
      bits_past b i (omega arith)

module _ (d : Declared) (lc : length d.consts ≡ 32) (lt : length d.temps ≡ 8) where
  pub asked_is : declared_in (d.consts ++ d.temps) ≡ asked_indirectly (is_in d)
  unfolding declared_in is_in
  asked_is = fun_ext λ f. fun_ext λ i. on f i (eqb f 1) refl (eqb f 4) refl
    where
      on : (f i : ℕ) (t : Bool) → eqb f 1 ≡ t → (u : Bool) → eqb f 4 ≡ u → declared_in (d.consts ++ d.temps) f i ≡ asked_indirectly (is_in d) f i
      on f i true e u e' = rw (eqb-true f 1 e) (first_bits d.consts d.temps lc lt i (ltb i 1024) refl)
      on f i false e true e' = rw (eqb-true f 4 e') (second_bits d.consts d.temps lc lt i (ltb i 256) refl)
      on f i false e false e' = rw (e, e')

  pub words_asked : (a b rest : List ℕ) → a ≡ d.consts → b ≡ d.temps → length rest ≡ 8 → declared_in (put_mid 32 8 (a ++ rest) b) ≡ asked_indirectly (is_in d)
  words_asked a b rest ea eb lr = rw (ea, eb, laid_behind d.consts d.temps rest lc lr) asked_is

pub bank_is : (d : Declared) (bank bits words inputs constants : List ℕ)
    → declared_in bits ≡ asked_indirectly (is_in d)
    → env_in bank ≡ env_with (declared_in bits) words (take 128 inputs) (take 4096 constants)
    → env_in bank ≡ bank_env (is_in d) words inputs constants
bank_is d bank bits words inputs constants asked gathered =
    gathered ∙ ap (λ (t : ℕ → ℕ → Bool). env_with t words (take 128 inputs) (take 4096 constants)) asked

-- ---- Words with nothing but 0 after them

-- A word of a list of 0.
zeros_are : (n k : ℕ) → word_in (replicate n 0) k ≡ 0
zeros_are n k = on (ltb k n) refl
  where
    on : (t : Bool) → ltb k n ≡ t → word_in (replicate n 0) k ≡ 0
    on true h = get_or-replicate n k 0 0 (ltb-true k n h)
    on false h = get_or-eq_default (replicate n 0) 0 (omega (arith, ltb-false k n h, length-replicate {A = ℕ} n 0))

pub padded_words : (words front : List ℕ) (n : ℕ) → words ≡ front ++ replicate n 0 → word_in words ≡ word_in front
padded_words words front n e = fun_ext λ k. on k (ltb k (length front)) refl
  where
    on : (k : ℕ) (t : Bool) → ltb k (length front) ≡ t → word_in words k ≡ word_in front k
    on k true h = rw e (get_or-append front (replicate n 0) 0 k (ltb-true k (length front) h))
    on k false h =
        let past : length front ≤ k = ltb-false k (length front) h in
        let there : length front + (k - length front) ≡ k = omega arith in
        rw e
        (ap (word_in (front ++ replicate n 0)) (sym there)
        ∙ get_or-append-add front (replicate n 0) (k - length front) 0
        ∙ zeros_are n (k - length front)
        ∙ sym (get_or-eq_default front 0 past))
