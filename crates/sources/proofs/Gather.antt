-- The bank holds what is lent. A part of it that was 0 holds the words laid there, and keeps them when others are laid beside it.
-- Assumes nothing.
use mathlib.Core.Path.{◌≡◌, refl, sym, ap, ◌∙◌, fun_ext}
use mathlib.Core.Bool.{Bool, true, false, cond, ◌&&◌}
use mathlib.Core.List.{List, [], ◌++◌}
use Prim.Native.Nat.{ℕ, ◌+◌, ◌-◌, ◌/◌, ◌%◌, ◌<◌, ◌≤◌}
use native.Mathlib.Omega.{arith}
use native.Mathlib.Nat.{min-eq_left, min-le_left}
use borrow.Author.Tests.{ltb-true, ltb-false}
use lib.Dec.{eqb, ltb}
use lib.ListN.{length, take, drop, replicate, length-replicate, length-take, get_or-replicate, get_or-append, get_or-eq_default}
use lib.Seq.{get_or-append-add, get_or-drop, get_or-take, length-paste, length_paste_head, paste, take_all}
use Rattle.words.specs.Word.{bit_in, is_set}
use Rattle.sources.specs.Bank.{env_in, part, declared_in}
use Rattle.sources.specs.Inner.Laid.{laid}
use Rattle.sources.specs.Operands.{env_with, word_in}

-- ---- Words of a copy

module _ (d : List ℕ) (at : ℕ) (s : List ℕ) (n : ℕ) (room : at + n ≤ length d) (there : n ≤ length s) where
  front : length (take at d ++ take n s) ≡ at + n
  front = length_paste_head d at s n (omega arith) there

  before : length (take at d) ≡ at
  before = length-take at d ∙ min-eq_left (omega arith)

  pub copied_before : (k : ℕ) → k < at → word_in (paste d at s n) k ≡ word_in d k
  copied_before k h =
      get_or-append (take at d ++ take n s) (drop (at + n) d) 0 k (omega (arith, front))
      ∙ get_or-append (take at d) (take n s) 0 k (omega (arith, before))
      ∙ get_or-take at d k 0 h

  pub copied : (j : ℕ) → j < n → word_in (paste d at s n) (at + j) ≡ word_in s j
  copied j h =
      get_or-append (take at d ++ take n s) (drop (at + n) d) 0 (at + j) (omega (arith, front))
      ∙ ap (λ (k : ℕ). word_in (take at d ++ take n s) (k + j)) (sym before)
      ∙ get_or-append-add (take at d) (take n s) j 0
      ∙ get_or-take n s j 0 h

  pub copied_after : (k : ℕ) → at + n ≤ k → word_in (paste d at s n) k ≡ word_in d k
  copied_after k h =
      let far : length (take at d ++ take n s) + (k - (at + n)) ≡ k = omega (arith, front) in
      let back : at + n + (k - (at + n)) ≡ k = omega arith in
      ap (word_in (paste d at s n)) (sym far)
      ∙ get_or-append-add (take at d ++ take n s) (drop (at + n) d) (k - (at + n)) 0
      ∙ get_or-drop (at + n) d (k - (at + n)) 0
      ∙ ap (word_in d) back

-- ---- What a part of the bank holds

-- The n words from `first` on are those of a list, and 0 past its end.
abbrev Held : List ℕ → ℕ → ℕ → List ℕ → Type 0
Held bank first n words = (k : ℕ) → k < n → word_in bank (first + k) ≡ word_in words k

none_held : (first n : ℕ) → first + n ≤ 5288 → Held (replicate 5288 0) first n []
none_held first n h k b = get_or-replicate 5288 (first + k) 0 0 (omega arith)

module _ (bank : List ℕ) (long : length bank ≡ 5288) (from : ℕ) (words : List ℕ) (room : from + length words ≤ 5288) where
  fits : from + length words ≤ length bank
  fits = omega arith

  same : length words ≤ length words
  same = omega arith

  pub laid_long : length (laid bank from words) ≡ 5288
  laid_long = length-paste bank from words (length words) fits same ∙ long

  laid_held : (n : ℕ) → Held bank from n [] → Held (laid bank from words) from n words
  laid_held n empty k b = on (ltb k (length words)) refl
    where
      on : (t : Bool) → ltb k (length words) ≡ t → word_in (laid bank from words) (from + k) ≡ word_in words k
      on true e = copied bank from words (length words) fits same k (ltb-true k (length words) e)
      on false e =
          let past : length words ≤ k = ltb-false k (length words) e in
          copied_after bank from words (length words) fits same (from + k) (omega arith)
          ∙ empty k b ∙ sym (get_or-eq_default words 0 past)

  kept_before : (first n : ℕ) (vs : List ℕ) → first + n ≤ from → Held bank first n vs → Held (laid bank from words) first n vs
  kept_before first n vs apart h k b = copied_before bank from words (length words) fits same (first + k) (omega arith) ∙ h k b

  kept_after : (first n : ℕ) (vs : List ℕ) → from + length words ≤ first → Held bank first n vs → Held (laid bank from words) first n vs
  kept_after first n vs apart h k b = copied_after bank from words (length words) fits same (first + k) (omega arith) ∙ h k b

part_is : (bank : List ℕ) (first n : ℕ) (words : List ℕ) → length words ≤ n → Held bank first n words → word_in (part bank first n) ≡ word_in words
part_is bank first n words short held = fun_ext λ k. on k (ltb k n) refl
  where
    on : (k : ℕ) (t : Bool) → ltb k n ≡ t → word_in (part bank first n) k ≡ word_in words k
    on k true e = get_or-take n (drop first bank) k 0 (ltb-true k n e) ∙ get_or-drop first bank k 0 ∙ held k (ltb-true k n e)
    on k false e =
        let past : n ≤ k = ltb-false k n e in
        get_or-eq_default (part bank first n) 0 (omega (arith, length-take n (drop first bank), min-le_left n (length (drop first bank))))
        ∙ sym (get_or-eq_default words 0 (omega arith))

-- What is declared is asked of the words alone.
abbrev declared_by : (ℕ → ℕ) → ℕ → ℕ → Bool
declared_by word f i =
    cond (eqb f 1) (ltb i 1024 && is_set (word (i / 32)) (i % 32))
    (cond (eqb f 4) (ltb i 256 && is_set (word ((1024 + i) / 32)) ((1024 + i) % 32)) false)

declared_same : (a b : List ℕ) → word_in a ≡ word_in b → declared_in a ≡ declared_in b
unfolding declared_in bit_in
declared_same a b h = ap declared_by h

-- ---- The bank

module _ (immediates inputs constants bits b₁ b₂ b₃ b₄ : List ℕ)
    (e₁ : b₁ ≡ laid (replicate 5288 0) 0 (take 4096 constants))
    (e₂ : b₂ ≡ laid b₁ 4096 (take 128 inputs))
    (e₃ : b₃ ≡ laid b₂ 4224 (take 1024 immediates))
    (e₄ : b₄ ≡ laid b₃ 5248 (take 40 bits))
  where
    abbrev none : List ℕ
    none = replicate 5288 0

    abbrev c : List ℕ
    c = take 4096 constants

    abbrev i : List ℕ
    i = take 128 inputs

    abbrev m : List ℕ
    m = take 1024 immediates

    abbrev d : List ℕ
    d = take 40 bits

    lc : length c ≤ 4096
    lc = omega (arith, length-take 4096 constants)

    li : length i ≤ 128
    li = omega (arith, length-take 128 inputs)

    lm : length m ≤ 1024
    lm = omega (arith, length-take 1024 immediates)

    ld : length d ≤ 40
    ld = omega (arith, length-take 40 bits)

    l₀ : length none ≡ 5288
    l₀ = length-replicate {A = ℕ} 5288 0

    abbrev p₁ : List ℕ
    p₁ = laid none 0 c

    abbrev p₂ : List ℕ
    p₂ = laid p₁ 4096 i

    abbrev p₃ : List ℕ
    p₃ = laid p₂ 4224 m

    abbrev p₄ : List ℕ
    p₄ = laid p₃ 5248 d

    l₁ : length p₁ ≡ 5288
    l₁ = laid_long none l₀ 0 c (omega (arith, lc))

    l₂ : length p₂ ≡ 5288
    l₂ = laid_long p₁ l₁ 4096 i (omega (arith, li))

    l₃ : length p₃ ≡ 5288
    l₃ = laid_long p₂ l₂ 4224 m (omega (arith, lm))

    -- each part: laid, and kept where the others are laid
    over_bits : (first n : ℕ) (vs : List ℕ) → first + n ≤ 5248 → Held p₃ first n vs → Held p₄ first n vs
    over_bits first n vs = kept_before p₃ l₃ 5248 d (omega (arith, ld)) first n vs

    over_immediates : (first n : ℕ) (vs : List ℕ) → first + n ≤ 4224 → Held p₂ first n vs → Held p₃ first n vs
    over_immediates first n vs = kept_before p₂ l₂ 4224 m (omega (arith, lm)) first n vs

    past_constants : (first n : ℕ) → 4096 ≤ first → first + n ≤ 5288 → Held p₁ first n []
    past_constants first n h k = kept_after none l₀ 0 c (omega (arith, lc)) first n [] (omega (arith, lc)) (none_held first n k)

    past_inputs : (first n : ℕ) → 4224 ≤ first → first + n ≤ 5288 → Held p₂ first n []
    past_inputs first n h k =
        kept_after p₁ l₁ 4096 i (omega (arith, li)) first n [] (omega (arith, li)) (past_constants first n (omega arith) k)

    constants_held : Held p₄ 0 4096 c
    constants_held =
        over_bits 0 4096 c (omega arith)
        (over_immediates 0 4096 c (omega arith)
        (kept_before p₁ l₁ 4096 i (omega (arith, li)) 0 4096 c (omega arith)
        (laid_held none l₀ 0 c (omega (arith, lc)) 4096 (none_held 0 4096 (omega arith)))))

    inputs_held : Held p₄ 4096 128 i
    inputs_held =
        over_bits 4096 128 i (omega arith)
        (over_immediates 4096 128 i (omega arith)
        (laid_held p₁ l₁ 4096 i (omega (arith, li)) 128 (past_constants 4096 128 (omega arith) (omega arith))))

    immediates_held : Held p₄ 4224 1024 m
    immediates_held =
        over_bits 4224 1024 m (omega arith)
        (laid_held p₂ l₂ 4224 m (omega (arith, lm)) 1024 (past_inputs 4224 1024 (omega arith) (omega arith)))

    bits_held : Held p₄ 5248 40 d
    bits_held =
        laid_held p₃ l₃ 5248 d (omega (arith, ld)) 40
        (kept_after p₂ l₂ 4224 m (omega (arith, lm)) 5248 40 [] (omega (arith, lm)) (past_inputs 5248 40 (omega arith) (omega arith)))

    env_is : env_in p₄ ≡ env_with (declared_in d) m i c
    env_is =
        rw (
          part_is p₄ 0 4096 c lc constants_held,
          part_is p₄ 4096 128 i li inputs_held,
          part_is p₄ 4224 1024 m lm immediates_held,
          declared_same (part p₄ 5248 40) d (part_is p₄ 5248 40 d ld bits_held),
        )

    all_laid : b₄ ≡ p₄
    all_laid =
        e₄
        ∙ ap (λ (b : List ℕ). laid b 5248 d)
        (e₃ ∙ ap (λ (b : List ℕ). laid b 4224 m) (e₂ ∙ ap (λ (b : List ℕ). laid b 4096 i) e₁))

    pub gathered : length bits ≡ 40 → length immediates ≡ 1024 → env_in b₄ ≡ env_with (declared_in bits) immediates (take 128 inputs) (take 4096 constants)
    gathered lb li =
        ap env_in all_laid ∙ env_is
        ∙ ap (λ (q : List ℕ). env_with (declared_in q) m i c) (take_all 40 bits (omega arith))
        ∙ ap (λ (q : List ℕ). env_with (declared_in bits) q i c) (take_all 1024 immediates (omega arith))
