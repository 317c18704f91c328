-- Bits of a word and of words: a range of them that is set, a search over them, and that a word without bits is 0.
-- Assumes nothing.
use mathlib.Core.Path.{◌≡◌, refl, sym, ap, ◌∙◌}
use mathlib.Core.Bool.{Bool, true, false, ◌||◌, ◌&&◌}
use mathlib.Core.Logic.{⊎_elim}
use mathlib.Core.List.{List}
use Prim.Native.Nat.{ℕ, zero, suc, ◌+◌, ◌-◌, ◌*◌, ◌/◌, ◌%◌, ◌^◌, ◌<◌, ◌≤◌}
use native.Mathlib.Omega.{arith}
use native.Mathlib.Numerals.{add-one}
use native.Mathlib.Nat.{zero-add, add-zero, mul-zero, pow-suc, zero-div, add-suc, suc-add}
use lib.Dec.{leb, ltb}
use lib.Pow.{high}
use lib.ListN.{length, get_or, get_or-eq_default}
use borrow.Author.Tests.{eqb-false}
use Rattle.words.specs.Word.{is_set, bit_in}
use Rattle.registers.specs.Sets.{any_of}
use Rattle.std.specs.List.{AllWithin, HoldsAt, range_with_len}
use Rattle.std.specs.Bool.{MatchBool}
use Rattle.std.proofs.lemmas.List.FromFn.{get_or-range_with_len, length-range_with_len}
use Rattle.registers.proofs.Choices.{le_or_lt, or_false, or_true}

-- The bits with those from first on, below end, more.
abbrev pub below : (ℕ → Bool) → ℕ → ℕ → ℕ → Bool
below p first end j = leb first j && ltb j end || p j

-- ---- A search

joined : (a b c : Bool) → (a || (b || c)) ≡ ((a || b) || c)
joined true b c = refl
joined false b c = refl

module _ (p : ℕ → Bool) where
  any_at : (n first k : ℕ) → k < n → p (first + k) ≡ true → any_of p first n ≡ true
  any_at zero first k h e = absurd (omega arith)
  any_at (suc n) first zero h e = rw (rw add-zero at e)
  any_at (suc n) first (suc k) h e = rw (any_at n (suc first) k (omega arith) (rw (suc-add, ← add-suc) e)) (or_true (p first))

  none_of : (n first : ℕ) → ((k : ℕ) → k < n → p (first + k) ≡ false) → any_of p first n ≡ false
  none_of zero first each = refl
  none_of (suc n) first each =
      let here : p first ≡ false = rw add-zero at (each 0 (omega arith)) in
      rw (here, none_of n (suc first) (λ k h. rw (suc-add, ← add-suc) (each (suc k) (omega arith))))

  -- By the numbers from first on, n of them, as an iterator's `any` says it.
  pub any_by : (first n : ℕ) (r : Bool)
      → MatchBool r ((k : ℕ) × (k < length (range_with_len first n)) × HoldsAt (λ i. p i ≡ true) (range_with_len first n) k)
      (AllWithin (λ i. p i ≡ false) (range_with_len first n) 0 (length (range_with_len first n)))
      → r ≡ any_of p first n
  any_by first n true (k, h, found) =
      let l : k < n = omega (arith, length-range_with_len first n) in
      sym (any_at n first k l (rw get_or-range_with_len at (found 0)))
  any_by first n false each = sym (none_of n first (λ k h. rw get_or-range_with_len at (each k 0 (omega arith) (omega (arith, length-range_with_len first n)))))

  any_append : (m n i : ℕ) → any_of p i (m + n) ≡ (any_of p i m || any_of p (i + m) n)
  any_append zero n i = rw (zero-add n, add-zero i)
  any_append (suc m) n i =
      rw (suc-add m n) (ap (λ (t : Bool). p i || t) (any_append m n (suc i)) ∙ joined (p i) (any_of p (suc i) m) (any_of p (suc i + m) n)
      ∙ ap (λ (k : ℕ). (p i || any_of p (suc i) m) || any_of p k n) (suc-add i m ∙ sym (add-suc i m)))

  -- Where none of the later numbers is as asked, the first m say it of all n.
  pub any_within : (first m n : ℕ) → m ≤ n → ((i : ℕ) → first + m ≤ i → i < first + n → p i ≡ false) → any_of p first m ≡ any_of p first n
  any_within first m n h none =
      let e : n ≡ m + (n - m) = omega arith in
      let later : any_of p (first + m) (n - m) ≡ false = none_of (n - m) (first + m) (λ k l. none (first + m + k) (omega arith) (omega arith)) in
      sym (ap (any_of p first) e ∙ any_append m (n - m) first ∙ rw (later, or_false))

-- Past the words no bit is set.
pub past_words : (ws : List ℕ) (i : ℕ) → 32 * length ws ≤ i → bit_in ws i ≡ false
unfolding bit_in
past_words ws i h =
    let l : length ws ≤ i / 32 = omega arith in
    rw (get_or-eq_default ws 0 l, zero-div (2 ^ (i % 32)))

-- ---- A word that is not 0 has a bit

any_same : (p q : ℕ → Bool) (i j n : ℕ) → ((k : ℕ) → k < n → p (i + k) ≡ q (j + k)) → any_of p i n ≡ any_of q j n
any_same p q i j zero h = refl
any_same p q i j (suc n) h =
    let e : p i ≡ q j = ap p (sym (add-zero i)) ∙ h 0 (omega arith) ∙ ap q (add-zero j) in
    rw (e, any_same p q (suc i) (suc j) n (λ k l. ap p (suc-add i k ∙ sym (add-suc i k)) ∙ h (suc k) (omega arith) ∙ ap q (add-suc j k ∙ sym (suc-add j k))))

any_last : (p : ℕ → Bool) (n : ℕ) → any_of p 0 (n + 1) ≡ (any_of p 0 n || p n)
any_last p n = any_append p n 1 0 ∙ rw (zero-add n) (ap (λ (t : Bool). any_of p 0 n || t) (or_false (p n)))

low_half : (w n : ℕ) → w < 2 ^ suc n → is_set w n ≡ false → w < 2 ^ n
low_half w n h e =
    let z = eqb-false (w / 2 ^ n % 2) 1 e in
    ⊎_elim (λ l. absurd (z (half l))) (λ l. l) (le_or_lt (2 ^ n) w)
  where
    half : 2 ^ n ≤ w → w / 2 ^ n % 2 ≡ 1
    half l =
        let s : w ≡ 1 * 2 ^ n + (w - 2 ^ n) = omega arith in
        ap (λ (x : ℕ). x / 2 ^ n % 2) s ∙ ap (λ (x : ℕ). x % 2) (high 1 n (omega (arith, pow-suc 2 n)))

some_bit : (n w : ℕ) → w < 2 ^ n → (w ≡ 0 → ⊥) → any_of (is_set w) 0 n ≡ true
some_bit zero w h z = absurd (z (omega arith))
some_bit (suc n) w h z = ap (any_of (is_set w) 0) (sym (add-one n)) ∙ any_last (is_set w) n ∙ by (is_set w n) refl (some_bit n w) where
  by : (t : Bool) → is_set w n ≡ t → (w < 2 ^ n → (w ≡ 0 → ⊥) → any_of (is_set w) 0 n ≡ true) → (any_of (is_set w) 0 n || t) ≡ true
  by true e f = or_true (any_of (is_set w) 0 n)
  by false e f = or_false (any_of (is_set w) 0 n) ∙ f (low_half w n h e) z

no_bit : (n i : ℕ) → any_of (is_set 0) i n ≡ false
no_bit zero i = refl
no_bit (suc n) i = rw (zero-div (2 ^ i)) (no_bit n (suc i))

module _ (ws : List ℕ) where
  word_bits : (i : ℕ) → any_of (bit_in ws) (32 * i) 32 ≡ any_of (is_set (get_or ws i 0)) 0 32
  unfolding bit_in
  word_bits i =
      any_same (bit_in ws) (is_set (get_or ws i 0)) (32 * i) 0 32
      (λ k l. let a : (32 * i + k) / 32 ≡ i = omega arith in
      let b : (32 * i + k) % 32 ≡ 0 + k = omega arith in
      rw (a, b))

  -- The bits of n + 1 words from word i on are those of word i, and those of the n after it.
  by_word : (i n : ℕ) → any_of (bit_in ws) (32 * i) (32 * suc n) ≡ (any_of (is_set (get_or ws i 0)) 0 32 || any_of (bit_in ws) (32 * suc i) (32 * n))
  by_word i n =
      let e : 32 * suc n ≡ 32 + 32 * n = omega arith in
      let f : 32 * i + 32 ≡ 32 * suc i = omega arith in
      ap (any_of (bit_in ws) (32 * i)) e ∙ any_append (bit_in ws) 32 (32 * n) (32 * i) ∙ rw (word_bits i, f)

  module _ (small : (i : ℕ) → get_or ws i 0 < 2 ^ 32) where
    some_word : (n i k : ℕ) → k < n → (get_or ws (i + k) 0 ≡ 0 → ⊥) → any_of (bit_in ws) (32 * i) (32 * n) ≡ true
    some_word zero i k h some = absurd (omega arith)
    some_word (suc n) i zero h some = by_word i n ∙ rw (some_bit 32 (get_or ws i 0) (small i) (rw add-zero at some))
    some_word (suc n) i (suc k) h some =
        by_word i n ∙ rw (some_word n (suc i) k (omega arith) (rw (suc-add, ← add-suc) some)) (or_true (any_of (is_set (get_or ws i 0)) 0 32))

    no_word : (n i : ℕ) → ((k : ℕ) → k < n → get_or ws (i + k) 0 ≡ 0) → any_of (bit_in ws) (32 * i) (32 * n) ≡ false
    no_word zero i each = ap (any_of (bit_in ws) (32 * i)) (mul-zero 32)
    no_word (suc n) i each =
        let here : get_or ws i 0 ≡ 0 = rw add-zero at (each 0 (omega arith)) in
        by_word i n ∙ rw (here, no_bit 32 0, no_word n (suc i) (λ k h. rw (suc-add, ← add-suc) (each (suc k) (omega arith))))

    -- Some bit is set where some word is not 0.
    pub any_word : (r : Bool)
        → MatchBool r ((k : ℕ) × (k < length ws) × HoldsAt (λ w. w ≡ 0 → ⊥) ws k) (AllWithin (λ w. w ≡ 0) ws 0 (length ws))
        → r ≡ any_of (bit_in ws) 0 (32 * length ws)
    any_word true (k, h, some) = sym (rw mul-zero at (some_word (length ws) 0 k h (rw (zero-add k) (some 0))))
    any_word false each = sym (rw mul-zero at (no_word (length ws) 0 (λ k h. rw (zero-add k) (each k 0 (omega arith) h))))
