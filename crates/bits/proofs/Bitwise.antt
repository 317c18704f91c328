-- What a reader wants to know of single bits: those of AND, OR, XOR and NOT, of a number moved down or up, and of a sum of powers of two.
use Rattle.words.specs.Word.{bit, compl, sum}
use Rattle.words.proofs.Numbers.{below_or_not, complement_shr}
use Prim.Native.Nat.{◌%◌, ◌*◌, ◌+◌, ◌-◌, ◌/◌, ◌<◌, ◌^◌, ◌≤◌, max, min, suc, zero, ℕ}
use mathlib.Core.Path.{◌∙◌, ◌≡◌, ap, ap₂, refl, sym}
use mathlib.Core.Logic.{⊎_elim}
use native.Mathlib.Omega.{arith}
use native.Mathlib.Numerals.{add-one, one-add}
use native.Mathlib.Nat.{add_assoc, add_comm, add-mul-div_right, add-mul-mod_self_right, add-zero, div-eq_of_lt, div-eq_of_lt-le, div-one, mod-eq_of_lt, mod-lt, mod-one, mul_assoc, not-suc-le-zero, one-mul, pow-suc, zero-add, zero-div, zero-lt-suc}
use lib.Pow.{high, mod-pow-add, pow-add, pow_pos, shl-shr, shr_lt, shr-shr}
use lib.Arith.{digits_lt}
use lib.Bits.{and_block, and_mod, and_shr, bit_and, bit_or, bit_xor, or_mod, or_shr, xor_mod, xor_shr}

pub bit_lt : (a i : ℕ) → bit a i < 2
bit_lt a i = mod-lt (a / 2 ^ i) (zero-lt-suc 1)

-- what holds of 0 and of 1 holds of a bit
pub bit_cases : (P : ℕ → Type 0) → P 0 → P 1 → (x : ℕ) → x < 2 → P x
bit_cases P z o zero l = z
bit_cases P z o (suc zero) l = o
bit_cases P z o (suc (suc x)) l = absurd (omega arith)

-- AND, OR and XOR go bit by bit: set in both, in one at least, in one only
module _ (a b i : ℕ) where
  pub by_bits : (P : ℕ → ℕ → Type 0) → P 0 0 → P 0 1 → P 1 0 → P 1 1 → P (bit a i) (bit b i)
  by_bits P zz zo oz oo =
      bit_cases (λ x. P x (bit b i)) (bit_cases (P 0) zz zo (bit b i) (bit_lt b i))
      (bit_cases (P 1) oz oo (bit b i) (bit_lt b i)) (bit a i) (bit_lt a i)

  pub and_bit : bit (bit_and a b) i ≡ min (bit a i) (bit b i)
  and_bit =
      ap (λ (n : ℕ). n % 2) (and_shr a b i) ∙ and_mod (a / 2 ^ i) (b / 2 ^ i) 1
      ∙ by_bits (λ x y. bit_and x y ≡ min x y) refl refl refl refl

  pub or_bit : bit (bit_or a b) i ≡ max (bit a i) (bit b i)
  or_bit =
      ap (λ (n : ℕ). n % 2) (or_shr a b i) ∙ or_mod (a / 2 ^ i) (b / 2 ^ i) 1
      ∙ by_bits (λ x y. bit_or x y ≡ max x y) refl refl refl refl

  pub xor_bit : bit (bit_xor a b) i ≡ (bit a i + bit b i) % 2
  xor_bit =
      ap (λ (n : ℕ). n % 2) (xor_shr a b i) ∙ xor_mod (a / 2 ^ i) (b / 2 ^ i) 1
      ∙ by_bits (λ x y. bit_xor x y ≡ (x + y) % 2) refl refl refl refl

-- AND of two numbers that are moved up alike
pub and_up : (a b k : ℕ) → bit_and a b * 2 ^ k ≡ bit_and (a * 2 ^ k) (b * 2 ^ k)
and_up a b k =
    sym (ap₂ bit_and (sym (add-zero (a * 2 ^ k))) (sym (add-zero (b * 2 ^ k))) ∙ and_block k a b 0 0 (pow_pos k) (pow_pos k)
    ∙ add-zero (bit_and a b * 2 ^ k))

-- NOT turns every bit of the word
odd_complement : (m x : ℕ) → x < 2 ^ (m + 1) → (2 ^ (m + 1) - 1 - x) % 2 ≡ 1 - x % 2
odd_complement m x h = let e : 2 ^ (m + 1) ≡ 2 ^ m * 2 = pow-add 2 m 1 in omega arith

pub not_bit : (w a i : ℕ) → a < 2 ^ w → i < w → bit (compl w a) i ≡ 1 - bit a i
not_bit w a i l h =
    let e : w ≡ w - i + i = omega arith in
    let k : w - i ≡ w - i - 1 + 1 = omega arith in
    let la : a < 2 ^ (w - i + i) = rw (← e) l in
    let s : a / 2 ^ i < 2 ^ (w - i - 1 + 1) = rw (← k) (shr_lt (w - i) i la) in
    ap (λ (n : ℕ). (2 ^ n - 1 - a) / 2 ^ i % 2) e
    ∙ ap (λ (n : ℕ). n % 2) (complement_shr (w - i) i a la)
    ∙ ap (λ (n : ℕ). (2 ^ n - 1 - a / 2 ^ i) % 2) k
    ∙ odd_complement (w - i - 1) (a / 2 ^ i) s

-- ---- bits from the bottom

pub bit_zero : (a : ℕ) → bit a 0 ≡ a % 2
bit_zero a = ap (λ (n : ℕ). n % 2) (div-one a)

-- those of a number moved down or up by k places

pub down_bit : (a k i : ℕ) → bit (a / 2 ^ k) i ≡ bit a (i + k)
down_bit a k i = ap (λ (n : ℕ). n % 2) (shr-shr a k i) ∙ ap (bit a) (add_comm k i)

pub up_bit : (a k i : ℕ) → bit (a * 2 ^ k) (i + k) ≡ bit a i
up_bit a k i = sym (down_bit (a * 2 ^ k) k i) ∙ ap (λ (n : ℕ). bit n i) (shl-shr a k)

pub up_from : (a k i : ℕ) → k ≤ i → bit (a * 2 ^ k) i ≡ bit a (i - k)
up_from a k i l = let e : i ≡ i - k + k = omega arith in ap (bit (a * 2 ^ k)) e ∙ up_bit a k (i - k)

-- under what was moved up, nothing changes
pub under_bit : (a b k i : ℕ) → i < k → bit (a + b * 2 ^ k) i ≡ bit a i
under_bit a b k i h =
    let e : k ≡ k - i - 1 + 1 + i = omega arith in
    let p : b * 2 ^ k ≡ b * 2 ^ (k - i - 1) * 2 * 2 ^ i = ap (λ (j : ℕ). b * 2 ^ j) e ∙ simp (pow-add, mul_assoc) in
    ap (λ (n : ℕ). bit (a + n) i) p
    ∙ ap (λ (n : ℕ). n % 2) (add-mul-div_right a (b * 2 ^ (k - i - 1) * 2) (pow_pos i))
    ∙ add-mul-mod_self_right (a / 2 ^ i) (b * 2 ^ (k - i - 1)) 2

pub up_low : (a k i : ℕ) → i < k → bit (a * 2 ^ k) i ≡ 0
up_low a k i h =
    ap (λ (n : ℕ). bit n i) (sym (zero-add (a * 2 ^ k))) ∙ under_bit 0 a k i h ∙ ap (λ (n : ℕ). n % 2) (zero-div (2 ^ i))

pub bit_suc : (a i : ℕ) → bit a (suc i) ≡ bit (a / 2) i
bit_suc a i = ap (bit a) (sym (add-one i)) ∙ sym (down_bit a 1 i)

-- the bit of a number at its highest place, and above it
pub bit_top : (a i : ℕ) → 2 ^ i ≤ a → a < 2 ^ suc i → bit a i ≡ 1
bit_top a i l h = ap (λ (n : ℕ). n % 2) (div-eq_of_lt-le {k = 1} (2 ^ i) (omega (arith, one-mul (2 ^ i))) (omega (arith, pow-suc 2 i)))

pub bit_above : (a i : ℕ) → a < 2 ^ i → bit a i ≡ 0
bit_above a i h = ap (λ (n : ℕ). n % 2) (div-eq_of_lt h)

-- ---- sums over the places below n

pub sum_same : (n : ℕ) (f g : ℕ → ℕ) → ((i : ℕ) → i < n → f i ≡ g i) → sum n f ≡ sum n g
unfolding sum
sum_same zero f g h = refl
sum_same (suc n) f g h = ap₂ (λ (x y : ℕ). x + y) (sum_same n f g (λ i l. h i (omega arith))) (h n (omega arith))

pub sum_front : (n : ℕ) (f : ℕ → ℕ) → sum (suc n) f ≡ f 0 + sum n (λ i. f (suc i))
unfolding sum
sum_front zero f = zero-add (f 0) ∙ sym (add-zero (f 0))
sum_front (suc n) f =
    ap (λ (s : ℕ). s + f (suc n)) (sum_front n f) ∙ add_assoc (f 0) (sum n (λ i. f (suc i))) (f (suc n))

-- a number is made of its bits
made_of_bits : (n a : ℕ) → sum n (λ i. bit a i * 2 ^ i) ≡ a % 2 ^ n
unfolding sum
made_of_bits zero a = sym (mod-one a)
made_of_bits (suc n) a =
    ap (λ (s : ℕ). s + bit a n * 2 ^ n) (made_of_bits n a) ∙ add_comm (a % 2 ^ n) (bit a n * 2 ^ n) ∙ sym (mod-pow-add a 1 n)
    ∙ ap (λ (k : ℕ). a % 2 ^ k) (one-add n)

pub made_of : (n a : ℕ) (f : ℕ → ℕ) → a < 2 ^ n → ((i : ℕ) → i < n → bit a i ≡ f i) → a ≡ sum n (λ i. f i * 2 ^ i)
made_of n a f l h =
    sym (made_of_bits n a ∙ mod-eq_of_lt l) ∙ sum_same n (λ i. bit a i * 2 ^ i) (λ i. f i * 2 ^ i) (λ i k. ap (λ (b : ℕ). b * 2 ^ i) (h i k))

-- a number made of bits has those bits
module _ (f : ℕ → ℕ) (two : (i : ℕ) → f i < 2) where
  pub made_lt : (n : ℕ) → sum n (λ i. f i * 2 ^ i) < 2 ^ n
  unfolding sum
  made_lt zero = zero-lt-suc 0
  made_lt (suc n) = let t = digits_lt (two n) (made_lt n) in omega (arith, t, pow-suc 2 n)

  pub made_bit : (n j : ℕ) → j < n → bit (sum n (λ i. f i * 2 ^ i)) j ≡ f j
  unfolding sum
  made_bit zero j h = absurd (not-suc-le-zero h)
  made_bit (suc n) j h =
      ⊎_elim (λ (l : j < n). under_bit (sum n (λ i. f i * 2 ^ i)) (f n) n j l ∙ made_bit n j l) (λ (l : n ≤ j). upper (omega arith)) (below_or_not j n)
    where
      upper : j ≡ n → bit (sum n (λ i. f i * 2 ^ i) + f n * 2 ^ n) j ≡ f j
      upper e =
          ap (λ (k : ℕ). (sum n (λ i. f i * 2 ^ i) + f n * 2 ^ n) / 2 ^ k % 2) e
          ∙ ap (λ (k : ℕ). k / 2 ^ n % 2) (add_comm (sum n (λ i. f i * 2 ^ i)) (f n * 2 ^ n))
          ∙ ap (λ (k : ℕ). k % 2) (high (f n) n (made_lt n)) ∙ mod-eq_of_lt (two n) ∙ ap f (sym e)
