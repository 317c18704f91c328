-- The checker's word of the declared OUT is made of one bit for each.
-- Assumes nothing.
use mathlib.Core.Path.{◌≡◌, refl, ap, ◌∙◌}
use mathlib.Core.Bool.{Bool, true, false, cond}
use mathlib.Core.List.{List}
use Prim.Native.Nat.{ℕ, ◌*◌, ◌/◌, ◌%◌, ◌^◌, ◌<◌}
use native.Mathlib.Omega.{arith}
use lib.Dec.{eqb}
use lib.ListN.{get_or}
use Rattle.words.specs.Word.{bit, bit_in, sum}
use Rattle.bits.proofs.Bitwise.{bit_lt, bit_cases, sum_same, made_bit, made_of}
use Rattle.format.specs.Files.{OUT, registers_of}
use Rattle.registers.specs.declared.sets.Declared.{Declared}
use Rattle.registers.specs.Sets.{Registers, is_in}
use Rattle.needs.specs.Needs.{outputs_in}

as_bit : (x : ℕ) → x < 2 → ◌≡◌ {A = ℕ} x (cond (eqb x 1) 1 0)
as_bit = bit_cases (λ x. ◌≡◌ {A = ℕ} x (cond (eqb x 1) 1 0)) refl refl

-- The bit of a word among words of which it is the first.
first_bit : (words : List ℕ) (i : ℕ) → i < 32 → bit (get_or words 0 0) i ≡ cond (bit_in words i) 1 0
unfolding bit_in
first_bit words i h =
    let first : i / 32 ≡ 0 = omega arith in
    let place : i % 32 ≡ i = omega arith in
    rw (first, place) (as_bit (bit (get_or words 0 0) i) (bit_lt (get_or words 0 0) i))

pub word_of_bits : (word : ℕ) → word < 2 ^ 32 → word ≡ sum 32 (λ i. bit word i * 2 ^ i)
word_of_bits word fits = made_of 32 word (bit word) fits (λ i h. refl)

pub outputs_are : (d : Declared) (r : ℕ) → r ≡ sum 32 (λ i. bit (get_or d.outs 0 0) i * 2 ^ i) → r ≡ outputs_in (is_in d)
unfolding outputs_in is_in
outputs_are d r made =
    made
    ∙ sum_same 32 (λ i. bit (get_or d.outs 0 0) i * 2 ^ i) (λ i. cond (bit_in d.outs i) 1 0 * 2 ^ i) (λ i h. ap (λ (b : ℕ). b * 2 ^ i) (first_bit d.outs i h))

-- For a reader: bit i of the word says whether OUT[i] is declared.
pub output_bit : (declared : Registers) (i : ℕ) → i < registers_of OUT → bit (outputs_in declared) i ≡ cond (declared OUT i) 1 0
unfolding outputs_in
output_bit declared i h = made_bit (λ j. cond (declared OUT j) 1 0) (λ j. two (declared OUT j)) 32 i h
  where
    two : (t : Bool) → ◌<◌ (cond t 1 0) 2
    two true = omega arith
    two false = omega arith
