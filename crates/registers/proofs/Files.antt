-- The register files, file by file: which words hold their registers, and where a declaration that keeps its rule ends.
-- Assumes nothing.
use mathlib.Core.Path.{◌≡◌, refl, sym, ◌∙◌}
use mathlib.Core.Bool.{Bool, true, false, not, ◌&&◌, ◌||◌}
use mathlib.Core.List.{List}
use native.Mathlib.Nat.{mul-zero}
use Prim.Native.Nat.{ℕ, ◌*◌, ◌<◌}
use lib.Dec.{eqb, leb, ltb}
use lib.ListN.{length, replicate}
use borrow.Author.Tests.{ltb-true, not-false}
use Rattle.words.specs.Word.{bit_in}
use Rattle.bits.proofs.WordBits.{zero_bits}
use Rattle.format.specs.Files.{registers_of}
use Rattle.format.specs.Kinds.{within}
use Rattle.format.specs.declared.fields.Declaration.{Declaration}
use Rattle.registers.specs.Sets.{words_of, is_in, none, any_of}
use Rattle.registers.specs.Rules.{declaration_rule}
use Rattle.registers.specs.declared.sets.Declared.{Declared}
use Rattle.registers.proofs.Choices.{when_number, never}

file_cases : (P : ℕ → Type 0) → P 1 → P 2 → P 3 → P 4 → P 5 → P 7
    → ((f : ℕ) → eqb f 1 ≡ false → eqb f 2 ≡ false → eqb f 3 ≡ false → eqb f 4 ≡ false → eqb f 5 ≡ false → eqb f 7 ≡ false → P f) → (f : ℕ) → P f
file_cases P p1 p2 p3 p4 p5 p7 o f =
    when_number P 1 p1 f (λ e1. when_number P 2 p2 f (λ e2. when_number P 3 p3 f (λ e3.
    when_number P 4 p4 f (λ e4. when_number P 5 p5 f (λ e5. when_number P 7 p7 f (λ e7. o f e1 e2 e3 e4 e5 e7))))))

-- ---- The registers of a file, by its words

module _ (d : Declared) (f : ℕ) (r : Bool) (ws : List ℕ) (words : ws ≡ words_of d f) where
  -- All words of a file of several registers are its registers.
  pub some_declared : length d.consts ≡ 32 → length d.ins ≡ 1 → length d.outs ≡ 1 → length d.temps ≡ 8 → (f ≡ 5 → ⊥) → (f ≡ 7 → ⊥)
      → r ≡ any_of (bit_in ws) 0 (32 * length ws) → r ≡ any_of (is_in d f) 0 (registers_of f)
  unfolding is_in
  some_declared c i o t n5 n7 e = e ∙ rw (words, whole n5 n7) where
    whole : (f ≡ 5 → ⊥) → (f ≡ 7 → ⊥) → 32 * length (words_of d f) ≡ registers_of f
    whole =
        file_cases (λ (g : ℕ). (g ≡ 5 → ⊥) → (g ≡ 7 → ⊥) → 32 * length (words_of d g) ≡ registers_of g)
        (λ n5 n7. rw c) (λ n5 n7. rw i) (λ n5 n7. rw o) (λ n5 n7. rw t) (λ n5 n7. absurd (n5 refl)) (λ n5 n7. absurd (n7 refl))
        (λ g e1 e2 e3 e4 e5 e7 n5 n7. rw (e1, e2, e3, e4, e5, e7) (mul-zero 32))
        f

-- ---- No register is declared

pub no_bits : (e : Declared)
    → words_of e 1 ≡ replicate 32 0 → words_of e 2 ≡ replicate 1 0 → words_of e 3 ≡ replicate 1 0
    → words_of e 4 ≡ replicate 8 0 → words_of e 5 ≡ replicate 1 0 → words_of e 7 ≡ replicate 1 0
    → is_in e ≡ none
unfolding is_in
no_bits e a1 a2 a3 a4 a5 a7 t f j =
    file_cases (λ (f : ℕ). bit_in (words_of e f) j ≡ false)
    (rw a1 (zero_bits 32 j)) (rw a2 (zero_bits 1 j)) (rw a3 (zero_bits 1 j)) (rw a4 (zero_bits 8 j)) (rw a5 (zero_bits 1 j)) (rw a7 (zero_bits 1 j))
    (λ g e1 e2 e3 e4 e5 e7. rw (e1, e2, e3, e4, e5, e7) (zero_bits 0 j))
    f t

-- ---- Declarations

third : (a b c : Bool) → (a && b && c) ≡ true → c ≡ true
third true true c e = e
third true false c e = never e
third false b c e = never e

pub rule_last : (d : Declaration) (r : Bool) → r ≡ declaration_rule d → not r ≡ false → d.last < registers_of d.file
unfolding declaration_rule
rule_last d r rules kept =
    ltb-true d.last (registers_of d.file)
    (third (within 1 5 d.file || eqb d.file 7) (leb d.first d.last) (ltb d.last (registers_of d.file)) (sym rules ∙ not-false r kept))
