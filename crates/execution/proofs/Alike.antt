-- No accepted program can tell the bank from what is lent: a direct operand names a register within its file, an indirect one a
-- declared register of CONST or TEMP, and the bank has the words of all of these.
-- Assumes nothing.
use mathlib.Core.Path.{◌≡◌, refl, ap, ◌∙◌, subst}
use mathlib.Core.Bool.{Bool, true, false, cond, ◌||◌}
use mathlib.Core.List.{List}
use Prim.Native.Nat.{ℕ, ◌+◌, ◌-◌, ◌*◌, ◌<◌}
use native.Mathlib.Omega.{arith}
use native.Mathlib.Nat.{add-zero}
use borrow.Author.Tests.{eqb-true, eqb-false, ltb-true}
use lib.Dec.{eqb, ltb}
use lib.IntN.{ℤ, pos, negsuc, ◌+ℤ◌}
use lib.ListN.{get_or, take, drop}
use lib.Seq.{get_or-drop, get_or-take}
use Rattle.words.specs.Word.{signed}
use Rattle.format.specs.Files.{CONST, IN, TEMP, IMM, addr_from, registers_of}
use Rattle.format.specs.Fields.{word16, source_at, indirection}
use Rattle.format.specs.Kinds.{form_of, sources, source_place}
use Rattle.format.specs.declared.fields.Source.{Source}
use Rattle.registers.proofs.Named.{Inside}
use Rattle.checker.specs.Check.{accepted, check_of}
use Rattle.checker.specs.Findings.{Seen}
use Rattle.checker.proofs.Accepted.{source_inside, indirect_file}
use Rattle.checker.proofs.Followed.{followed}
use Rattle.destinations.specs.Destinations.{components, zeros}
use Rattle.sources.specs.Operands.{Env, word_in, env_with, four_from, register_words, if_declared, register_of, taken, taken_at, source_of, kind_byte, nth_source, sources_of}
use Rattle.std.specs.Prelude.{Option, Some, None}
use Rattle.lending.specs.Lent.{asked_indirectly, bank_env}
use Rattle.execution.specs.Program.{place_of, env_of}

-- ---- Words

-- Of the words of m registers those of register n are the same.
four_same : (l : List ℕ) (m n : ℕ) → n < m → four_from (word_in (take (4 * m) l)) (4 * n) ≡ four_from (word_in l) (4 * n)
unfolding components
four_same l m n h =
    rw (
      get_or-take (4 * m) l (4 * n + 0) 0 (omega arith),
      get_or-take (4 * m) l (4 * n + 1) 0 (omega arith),
      get_or-take (4 * m) l (4 * n + 2) 0 (omega arith),
      get_or-take (4 * m) l (4 * n + 3) 0 (omega arith),
    )

module _ (declared : ℕ → ℕ → Bool) (immediates inputs constants r : List ℕ) where
  abbrev given : Env
  given = env_with declared immediates inputs constants

  abbrev banked : Env
  banked = bank_env declared immediates inputs constants

  words_same : (f n : ℕ) → ((f ≡ IMM → ⊥) → n < registers_of f) → register_words banked r f n ≡ register_words given r f n
  unfolding register_words
  words_same f n h = by (eqb f CONST) refl (eqb f IN) refl
    where
      by : (t : Bool) → eqb f CONST ≡ t → (u : Bool) → eqb f IN ≡ u → register_words banked r f n ≡ register_words given r f n
      by true e u q =
          let is : f ≡ CONST = eqb-true f CONST e in
          let below : n < 1024 = subst (λ (k : ℕ). n < registers_of k) is (h (λ imm. omega arith)) in
          rw is (four_same constants 1024 n below)
      by false e true q =
          let is : f ≡ IN = eqb-true f IN q in
          let below : n < 32 = subst (λ (k : ℕ). n < registers_of k) is (h (λ imm. omega arith)) in
          rw is (four_same inputs 32 n below)
      by false e false q = rw (e, q)

  -- ---- Somes

  declared_same : (f : ℕ) (z : ℤ) → (eqb f CONST || eqb f TEMP) ≡ true → if_declared (asked_indirectly declared) f z ≡ if_declared declared f z
  declared_same f (pos n) h = rw h
  declared_same f (negsuc n) h = refl

  -- A register that is found by its sum is declared.
  found_declared : (f : ℕ) (z : ℤ) (n : ℕ) → if_declared declared f z ≡ Some n → declared f n ≡ true
  found_declared f (pos k) n e = by (declared f k) refl
    where
      by : (t : Bool) → declared f k ≡ t → declared f n ≡ true
      by true q =
          let there : Some k ≡ Some n = rw q at e in
          let same : k ≡ n = cc in
          rw (← same) q
      by false q = let z : ◌≡◌ {A = ℕ} 0 1 = cc in absurd (omega arith)
  found_declared f (negsuc k) n e = let z : ◌≡◌ {A = ℕ} 0 1 = cc in absurd (omega arith)

  -- ---- One source

  module _ (s : Source)
      (inside : Inside declared)
      (direct : indirection s ≡ 0 → (s.file ≡ IMM → ⊥) → s.index < registers_of s.file)
      (steered : (indirection s ≡ 0 → ⊥) → (eqb s.file CONST || eqb s.file TEMP) ≡ true)
    where
      abbrev sum : ℤ
      sum = pos s.index +ℤ signed 32 (word_in r (addr_from - 1 + indirection s))

      place_same : register_of (asked_indirectly declared) r s ≡ register_of declared r s
      unfolding register_of
      place_same = by (eqb (indirection s) 0) refl
        where
          by : (t : Bool) → eqb (indirection s) 0 ≡ t
              → cond t (Some s.index) (if_declared (asked_indirectly declared) s.file sum) ≡ cond t (Some s.index) (if_declared declared s.file sum)
          by true e = refl
          by false e = declared_same s.file sum (steered (eqb-false _ _ e))

      place_inside : (n : ℕ) → register_of declared r s ≡ Some n → (s.file ≡ IMM → ⊥) → n < registers_of s.file
      unfolding register_of
      place_inside n there other = by (eqb (indirection s) 0) refl there
        where
          by : (t : Bool) → eqb (indirection s) 0 ≡ t → cond t (Some s.index) (if_declared declared s.file sum) ≡ Some n → n < registers_of s.file
          by true e q =
              let same : s.index ≡ n = cc in
              subst (λ (k : ℕ). k < registers_of s.file) same (direct (eqb-true _ _ e) other)
          by false e q = inside.below s.file n (found_declared s.file sum n q)

      pub source_same : source_of banked r s ≡ source_of given r s
      unfolding source_of
      source_same = ap (taken_at banked r s) place_same ∙ by (register_of declared r s) refl
        where
          by : (p : Option ℕ) → register_of declared r s ≡ p → taken_at banked r s p ≡ taken_at given r s p
          by (Some n) e = ap (λ (q : List ℕ). taken q s) (words_same s.file n (place_inside n e))
          by None e = refl

-- ---- The sources of a record

source_from : (file : List ℕ) (p q : ℕ) → source_at (drop p file) q ≡ source_at file (p + q)
unfolding source_at word16
source_from file p q =
    let one : p + q + 1 ≡ p + (q + 1) = omega arith in
    let two : p + q + 1 + 1 ≡ p + (q + 1 + 1) = omega arith in
    let three : p + q + 3 ≡ p + (q + 3) = omega arith in
    let four : p + q + 4 ≡ p + (q + 4) = omega arith in
    rw (two, one, three, four, get_or-drop p file q 0, get_or-drop p file (q + 1) 0, get_or-drop p file (q + 1 + 1) 0, get_or-drop p file (q + 3) 0, get_or-drop p file (q + 4) 0)

pub kind_from_is : (file : List ℕ) (p : ℕ) → kind_byte (drop p file) ≡ get_or file p 0
kind_from_is file p = get_or-drop p file 0 0 ∙ ap (λ (i : ℕ). get_or file i 0) (add-zero p)

-- Instruction n of an accepted program.
module _ (file : List ℕ) (s : Seen) (ok : check_of file ≡ accepted s) (n : ℕ) (h : n < s.instructions) (inputs constants r : List ℕ) where
  abbrev p : ℕ
  p = place_of s file n

  abbrev kind : ℕ
  kind = get_or file p 0

  abbrev bytes : List ℕ
  bytes = drop p file

  abbrev bank_of : Env
  bank_of = bank_env s.declared s.immediates inputs constants

  one_same : (i : ℕ) → nth_source bank_of r bytes i ≡ nth_source (env_of s inputs constants) r bytes i
  unfolding nth_source
  one_same i = rw (kind_from_is file p, source_from file p (source_place kind i)) (by (ltb i (sources (form_of kind))) refl)
    where
      by : (t : Bool) → ltb i (sources (form_of kind)) ≡ t
          → cond t (source_of bank_of r (source_at file (p + source_place kind i))) zeros ≡ cond t (source_of (env_of s inputs constants) r (source_at file (p + source_place kind i))) zeros
      by true e =
          let b : i < sources (form_of kind) = ltb-true _ _ e in
          source_same s.declared s.immediates inputs constants r (source_at file (p + source_place kind i)) (followed file s ok).1.inside
          (source_inside file s ok n h i b) (indirect_file file s ok n h i b)
      by false e = refl

  pub banked_alike : sources_of bank_of r bytes ≡ sources_of (env_of s inputs constants) r bytes
  unfolding sources_of
  banked_alike = rw (one_same 0, one_same 1, one_same 2, one_same 3)
