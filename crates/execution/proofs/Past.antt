-- The words past the registers stay: a result goes to the words of its destination, which an accepted program has declared, and these
-- lie below word 1,156; and a reading keeps what the effect of each instruction keeps.
-- Assumes nothing.
use mathlib.Core.Path.{◌≡◌, refl, ap, ◌∙◌, subst}
use mathlib.Core.Bool.{Bool, true, false, cond, ◌&&◌}
use mathlib.Core.List.{List, []}
use Prim.Native.Nat.{ℕ, ◌+◌, ◌-◌, ◌*◌, ◌<◌, ◌≤◌}
use native.Mathlib.Omega.{arith}
use borrow.Author.Tests.{eqb-true, eqb-false, leb-true}
use lib.Dec.{T, eqb, eqb→eq, leb}
use lib.ListN.{length, get_or, drop}
use lib.Seq.{drop-set-lt, get_or-drop}
use Rattle.words.specs.Word.{bit}
use Rattle.format.specs.Fields.{word16, destination_at}
use Rattle.format.specs.Files.{OUT, TEMP, temp_from, addr_from, lent_registers, registers_of}
use Rattle.format.specs.Kinds.{destinations, form_of, within}
use Rattle.format.specs.declared.fields.Destination.{Destination}
use Rattle.format.proofs.Ranges.{every, in_range}
use Rattle.blocks.proofs.Inside.{Stays, reading_stays}
use Rattle.table.specs.Prepared.{op_from}
use Rattle.registers.proofs.Named.{destination_inside}
use Rattle.checker.specs.Check.{accepted, check_of}
use Rattle.checker.specs.Findings.{Seen}
use Rattle.checker.proofs.Followed.{Followed, followed}
use Rattle.results.specs.Arithmetic.{wide_unary_of, wide_of}
use Rattle.destinations.specs.Destinations.{State, components, first_word, if_masked, masked, placed}
use Rattle.effects.specs.Effect.{Family, WORDS, WIDE-UNARY, LOAD, WIDE, STORE, ATOMIC, ATOMCAS, NONE, family_of, effect_of, x_of}
use Rattle.memory.specs.Memory.{loaded, loaded_from}
use Rattle.componentwise.specs.Components.{result_words}
use Rattle.sources.specs.Operands.{kind_byte, sources_of}
use Rattle.machine.specs.Step.{record_effect}
use Rattle.execution.specs.Program.{place_of, env_of, program_of, carried_out}
use Rattle.execution.proofs.Alike.{kind_from_is}

-- ---- A result that is written

-- The words of a register lie below word 1,156.
first_below : (d : Destination) → d.index < registers_of d.file → first_word d + 4 ≤ lent_registers
unfolding first_word
first_below d h = by (eqb d.file OUT) refl (eqb d.file TEMP) refl
  where
    by : (t : Bool) → eqb d.file OUT ≡ t → (u : Bool) → eqb d.file TEMP ≡ u → cond t (4 * d.index) (cond u (temp_from + 4 * d.index) addr_from) + 4 ≤ lent_registers
    by true e u q =
        let below : d.index < 32 = subst (λ (f : ℕ). d.index < registers_of f) (eqb-true d.file OUT e) h in
        omega arith
    by false e true q =
        let below : d.index < 256 = subst (λ (f : ℕ). d.index < registers_of f) (eqb-true d.file TEMP q) h in
        omega arith
    by false e false q = omega arith

masked_past : (mask i : ℕ) (put : ℕ → List ℕ → List ℕ) (l : List ℕ) → drop lent_registers (put i l) ≡ drop lent_registers l → drop lent_registers (if_masked mask i put l) ≡ drop lent_registers l
unfolding if_masked
masked_past mask i put l h = by (eqb (bit mask i) 1)
  where
    by : (t : Bool) → drop lent_registers (cond t (put i l) l) ≡ drop lent_registers l
    by true = h
    by false = refl

written_past : (r : List ℕ) (first mask : ℕ) (v : List ℕ) → first + 4 ≤ lent_registers → drop lent_registers (masked mask (placed first v) r) ≡ drop lent_registers r
unfolding masked
written_past r first mask v h = one 3 _ (omega arith) ∙ one 2 _ (omega arith) ∙ one 1 _ (omega arith) ∙ one 0 r (omega arith)
  where
    one : (i : ℕ) (l : List ℕ) → i < 4 → drop lent_registers (if_masked mask i (placed first v) l) ≡ drop lent_registers l
    one i l b = masked_past mask i (placed first v) l (drop-set-lt lent_registers l (first + i) (get_or v i 0) (omega arith))

-- ---- The effect of an instruction

effect_past : (f : Family) (k : ℕ) (d : Destination) (o : List (List ℕ)) (s : State)
    → first_word d + 4 ≤ lent_registers
    → drop lent_registers (effect_of f k d o s).registers ≡ drop lent_registers s.registers
effect_past WORDS k d o s h = written_past s.registers (first_word d) d.mask (result_words k o) h
effect_past WIDE-UNARY k d o s h = written_past s.registers (first_word d) d.mask (wide_unary_of k (get_or o 0 [])) h
effect_past LOAD k d o s h = written_past s.registers (first_word d) d.mask (loaded_from s.memory (x_of o 0)) h
effect_past WIDE k d o s h = written_past s.registers (first_word d) d.mask (wide_of k (get_or o 0 []) (get_or o 1 [])) h
effect_past ATOMIC k d o s h = written_past s.registers (first_word d) d.mask (components (λ i. loaded s.memory (x_of o 0))) h
effect_past ATOMCAS k d o s h = written_past s.registers (first_word d) d.mask (components (λ i. loaded s.memory (x_of o 0))) h
effect_past STORE k d o s h = refl
effect_past NONE k d o s h = refl

both : (a b : Bool) → (a && b) ≡ true → (a ≡ true) × (b ≡ true)
both true b e = (refl, e)
both false b e = let z : ◌≡◌ {A = ℕ} 0 1 = cc in absurd (omega arith)

-- Kinds that have an effect have a destination.
module _ (k : ℕ) (none : destinations (form_of k) ≡ 0) where
  not_in : (lo hi : ℕ) → T (every (λ k. eqb (destinations (form_of k)) 1) lo (hi + 1 - lo)) → (t : Bool) → within lo hi k ≡ t → t ≡ false
  not_in lo hi all true e = absurd (omega (arith, eqb→eq (destinations (form_of k)) 1 there))
    where
      there : T (eqb (destinations (form_of k)) 1)
      there =
          in_range (λ k. eqb (destinations (form_of k)) 1) lo (hi + 1) k all (leb-true lo k (both (leb lo k) (leb k hi) e).0)
          (omega (arith, leb-true k hi (both (leb lo k) (leb k hi) e).1))
  not_in lo hi all false e = refl

  not_at : (q : ℕ) → destinations (form_of q) ≡ 1 → (t : Bool) → eqb k q ≡ t → t ≡ false
  not_at q one true e = absurd (omega (arith, ap (λ (m : ℕ). destinations (form_of m)) (eqb-true k q e)))
  not_at q one false e = refl

  no_effect : family_of k ≡ NONE
  unfolding family_of
  no_effect =
      rw (
        not_in 0x10 0x1A tt (within 0x10 0x1A k) refl,
        not_in 0x1B 0x1D tt (within 0x1B 0x1D k) refl,
        not_at 0x1E refl (eqb k 0x1E) refl,
        not_in 0x20 0x37 tt (within 0x20 0x37 k) refl,
        not_in 0x40 0x52 tt (within 0x40 0x52 k) refl,
        not_at 0x58 refl (eqb k 0x58) refl,
        not_in 0x56 0x5F tt (within 0x56 0x5F k) refl,
        not_in 0x60 0x63 tt (within 0x60 0x63 k) refl,
        not_at 0x64 refl (eqb k 0x64) refl,
        not_at 0x70 refl (eqb k 0x70) refl,
      )

-- ---- An accepted program

destination_from : (file : List ℕ) (p : ℕ) → destination_at (drop p file) 1 ≡ destination_at file (p + 1)
unfolding destination_at word16
destination_from file p =
    let two : p + 1 + 1 ≡ p + 2 = omega arith in
    let three : p + 2 + 1 ≡ p + 3 = omega arith in
    let four : p + 1 + 3 ≡ p + 4 = omega arith in
    rw (two, three, four, get_or-drop p file 1 0, get_or-drop p file 2 0, get_or-drop p file 3 0, get_or-drop p file 4 0)

module _ (file : List ℕ) (s : Seen) (ok : check_of file ≡ accepted s) (inputs constants : List ℕ) where
  holds : Followed file s
  holds = (followed file s ok).1

  module _ (n : ℕ) (h : n < s.instructions) (st : State) where
    abbrev p : ℕ
    p = place_of s file n

    abbrev kind : ℕ
    kind = get_or file p 0

    abbrev bytes : List ℕ
    bytes = drop p file

    abbrev operands : List (List ℕ)
    operands = sources_of (env_of s inputs constants) st.registers bytes

    by_destination : (t : Bool) → eqb (destinations (form_of kind)) 0 ≡ t
        → drop lent_registers (effect_of (family_of (kind_byte bytes)) (kind_byte bytes) (destination_at bytes 1) operands st).registers ≡ drop lent_registers st.registers
    by_destination true e = rw (kind_from_is file p, no_effect kind (eqb-true _ _ e))
    by_destination false e =
        let inside = destination_inside kind file p s.declared (length s.immediates) (holds.operands n h).found holds.inside (eqb-false _ _ e) in
        effect_past (family_of (kind_byte bytes)) (kind_byte bytes) (destination_at bytes 1) operands st
        (rw (destination_from file p) (first_below (destination_at file (p + 1)) inside))

    effect_keeps : (d : List ℕ) → drop lent_registers st.registers ≡ d → drop lent_registers ((program_of s file inputs constants).effect n st).registers ≡ d
    unfolding record_effect
    effect_keeps d same = by_destination (eqb (destinations (form_of kind)) 0) refl ∙ same

  -- After any number of steps the words past the registers are those before.
  pub reading_past : (budget : ℕ) (from : State)
      → Stays s.instructions (λ (t : State). drop lent_registers t.registers ≡ drop lent_registers from.registers) (carried_out s file inputs constants budget from)
  unfolding carried_out
  reading_past budget from =
      reading_stays s.instructions (λ (t : State). drop lent_registers t.registers ≡ drop lent_registers from.registers) (program_of s file inputs constants) budget
      (λ n t h same. effect_keeps n h t (drop lent_registers from.registers) same) (op_from file s.start) from refl
