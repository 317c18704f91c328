-- What is needed is what a run asks for: as much as that is refused with none of 20, 21 and 23, and less is refused. Stated of the
-- definition by which a run is refused, for every file that is a program and all that can be lent.
-- Assumes nothing.
use mathlib.Core.Path.{◌≡◌, refl, ap, ◌∙◌}
use mathlib.Core.Bool.{Bool, true, false, cond, not, ◌&&◌}
use mathlib.Core.List.{List}
use Prim.Native.Nat.{ℕ, ◌*◌, ◌<◌, ◌≤◌}
use native.Mathlib.Omega.{arith}
use borrow.Author.Tests.{lt-ltb, le-ltb}
use lib.Dec.{eqb, ltb}
use Rattle.format.specs.Files.{lent_registers}
use Rattle.format.specs.Refusals.{inputs_short, constants_short, registers_short, working_short, memory_long}
use Rattle.checker.specs.Findings.{Seen}
use Rattle.checker.specs.Check.{Outcome, accepted, refused, check_of}
use Rattle.admission.specs.declared.Sizes.{Sizes}
use Rattle.admission.specs.Admission.{work_short, lent_refusal, admission_of}
use Rattle.needs.specs.Needs.{needed, needs_in, needs_of}

-- Whether an outcome is the refusal of this number, at whatever place.
abbrev pub refused_with : ℕ → Outcome → Bool
refused_with n (accepted s) = false
refused_with n (refused number place) = eqb number n

-- ---- A file that is a program

-- What the check has seen of it, and that this is what it needs.
record Accepted (file : List ℕ) : Type 0 where
  seen : Seen
  follows : check_of file ≡ accepted seen
  are : needs_of file ≡ needed seen

is_accepted : (file : List ℕ) → (needs_of file).status ≡ 0 → Accepted file
unfolding needs_of needed
is_accepted file e = by (check_of file) refl e
  where
    by : (o : Outcome) → check_of file ≡ o → (needs_in o).status ≡ 0 → Accepted file
    by (accepted s) q r = record { seen = s; follows = q; are = ap needs_in q }
    by (refused number place) q r = absurd (omega arith)

-- ---- The tests in their order

abbrev due : Bool → Bool → Bool → Bool → Bool → ℕ
due inputs constants registers work memory =
    cond inputs inputs_short (cond constants constants_short (cond registers registers_short (cond work working_short (cond memory memory_long 0))))

module _ (s : Seen) where
  abbrev told : ℕ → Outcome
  told number = cond (eqb number 0) (accepted s) (refused number 0)

  first_test : (t₀ t₁ t₂ t₃ t₄ : Bool) → refused_with inputs_short (told (due t₀ t₁ t₂ t₃ t₄)) ≡ t₀
  first_test true t₁ t₂ t₃ t₄ = refl
  first_test false true t₂ t₃ t₄ = refl
  first_test false false true t₃ t₄ = refl
  first_test false false false true t₄ = refl
  first_test false false false false true = refl
  first_test false false false false false = refl

  second_test : (t₀ t₁ t₂ t₃ t₄ : Bool) → refused_with constants_short (told (due t₀ t₁ t₂ t₃ t₄)) ≡ (not t₀ && t₁)
  second_test true t₁ t₂ t₃ t₄ = refl
  second_test false true t₂ t₃ t₄ = refl
  second_test false false true t₃ t₄ = refl
  second_test false false false true t₄ = refl
  second_test false false false false true = refl
  second_test false false false false false = refl

  fourth_test : (t₀ t₁ t₂ t₃ t₄ : Bool) → refused_with working_short (told (due t₀ t₁ t₂ t₃ t₄)) ≡ (not t₀ && (not t₁ && (not t₂ && t₃)))
  fourth_test true t₁ t₂ t₃ t₄ = refl
  fourth_test false true t₂ t₃ t₄ = refl
  fourth_test false false true t₃ t₄ = refl
  fourth_test false false false true t₄ = refl
  fourth_test false false false false true = refl
  fourth_test false false false false false = refl

and_false : (t : Bool) → (t && false) ≡ false
and_false true = refl
and_false false = refl

-- ---- The law

module _ (file : List ℕ) (lent : Sizes) (program : (needs_of file).status ≡ 0) where
  here : Accepted file
  here = is_accepted file program

  abbrev s : Seen
  s = here.seen

  -- Which words are too few, by what is needed.
  abbrev inputs_few : Bool
  inputs_few = ltb lent.inputs (needs_of file).inputs

  abbrev constants_few : Bool
  constants_few = ltb lent.constants (needs_of file).constants

  abbrev registers_few : Bool
  registers_few = ltb lent.registers lent_registers

  abbrev work_few : Bool
  work_few = ltb lent.work (needs_of file).work

  -- 20, 21 and 23 are given exactly where there is less than needed, and nothing that is asked before is lacking.
  pub inputs_refused : refused_with inputs_short (admission_of file lent) ≡ inputs_few
  unfolding admission_of lent_refusal needed
  inputs_refused =
      rw (here.follows, here.are)
      (first_test s (ltb lent.inputs (4 * s.inputs)) (ltb lent.constants (4 * s.constants)) registers_few (work_short s lent.work) (ltb 16384 lent.memory))

  pub constants_refused : refused_with constants_short (admission_of file lent) ≡ (not inputs_few && constants_few)
  unfolding admission_of lent_refusal needed
  constants_refused =
      rw (here.follows, here.are)
      (second_test s (ltb lent.inputs (4 * s.inputs)) (ltb lent.constants (4 * s.constants)) registers_few (work_short s lent.work) (ltb 16384 lent.memory))

  pub work_refused : refused_with working_short (admission_of file lent) ≡ (not inputs_few && (not constants_few && (not registers_few && work_few)))
  unfolding admission_of lent_refusal needed
  work_refused =
      rw (here.follows, here.are)
      (fourth_test s (ltb lent.inputs (4 * s.inputs)) (ltb lent.constants (4 * s.constants)) registers_few (work_short s lent.work) (ltb 16384 lent.memory))

  -- As much as is needed, or more.
  pub enough : (needs_of file).inputs ≤ lent.inputs → (needs_of file).constants ≤ lent.constants → (needs_of file).work ≤ lent.work
      → (refused_with inputs_short (admission_of file lent) ≡ false)
      × (refused_with constants_short (admission_of file lent) ≡ false)
      × (refused_with working_short (admission_of file lent) ≡ false)
  enough i c w =
      let inputs : inputs_few ≡ false = le-ltb lent.inputs (needs_of file).inputs i in
      let constants : constants_few ≡ false = le-ltb lent.constants (needs_of file).constants c in
      let work : work_few ≡ false = le-ltb lent.work (needs_of file).work w in
      (inputs_refused ∙ inputs, constants_refused ∙ rw (inputs, constants), work_refused ∙ rw (inputs, constants, work) (and_false (not registers_few)))

  -- Less than is needed, by one word or more; what is asked before suffices.
  pub less_inputs : lent.inputs < (needs_of file).inputs → refused_with inputs_short (admission_of file lent) ≡ true
  less_inputs h = inputs_refused ∙ lt-ltb lent.inputs (needs_of file).inputs h

  pub less_constants : (needs_of file).inputs ≤ lent.inputs → lent.constants < (needs_of file).constants
      → refused_with constants_short (admission_of file lent) ≡ true
  less_constants i h =
      constants_refused
      ∙ rw (le-ltb lent.inputs (needs_of file).inputs i, lt-ltb lent.constants (needs_of file).constants h)

  pub less_work : (needs_of file).inputs ≤ lent.inputs → (needs_of file).constants ≤ lent.constants → lent_registers ≤ lent.registers
      → lent.work < (needs_of file).work → refused_with working_short (admission_of file lent) ≡ true
  less_work i c r h =
      work_refused
      ∙ rw (
        le-ltb lent.inputs (needs_of file).inputs i,
        le-ltb lent.constants (needs_of file).constants c,
        le-ltb lent.registers lent_registers r,
        lt-ltb lent.work (needs_of file).work h,
      )
