-- What is admitted is what the check accepts where nothing is due for what is lent; and what an admitted program says of its sizes.
-- Assumes nothing.
use mathlib.Core.Path.{◌≡◌, refl, sym, ◌∙◌}
use mathlib.Core.Bool.{Bool, true, false, cond}
use mathlib.Core.List.{List, []}
use Prim.Native.Nat.{ℕ, ◌*◌, ◌≤◌}
use native.Mathlib.Omega.{arith}
use borrow.Author.Tests.{eqb-true, ltb-false}
use lib.Dec.{eqb, ltb}
use Rattle.format.specs.Files.{lent_registers}
use Rattle.std.specs.Prelude.{Ok, Err}
use Rattle.format.specs.Refusals.{inputs_short, constants_short, registers_short, working_short, memory_long, number_of}
use Rattle.format.specs.declared.refusals.Refusal.{Refusal}
use Rattle.format.specs.declared.refusals.Refused.{Refused}
use Rattle.format.proofs.Numbered.{numbered}
use Rattle.blocks.specs.Table.{row_words}
use Rattle.checker.specs.declared.program.Program.{Program}
use Rattle.checker.specs.Check.{Outcome, accepted, refused, check_of, program_seen, examined_as, examined}
use Rattle.checker.specs.Findings.{Seen}
use Rattle.checker.proofs.Examining.{outcome_is}
use Rattle.admission.specs.declared.Sizes.{Sizes}
use Rattle.admission.specs.Admission.{work_short, lent_refusal, admitted, admission_of}

-- ---- What the function answers

-- The check of the file over words of its own, `none` before it; `before` is what was lent.
module _ (file words none before : List ℕ) (lent : Sizes) where
  pub check_refuses : (e : Refused ℕ) → examined_as (Err e) words ≡ examined (check_of file) none → examined_as (Err e) before ≡ examined (admission_of file lent) before
  unfolding admission_of
  check_refuses e said = rw (← outcome_is (Err e) words none (check_of file) said)

  module _ (p : Program) (said : examined_as (Ok p) words ≡ examined (check_of file) none) where
    is_accepted : check_of file ≡ accepted (program_seen p words [])
    is_accepted = sym (outcome_is (Ok p) words none (check_of file) said)

    pub lent_refuses : (refusal : Refusal) → number_of refusal ≡ lent_refusal (program_seen p [] []) lent
        → examined_as (Err (record { refusal = refusal; place = 0 })) before ≡ examined (admission_of file lent) before
    unfolding admission_of lent_refusal
    lent_refuses refusal due = rw (is_accepted, ← due, numbered refusal)

    pub admits : 0 ≡ lent_refusal (program_seen p [] []) lent → examined_as (Ok p) words ≡ examined (admission_of file lent) before
    unfolding admission_of lent_refusal
    admits none_due = said ∙ rw (is_accepted, ← none_due)

-- ---- What an admitted program says

pub not_accepted : {A : Type 0} {n p : ℕ} {s : Seen} → refused n p ≡ accepted s → A
not_accepted e = let z : ◌≡◌ {A = ℕ} 0 1 = cc in absurd (omega arith)

pub record Admitted (s : Seen) (file : List ℕ) (lent : Sizes) : Type 0 where
  pub follows : check_of file ≡ accepted s
  pub none_due : lent_refusal s lent ≡ 0

-- The check accepts it, and nothing is due.
pub admitted_is : (file : List ℕ) (lent : Sizes) (s : Seen) → admission_of file lent ≡ accepted s → Admitted s file lent
unfolding admission_of
admitted_is file lent s e = by (check_of file) refl e
  where
    same : (t : Seen) → check_of file ≡ accepted t → (b : Bool) → eqb (lent_refusal t lent) 0 ≡ b → cond b (accepted t) (refused (lent_refusal t lent) 0) ≡ accepted s → Admitted s file lent
    same t q true z r =
        let u : t ≡ s = cc in
        rw (← u) (record { follows = q; none_due = eqb-true (lent_refusal t lent) 0 z })
    same t q false z r = not_accepted r

    by : (o : Outcome) → check_of file ≡ o → admitted o lent ≡ accepted s → Admitted s file lent
    by (refused number place) q r = not_accepted r
    by (accepted t) q r = same t q (eqb (lent_refusal t lent) 0) refl r

passed : (t₀ t₁ t₂ t₃ t₄ : Bool)
    → ◌≡◌ {A = ℕ} (cond t₀ inputs_short (cond t₁ constants_short (cond t₂ registers_short (cond t₃ working_short (cond t₄ memory_long 0))))) 0
    → (t₂ ≡ false) × (t₃ ≡ false)
passed true t₁ t₂ t₃ t₄ e = absurd (omega arith)
passed false true t₂ t₃ t₄ e = absurd (omega arith)
passed false false true t₃ t₄ e = absurd (omega arith)
passed false false false true t₄ e = absurd (omega arith)
passed false false false false t₄ e = (refl, refl)

-- Where no refusal is due, there are registers and working words enough.
pub lent_enough : (s : Seen) (lent : Sizes) → lent_refusal s lent ≡ 0 → (lent_registers ≤ lent.registers) × (row_words * s.instructions ≤ lent.work)
unfolding lent_refusal
lent_enough s lent e =
    let p =
    passed (ltb lent.inputs (4 * s.inputs)) (ltb lent.constants (4 * s.constants)) (ltb lent.registers lent_registers)
    (work_short s lent.work) (ltb 16384 lent.memory) e in
    (ltb-false _ _ p.0, ltb-false _ _ p.1)
