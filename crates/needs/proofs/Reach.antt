-- An accepted program has declared no IN and no CONST past its file: its inputs are at most 32 and its constants at most 1,024.
-- Assumes nothing.
use mathlib.Core.Path.{◌≡◌, refl, sym, ap, subst}
use mathlib.Core.Bool.{Bool, true, false, cond, not}
use mathlib.Core.List.{List}
use Prim.Native.Nat.{ℕ, zero, suc, ◌+◌, ◌<◌, ◌≤◌, max}
use native.Mathlib.Omega.{arith}
use lib.Dec.{eqb, leb, ltb}
use lib.ListN.{length, get_or}
use borrow.Author.Tests.{eqb-true, eqb-false, not-false}
use Rattle.format.specs.Files.{CONST, IN, registers_of}
use Rattle.format.specs.Fields.{declaration_at}
use Rattle.format.specs.Records.{longest, size_at}
use Rattle.format.specs.Refusals.{too_long, late_declaration, field_rule_broken, overlapping, too_many, byte_after_end, no_end}
use Rattle.format.specs.declared.fields.Declaration.{Declaration}
use Rattle.registers.specs.Rules.{declaration_rule}
use Rattle.registers.specs.Found.{overlaps}
use Rattle.registers.proofs.Files.{rule_last}
use Rattle.checker.specs.Findings.{Seen, nothing, Finding, taken, due, reach, with_declaration, declaration_finding, with_immediate, immediate_finding, with_instruction, record_finding}
use Rattle.checker.specs.Check.{Outcome, accepted, refused, onward, walk, check_of}
use Rattle.checker.proofs.Walking.{past_due, taken_declaration, taken_immediate, taken_instruction, passed}
use Rattle.admission.proofs.Admitting.{not_accepted}

pub record Few (s : Seen) : Type 0 where
  pub inputs : s.inputs ≤ registers_of IN
  pub constants : s.constants ≤ registers_of CONST

-- ---- One record

reach_inside : (f : ℕ) (d : Declaration) (before : ℕ) → declaration_rule d ≡ true → before ≤ registers_of f → reach f d before ≤ registers_of f
reach_inside f d before rule h = by (eqb d.file f) refl
  where
    by : (t : Bool) → eqb d.file f ≡ t → cond t (max before (d.last + 1)) before ≤ registers_of f
    by true e =
        let last : d.last < registers_of d.file = rule_last d true (sym rule) refl in
        let same : registers_of d.file ≡ registers_of f = ap registers_of (eqb-true d.file f e) in
        omega arith
    by false e = h

same_taken : (s u : Seen) → taken s ≡ taken u → s ≡ u
same_taken s u e = cc

module _ (s : Seen) (file : List ℕ) (at : ℕ) (u : Seen) (few : Few s) where
  after_declaration : declaration_finding s file at ≡ taken u → Few u
  unfolding declaration_finding with_declaration
  after_declaration e =
      let d = declaration_at file (at + 1) in
      let a = past_due (ltb 0 s.instructions) late_declaration _ u e in
      let b = past_due (not (declaration_rule d)) field_rule_broken _ u a.1 in
      let c = past_due (overlaps s.declared d) overlapping _ u b.1 in
      let rule : declaration_rule d ≡ true = not-false _ b.0 in
      subst (λ (v : Seen). Few v) (same_taken _ u c.1)
      (record {
        inputs = reach_inside IN d s.inputs rule few.inputs;
        constants = reach_inside CONST d s.constants rule few.constants;
      })

  after_immediate : immediate_finding s file at ≡ taken u → Few u
  unfolding immediate_finding with_immediate
  after_immediate e =
      let a = past_due (ltb 0 s.instructions) late_declaration _ u e in
      let b = past_due (leb 1024 (length s.immediates)) too_many _ u a.1 in
      subst (λ (v : Seen). Few v) (same_taken _ u b.1) (record { inputs = few.inputs; constants = few.constants })

  after_record : record_finding s file at ≡ taken u → Few u
  unfolding with_instruction
  after_record found = by (eqb (get_or file at 0) 1) refl (eqb (get_or file at 0) 2) refl
    where
      by : (a : Bool) → eqb (get_or file at 0) 1 ≡ a → (b : Bool) → eqb (get_or file at 0) 2 ≡ b → Few u
      by true e b q = after_declaration (taken_declaration s file at u found (eqb-true (get_or file at 0) 1 e))
      by false e true q = after_immediate (taken_immediate s file at u found (eqb-true (get_or file at 0) 2 q))
      by false e false q =
          let p = passed s file at u (taken_instruction s file at u found (eqb-false (get_or file at 0) 1 e) (eqb-false (get_or file at 0) 2 q)) in
          subst (λ (v : Seen). Few v) (sym p.after) (record { inputs = few.inputs; constants = few.constants })

-- ---- All of them

module _ (file : List ℕ) (f : Seen) where
  -- At END the walk has come to its program; else the rest of it does.
  onward_few : (at : ℕ) (u : Seen) (rest : Outcome) → Few u → (rest ≡ accepted f → Few f) → (a b : Bool)
      → cond a (cond b (refused byte_after_end (at + 1)) (accepted u)) rest ≡ accepted f → Few f
  onward_few at u rest few later true true r = not_accepted r
  onward_few at u rest few later true false r = let q : u ≡ f = cc in subst (λ (v : Seen). Few v) q few
  onward_few at u rest few later false b r = later r

  turn_few : (k at : ℕ) (s : Seen) → Few s → ((u : Seen) → Few u → walk k file (at + size_at file at) u ≡ accepted f → Few f)
      → (g : Finding) → record_finding s file at ≡ g → onward g file at (λ u. walk k file (at + size_at file at) u) ≡ accepted f → Few f
  turn_few k at s few later (due number) q r = not_accepted r
  turn_few k at s few later (taken u) q r =
      let after = after_record s file at u few q in
      onward_few at u (walk k file (at + size_at file at) u) after (λ t. later u after t) (eqb (get_or file at 0) 0x89) (ltb (at + 1) (length file)) r

  inside_few : (b : Bool) (o : Outcome) → (o ≡ accepted f → Few f) → cond b o (refused no_end (length file)) ≡ accepted f → Few f
  inside_few true o h r = h r
  inside_few false o h r = not_accepted r

  walk_few : (k at : ℕ) (s : Seen) → Few s → walk k file at s ≡ accepted f → Few f
  unfolding walk
  walk_few zero at s few e = not_accepted e
  walk_few (suc k) at s few e =
      inside_few (ltb at (length file)) _
      (λ r. turn_few k at s few (λ u h t. walk_few k (at + size_at file at) u h t) (record_finding s file at) refl r) e

  pub accepted_few : check_of file ≡ accepted f → Few f
  unfolding check_of
  accepted_few e = by (ltb longest (length file)) e
    where
      by : (t : Bool) → cond t (refused too_long 0) (walk (length file) file 0 nothing) ≡ accepted f → Few f
      by true r = not_accepted r
      by false r = walk_few (length file) 0 nothing (record { inputs = omega arith; constants = omega arith }) r
