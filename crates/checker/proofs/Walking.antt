-- The walk over the records: what is left to check from a place on is the whole check, and each way out of a turn is one law.
-- Assumes nothing.
use mathlib.Core.Path.{◌≡◌, refl, sym, ap, ◌∙◌, subst}
use mathlib.Core.Bool.{Bool, true, false, cond, not}
use mathlib.Core.List.{List, [], ◌∷◌}
use Prim.Native.Nat.{ℕ, zero, suc, ◌+◌, ◌-◌, ◌<◌, ◌≤◌}
use native.Mathlib.Omega.{arith}
use lib.Dec.{eqb, leb, ltb, eqb-suc-zero}
use lib.ListN.{length, get_or}
use borrow.Author.Tests.{lt-ltb, le-ltb, leb-false, eq-eqb, ne_eqb, eqb-false, not-false}
use Rattle.std.specs.Prelude.{Result}
use Rattle.format.specs.declared.refusals.Refused.{Refused}
use Rattle.format.specs.Kinds.{length_of}
use Rattle.format.specs.Records.{longest, size_at}
use Rattle.format.specs.Fields.{case_word}
use Rattle.format.specs.Refusals.{too_long, byte_after_end, unknown_kind, body_cut, too_many, field_rule_broken, not_declared, nesting_broken, no_end}
use Rattle.records.proofs.Walk.{sized_whole}
use Rattle.blocks.specs.Control.{op_of}
use Rattle.blocks.specs.Nesting.{Open, Ruling, goes, rule}
use Rattle.blocks.specs.Nesting as nesting
use Rattle.registers.specs.Rules.{operand_rules}
use Rattle.registers.specs.Found.{operands_found}
use Rattle.checker.specs.Findings.{Seen, nothing, Finding, taken, due, nested, with_instruction, declaration_finding, immediate_finding, instruction_finding, record_finding}
use Rattle.checker.specs.Check.{accepted, refused, onward, walk, check_of, program_seen}
use Rattle.nesting.specs.Inner.Held.{blocks_of}
use Rattle.checker.specs.Inner.Held.{outcome, seen, ended}
use Rattle.checker.specs.declared.program.Program.{Program}
use Rattle.checker.specs.declared.walk.State.{State}

-- ---- A record that is taken

pub due_not_taken : {A : Type 0} {n : ℕ} {u : Seen} → due n ≡ taken u → A
due_not_taken e = let z : ◌≡◌ {A = ℕ} 0 1 = cc in absurd (omega arith)

-- A refusal that is not due lets the rest of the chain be taken.
pub past_due : (t : Bool) (n : ℕ) (f : Finding) (u : Seen) → cond t (due n) f ≡ taken u → (t ≡ false) × (f ≡ taken u)
past_due true n f u e = due_not_taken e
past_due false n f u e = (refl, e)

module _ (s : Seen) (file : List ℕ) (at : ℕ) (u : Seen) (found : record_finding s file at ≡ taken u) where
  sized_chain : (eqb (size_at file at) 0 ≡ false)
      × (cond (eqb (get_or file at 0) 0x01) (declaration_finding s file at) (cond (eqb (get_or file at 0) 0x02) (immediate_finding s file at) (instruction_finding s file at)) ≡ taken u)
  unfolding record_finding
  sized_chain = past_due (eqb (size_at file at) 0) body_cut _ u (past_due (eqb (length_of (get_or file at 0)) 255) unknown_kind _ u found).1

  pub taken_whole : size_at file at ≡ 0 → ⊥
  taken_whole = eqb-false (size_at file at) 0 sized_chain.0

  pub taken_declaration : get_or file at 0 ≡ 1 → declaration_finding s file at ≡ taken u
  taken_declaration e = rw (eq-eqb _ _ e) at sized_chain.1

  pub taken_immediate : get_or file at 0 ≡ 2 → immediate_finding s file at ≡ taken u
  taken_immediate e = rw e at sized_chain.1

  pub taken_instruction : (get_or file at 0 ≡ 1 → ⊥) → (get_or file at 0 ≡ 2 → ⊥) → instruction_finding s file at ≡ taken u
  taken_instruction n1 n2 = rw (ne_eqb _ _ n1, ne_eqb _ _ n2) at sized_chain.1

-- An instruction that is taken: there were fewer than 1,024, its operands are as the field rules ask, what they name has been
-- seen, and the rule of the blocks lets it pass.
pub record Passed (s : Seen) (file : List ℕ) (at : ℕ) (u : Seen) : Type 0 where
  pub few : s.instructions < 1024
  pub allowed : operand_rules (get_or file at 0) file at ≡ true
  pub found : operands_found (get_or file at 0) s.declared (length s.immediates) file at ≡ true
  pub blocks : List Open
  pub rules : rule (op_of (get_or file at 0)) (case_word s.immediates file at) s.blocks ≡ goes blocks
  pub after : u ≡ with_instruction s blocks

passed_by : (s : Seen) (r : Ruling) (u : Seen) → nested s r ≡ taken u → (σ : List Open) × (r ≡ goes σ) × (u ≡ with_instruction s σ)
passed_by s (goes σ) u e = (σ, refl, cc)
passed_by s (nesting.refused n) u e = due_not_taken e

pub passed : (s : Seen) (file : List ℕ) (at : ℕ) (u : Seen) → instruction_finding s file at ≡ taken u → Passed s file at u
unfolding instruction_finding
passed s file at u e =
    let a = past_due (leb 1024 s.instructions) too_many _ u e in
    let b = past_due (not (operand_rules (get_or file at 0) file at)) field_rule_broken _ u a.1 in
    let c = past_due (not (operands_found (get_or file at 0) s.declared (length s.immediates) file at)) not_declared _ u b.1 in
    let d = passed_by s (rule (op_of (get_or file at 0)) (case_word s.immediates file at) s.blocks) u c.1 in
    record {
      few = leb-false 1024 s.instructions a.0;
      allowed = not-false _ b.0;
      found = not-false _ c.0;
      blocks = d.0;
      rules = d.1;
      after = d.2;
    }

end_rule : (x : ℕ) (σ τ : List Open) → rule (op_of 0x89) x σ ≡ goes τ → τ ≡ []
unfolding op_of
end_rule x [] τ e = cc
end_rule x (o ∷ σ) τ e =
    let f : nesting.refused nesting_broken ≡ goes τ = rw (eqb-suc-zero (length σ)) at e in
    let z : ◌≡◌ {A = ℕ} 0 1 = cc in
    absurd (omega arith)

-- After END no block is open.
pub end_closed : (s : Seen) (file : List ℕ) (at : ℕ) (u : Seen) → record_finding s file at ≡ taken u → get_or file at 0 ≡ 0x89 → u.blocks ≡ []
unfolding with_instruction
end_closed s file at u found e =
    let p : Passed s file at u = passed s file at u (taken_instruction s file at u found (λ q. omega arith) (λ q. omega arith)) in
    let r : rule (op_of 0x89) (case_word s.immediates file at) s.blocks ≡ goes p.blocks =
    subst (λ (k : ℕ). rule (op_of k) (case_word s.immediates file at) s.blocks ≡ goes p.blocks) e p.rules
    in
    ap (λ (v : Seen). v.blocks) p.after ∙ end_rule _ s.blocks p.blocks r

-- The record of an END has no body.
end_size : (file : List ℕ) (at : ℕ) → get_or file at 0 ≡ 0x89 → (size_at file at ≡ 0 → ⊥) → size_at file at ≡ 1
unfolding length_of
end_size file at e some = (sized_whole file at some).size ∙ ap (λ (k : ℕ). 1 + length_of k) e

-- ---- The walk

-- What is left from a place on is the whole check.
pub record Going (file : List ℕ) (at : ℕ) (s : Seen) : Type 0 where
  pub left : ℕ
  pub enough : length file ≤ at + left
  pub whole : walk left file at s ≡ check_of file

pub check_long : (file : List ℕ) → longest < length file → refused too_long 0 ≡ check_of file
unfolding check_of
check_long file h = rw (lt-ltb longest (length file) h)

pub check_start : (file : List ℕ) (s : Seen) → s ≡ nothing → length file ≤ longest → Going file 0 s
unfolding check_of
check_start file s e h = record { left = length file; enough = omega arith; whole = rw (e, le-ltb longest (length file) h) }

module _ (file : List ℕ) (at : ℕ) (s : Seen) (going : Going file at s) where
  walk_past : (k : ℕ) → length file ≤ at → walk k file at s ≡ refused no_end (length file)
  unfolding walk
  walk_past zero h = refl
  walk_past (suc k) h = rw (le-ltb at (length file) h)

  pub walk_end : length file ≤ at → refused no_end (length file) ≡ check_of file
  walk_end h = sym (walk_past going.left h) ∙ going.whole

  module _ (h : at < length file) where
    by_turn : onward (record_finding s file at) file at (λ u. walk (going.left - 1) file (at + size_at file at) u) ≡ check_of file
    unfolding walk
    by_turn =
        let l = going.enough in
        let t : going.left ≡ suc (going.left - 1) = omega arith in
        sym (ap (λ (n : ℕ). walk n file at s) t ∙ rw (lt-ltb at (length file) h)) ∙ going.whole

    pub walk_refused : (n : ℕ) → due n ≡ record_finding s file at → refused n at ≡ check_of file
    walk_refused n e = rw (← e) at by_turn

    -- The record is taken.
    module _ (t : State) (words values : List ℕ) (found : taken (seen t words values) ≡ record_finding s file at) (kind size : ℕ)
        (here : kind ≡ get_or file at 0) (sized : size ≡ size_at file at)
      where
        some_size : size ≡ 0 → ⊥
        some_size z = taken_whole s file at (seen t words values) (sym found) (sym sized ∙ z)

        taken_turn : cond (eqb kind 0x89) (cond (ltb (at + 1) (length file)) (refused byte_after_end (at + 1)) (accepted (seen t words values))) (walk (going.left - 1) file (at + size) (seen t words values)) ≡ check_of file
        taken_turn = rw (← found, ← here, ← sized) at by_turn

        module _ (other : kind ≡ 0x89 → ⊥) where
          pub walk_goes : Going file (at + size) (seen t words values)
          walk_goes =
              let l = going.enough in
              let z = some_size in
              record { left = going.left - 1; enough = omega arith; whole = rw (ne_eqb kind 0x89 other) at taken_turn }

          -- Less of the file is left.
          pub walk_less : length file - (at + size) < length file - at
          walk_less = let z = some_size in omega arith

        module _ (end : kind ≡ 0x89) where
          -- A byte after END is the next one.
          one : size ≡ 1
          one = sized ∙ end_size file at (sym here ∙ end) (taken_whole s file at (seen t words values) (sym found))

          -- At END no block is open.
          pub walk_ended : (r : Result Program (Refused ℕ)) → outcome r words ≡ ended (at + size) (length file) (program_seen t.program words []) → outcome r words ≡ check_of file
          unfolding ended seen
          walk_ended r e =
              let closed : blocks_of t.blocks values ≡ [] = end_closed s file at (seen t words values) (sym found) (sym here ∙ end) in
              e ∙ rw (one, ← closed) (rw end at taken_turn)
