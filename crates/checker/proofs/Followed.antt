-- What holds of an accepted program: its instructions, from where they begin on, are whole records that are well nested, and
-- there are at most 1,024 of them; their operands are as the field rules ask and name what is declared or given, and all that is
-- declared lies within its file. What has been seen declared at an instruction is what is declared at the end: a declaration after
-- an instruction is refused.
-- Assumes nothing.
use mathlib.Core.Path.{◌≡◌, refl, sym, ap, ◌∙◌, subst}
use mathlib.Core.Bool.{Bool, true, false, cond, not}
use mathlib.Core.Logic.{⊎_elim}
use mathlib.Core.List.{List, []}
use Prim.Native.Nat.{ℕ, zero, suc, ◌+◌, ◌-◌, ◌*◌, ◌<◌, ◌≤◌}
use native.Mathlib.Omega.{arith}
use native.Mathlib.Numerals.{add-one}
use native.Mathlib.Nat.{eq-or-lt_of_le}
use lib.Dec.{eqb, leb, ltb}
use lib.ListN.{length, get_or, length-append}
use borrow.Author.Tests.{lt-ltb, ltb-true, ltb-false, leb-false, eqb-true, eqb-false, not-false}
use Rattle.format.specs.Records.{longest, size_at, place_from}
use Rattle.format.specs.Fields.{declaration_at, case_word}
use Rattle.records.proofs.Walk.{place_step}
use Rattle.format.specs.Refusals.{too_long, byte_after_end, late_declaration, too_many, field_rule_broken, overlapping, no_end}
use Rattle.blocks.specs.Control.{Op, END, is, op_of}
use Rattle.blocks.specs.Nesting.{accepts}
use Rattle.blocks.proofs.Ops.{kind_is}
use Rattle.registers.specs.Sets.{Registers}
use Rattle.registers.specs.Rules.{operand_rules, declaration_rule}
use Rattle.registers.specs.Found.{overlaps, operands_found}
use Rattle.registers.proofs.Named.{Inside, none_inside, more_inside}
use Rattle.checker.specs.Findings.{Seen, nothing, Finding, taken, due, immediate_at, with_declaration, declaration_finding, with_immediate, immediate_finding, with_instruction, record_finding}
use Rattle.checker.specs.Check.{accepted, refused, onward, walk, check_of}
use Rattle.checker.proofs.Walking.{due_not_taken, past_due, taken_whole, taken_declaration, taken_immediate, taken_instruction, Passed, passed}

pub not_accepted : {A : Type 0} {n p : ℕ} {s : Seen} → refused n p ≡ accepted s → A
not_accepted e = let z : ◌≡◌ {A = ℕ} 0 1 = cc in absurd (omega arith)

same_accepted : (s u : Seen) → accepted s ≡ accepted u → u ≡ s
same_accepted s u e = cc

same_taken : (s u : Seen) → taken s ≡ taken u → s ≡ u
same_taken s u e = cc

is_end : (k : ℕ) → eqb k 0x89 ≡ is END (op_of k)
is_end k = kind_is END k refl

-- A record of an instruction at a place.
pub record Instruction (file : List ℕ) (p : ℕ) : Type 0 where
  pub whole : size_at file p ≡ 0 → ⊥
  pub not_declaration : get_or file p 0 ≡ 1 → ⊥
  pub not_immediate : get_or file p 0 ≡ 2 → ⊥

-- The operands of the instruction at a place keep the field rules, and name what is declared or one of the immediates.
pub record Operands (file : List ℕ) (declared : Registers) (immediates : List ℕ) (p : ℕ) : Type 0 where
  pub allowed : operand_rules (get_or file p 0) file p ≡ true
  pub found : operands_found (get_or file p 0) declared (length immediates) file p ≡ true

-- Words of at most 256 immediates, four each.
record Fours (words : List ℕ) : Type 0 where
  many : ℕ
  most : many ≤ 256
  four : length words ≡ 4 * many

module _ (file : List ℕ) where
  -- Of instruction n, counted from a place on: which it is, and the word of a CASE.
  abbrev pub op_from : ℕ → ℕ → Op
  op_from start n = op_of (get_or file (place_from file start n) 0)

  abbrev pub word_from : ℕ → List ℕ → ℕ → ℕ
  word_from start immediates n = case_word immediates file (place_from file start n)

  -- From s, at an instruction, the walk comes to the accepted program f.
  record Body (s f : Seen) : Type 0 where
    start : f.start ≡ s.start
    declared : f.declared ≡ s.declared
    immediates : f.immediates ≡ s.immediates
    more : s.instructions < f.instructions
    most : f.instructions ≤ 1024
    nested : accepts (op_from s.start) (word_from s.start s.immediates) (f.instructions - s.instructions) s.instructions s.blocks ≡ true
    instruction : (n : ℕ) → s.instructions ≤ n → n < f.instructions → Instruction file (place_from file s.start n)
    operands : (n : ℕ) → s.instructions ≤ n → n < f.instructions → Operands file s.declared s.immediates (place_from file s.start n)

  -- ---- One record of an accepted program

  pub record Turned (k at : ℕ) (s f : Seen) : Type 0 where
    pub after : Seen
    pub inside : at < length file
    pub found : record_finding s file at ≡ taken after
    pub rest : onward (taken after) file at (λ u. walk k file (at + size_at file at) u) ≡ accepted f

  pub turned : (k at : ℕ) (s f : Seen) → walk (suc k) file at s ≡ accepted f → Turned k at s f
  unfolding walk
  turned k at s f e = by (ltb at (length file)) refl e where
    found_by : at < length file → (g : Finding) → record_finding s file at ≡ g → onward g file at (λ u. walk k file (at + size_at file at) u) ≡ accepted f → Turned k at s f
    found_by h (taken u) q r = record { after = u; inside = h; found = q; rest = r }
    found_by h (due n) q r = not_accepted r

    by : (b : Bool) → ltb at (length file) ≡ b → cond b (onward (record_finding s file at) file at (λ u. walk k file (at + size_at file at) u)) (refused no_end (length file)) ≡ accepted f → Turned k at s f
    by true h r = found_by (ltb-true at (length file) h) (record_finding s file at) refl r
    by false h r = not_accepted r

  -- ---- An instruction, and those after it

  module _ (k at : ℕ) (s f : Seen) (t : Turned k at s f) (place : at ≡ place_from file s.start s.instructions) (here : Instruction file at) where
    p : Passed s file at t.after
    p = passed s file at t.after (taken_instruction s file at t.after t.found here.not_declaration here.not_immediate)

    next : at + size_at file at ≡ place_from file s.start (s.instructions + 1)
    next = place_step file s.start s.instructions at (size_at file at) place refl here.whole

    after_place : at + size_at file at ≡ place_from file t.after.start t.after.instructions
    unfolding with_instruction
    after_place = rw p.after next

    after_some : 0 < t.after.instructions
    unfolding with_instruction
    after_some = rw p.after (omega arith)

    -- The rule lets it pass, and what follows is well nested in the blocks after it.
    nested_by : (m : ℕ) → cond (eqb (get_or file at 0) 0x89) (eqb m 0) (accepts (op_from s.start) (word_from s.start s.immediates) m (suc s.instructions) p.blocks) ≡ true
        → accepts (op_from s.start) (word_from s.start s.immediates) (suc m) s.instructions s.blocks ≡ true
    unfolding accepts
    nested_by m e = rw (← place, p.rules, ← is_end (get_or file at 0)) e

    body : (walk k file (at + size_at file at) t.after ≡ accepted f → Body t.after f) → Body s f
    unfolding with_instruction
    body rest = by (eqb (get_or file at 0) 0x89) refl where
      few : s.instructions < 1024
      few = p.few

      here_too : (n : ℕ) → s.instructions ≡ n → Instruction file (place_from file s.start n)
      here_too n e = subst (λ (q : ℕ). Instruction file q) (place ∙ ap (place_from file s.start) e) here

      found_too : (n : ℕ) → s.instructions ≡ n → Operands file s.declared s.immediates (place_from file s.start n)
      found_too n e =
          subst (λ (q : ℕ). Operands file s.declared s.immediates q) (place ∙ ap (place_from file s.start) e)
          (record { allowed = p.allowed; found = p.found })

      last : eqb (get_or file at 0) 0x89 ≡ true → f ≡ with_instruction s p.blocks
      last e = ends_by (ltb (at + 1) (length file)) (rw e at t.rest) ∙ p.after where
        ends_by : (b : Bool) → cond b (refused byte_after_end (at + 1)) (accepted t.after) ≡ accepted f → f ≡ t.after
        ends_by true r = not_accepted r
        ends_by false r = same_accepted t.after f r

      by : (b : Bool) → eqb (get_or file at 0) 0x89 ≡ b → Body s f
      by true e =
          let q : f.instructions ≡ s.instructions + 1 = ap (λ (u : Seen). u.instructions) (last e) in
          let one : f.instructions - s.instructions ≡ suc 0 = omega arith in
          record {
            start = ap (λ (u : Seen). u.start) (last e);
            declared = ap (λ (u : Seen). u.declared) (last e);
            immediates = ap (λ (u : Seen). u.immediates) (last e);
            more = omega arith;
            most = omega (arith, few);
            nested =
                subst (λ (m : ℕ). accepts (op_from s.start) (word_from s.start s.immediates) m s.instructions s.blocks ≡ true) (sym one)
                (nested_by 0 (rw e refl));
            instruction = λ n l h. here_too n (omega arith);
            operands = λ n l h. found_too n (omega arith);
          }
      by false e =
          let b : Body (with_instruction s p.blocks) f = subst (λ (u : Seen). Body u f) p.after (rest (rw e at t.rest)) in
          let m : s.instructions + 1 < f.instructions = b.more in
          let left : f.instructions - s.instructions ≡ suc (f.instructions - (s.instructions + 1)) = omega arith in
          record {
            start = b.start;
            declared = b.declared;
            immediates = b.immediates;
            more = omega arith;
            most = b.most;
            nested =
                subst (λ (m : ℕ). accepts (op_from s.start) (word_from s.start s.immediates) m s.instructions s.blocks ≡ true) (sym left)
                (nested_by (f.instructions - (s.instructions + 1))
                (rw e (subst (λ (i : ℕ). accepts (op_from s.start) (word_from s.start s.immediates) (f.instructions - (s.instructions + 1)) i p.blocks ≡ true)
                (add-one s.instructions) b.nested)));
            instruction = λ n l h. ⊎_elim (λ q. here_too n q) (λ g. b.instruction n (omega arith) h) (eq-or-lt_of_le l);
            operands = λ n l h. ⊎_elim (λ q. found_too n q) (λ g. b.operands n (omega arith) h) (eq-or-lt_of_le l);
          }

  -- After an instruction there are no declarations and immediates.
  late : {A : Type 0} (n : ℕ) (g : Finding) (u : Seen) → 0 < n → cond (ltb 0 n) (due late_declaration) g ≡ taken u → A
  late n g u h e = due_not_taken (rw (lt-ltb 0 n h) at e)

  later : (k at : ℕ) (s f : Seen) → walk k file at s ≡ accepted f → at ≡ place_from file s.start s.instructions → 0 < s.instructions → Body s f
  unfolding walk with_instruction declaration_finding immediate_finding
  later zero at s f e place h = not_accepted e
  later (suc k) at s f e place h =
      let t : Turned k at s f = turned k at s f e in
      let i : Instruction file at =
      record {
        whole = taken_whole s file at t.after t.found;
        not_declaration = λ q. late s.instructions _ t.after h (taken_declaration s file at t.after t.found q);
        not_immediate = λ q. late s.instructions _ t.after h (taken_immediate s file at t.after t.found q);
      }
      in
      body k at s f t place i (λ r. later k (at + size_at file at) t.after f r (after_place k at s f t place i) (after_some k at s f t place i))

  -- ---- The whole program

  -- What holds of the accepted program f.
  pub record Followed (f : Seen) : Type 0 where
    pub starts : f.start < length file
    pub most : f.instructions ≤ 1024
    pub nested : accepts (op_from f.start) (word_from f.start f.immediates) f.instructions 0 [] ≡ true
    pub instruction : (n : ℕ) → n < f.instructions → Instruction file (place_from file f.start n)
    pub operands : (n : ℕ) → n < f.instructions → Operands file f.declared f.immediates (place_from file f.start n)
    pub inside : Inside f.declared
    pub given : length f.immediates ≤ 1024

  -- Before the first instruction: it begins here, no block is open, and what is declared and given is within bounds.
  record Before (at : ℕ) (s : Seen) : Type 0 where
    start : s.start ≡ at
    instructions : s.instructions ≡ 0
    blocks : s.blocks ≡ []
    inside : Inside s.declared
    given : Fours s.immediates

  first : (at : ℕ) (s f : Seen) → Before at s → at < length file → Body s f → Followed f
  first at s f before h b =
      let z = before.instructions in
      let n : f.instructions - s.instructions ≡ f.instructions = omega arith in
      record {
        starts = rw (b.start, before.start) h;
        most = b.most;
        nested = rw (b.start, b.immediates) (rw (n, before.instructions, before.blocks) at b.nested);
        instruction = λ i l. rw b.start (b.instruction i (omega arith) l);
        operands = λ i l. rw (b.start, b.declared, b.immediates) (b.operands i (omega arith) l);
        inside = rw b.declared before.inside;
        given = rw b.immediates (omega (arith, before.given.most, before.given.four));
      }

  declared_before : (at : ℕ) (s u : Seen) → Before at s → declaration_finding s file at ≡ taken u → Before (at + size_at file at) u
  unfolding declaration_finding with_declaration
  declared_before at s u before e =
      let a = past_due (ltb 0 s.instructions) late_declaration _ u e in
      let b = past_due (not (declaration_rule (declaration_at file (at + 1)))) field_rule_broken _ u a.1 in
      let c = past_due (overlaps s.declared (declaration_at file (at + 1))) overlapping _ u b.1 in
      subst (λ (v : Seen). Before (at + size_at file at) v) (same_taken _ u c.1)
      (record {
        start = refl;
        instructions = before.instructions;
        blocks = before.blocks;
        inside = more_inside s.declared (declaration_at file (at + 1)) before.inside (not-false _ b.0);
        given = before.given;
      })

  given_before : (at : ℕ) (s u : Seen) → Before at s → immediate_finding s file at ≡ taken u → Before (at + size_at file at) u
  unfolding immediate_finding with_immediate
  given_before at s u before e =
      let a = past_due (ltb 0 s.instructions) late_declaration _ u e in
      let b = past_due (leb 1024 (length s.immediates)) too_many _ u a.1 in
      let room : length s.immediates < 1024 = leb-false 1024 (length s.immediates) b.0 in
      let four : length s.immediates ≡ 4 * before.given.many = before.given.four in
      subst (λ (v : Seen). Before (at + size_at file at) v) (same_taken _ u b.1)
      (record {
        start = refl;
        instructions = before.instructions;
        blocks = before.blocks;
        inside = before.inside;
        given =
            record {
              many = before.given.many + 1;
              most = omega arith;
              four = length-append s.immediates (immediate_at file (at + 1)) ∙ omega arith;
            };
      })

  -- A declaration or an immediate leads to the next record before the first instruction; an instruction is the first.
  header : (k at : ℕ) (s f : Seen) → Turned k at s f → Before at s
      → ((u : Seen) → walk k file (at + size_at file at) u ≡ accepted f → Before (at + size_at file at) u → Followed f) → Followed f
  unfolding place_from
  header k at s f t before rest = by (eqb (get_or file at 0) 1) refl where
    place : at ≡ place_from file s.start s.instructions
    place = rw before.instructions (sym before.start)

    by_immediate : (get_or file at 0 ≡ 1 → ⊥) → (b : Bool) → eqb (get_or file at 0) 2 ≡ b → Followed f
    by_immediate n1 true e =
        let q = eqb-true (get_or file at 0) 2 e in
        rest t.after (rw q at t.rest) (given_before at s t.after before (taken_immediate s file at t.after t.found q))
    by_immediate n1 false e =
        let i : Instruction file at =
        record { whole = taken_whole s file at t.after t.found; not_declaration = n1; not_immediate = eqb-false (get_or file at 0) 2 e } in
        first at s f before t.inside
        (body k at s f t place i (λ r. later k (at + size_at file at) t.after f r (after_place k at s f t place i) (after_some k at s f t place i)))

    by : (b : Bool) → eqb (get_or file at 0) 1 ≡ b → Followed f
    by true e =
        let q = eqb-true (get_or file at 0) 1 e in
        rest t.after (rw q at t.rest) (declared_before at s t.after before (taken_declaration s file at t.after t.found q))
    by false e = by_immediate (eqb-false (get_or file at 0) 1 e) (eqb (get_or file at 0) 2) refl

  headed : (k at : ℕ) (s f : Seen) → walk k file at s ≡ accepted f → Before at s → Followed f
  unfolding walk
  headed zero at s f e before = not_accepted e
  headed (suc k) at s f e before = header k at s f (turned k at s f e) before (λ u r b. headed k (at + size_at file at) u f r b)

-- An accepted program is no longer than a file may be, and what holds of it.
pub followed : (file : List ℕ) (f : Seen) → check_of file ≡ accepted f → (length file ≤ longest) × Followed file f
unfolding check_of
followed file f e = by (ltb longest (length file)) refl e where
  by : (b : Bool) → ltb longest (length file) ≡ b → cond b (refused too_long 0) (walk (length file) file 0 nothing) ≡ accepted f → (length file ≤ longest) × Followed file f
  by true l r = not_accepted r
  by false l r = (
    ltb-false longest (length file) l,
    headed file (length file) 0 nothing f r
        (record {
          start = refl;
          instructions = refl;
          blocks = refl;
          inside = none_inside;
          given = record { many = 0; most = omega arith; four = refl };
        }),
  )
