-- The state after a record: what the code's answer says, and that the numbers it keeps stay within their bounds.
-- Assumes nothing.
use mathlib.Core.Path.{◌≡◌, refl, sym, ap, ◌∙◌}
use mathlib.Core.Bool.{Bool, true, false, cond, not}
use mathlib.Core.List.{List, []}
use Prim.Native.Nat.{ℕ, ◌+◌, ◌*◌, ◌^◌, ◌<◌, ◌≤◌}
use native.Mathlib.Omega.{arith}
use lib.Dec.{eqb, leb}
use lib.ListN.{length, get_or, take}
use borrow.Author.Tests.{leb-false}
use Rattle.format.specs.Records.{size_at}
use Rattle.format.specs.Fields.{case_word}
use Rattle.records.proofs.Walk.{size_fits}
use Rattle.std.specs.Prelude.{Result, Ok, Err}
use Rattle.format.specs.Refusals.{too_many, field_rule_broken, not_declared, number_of}
use Rattle.format.specs.declared.refusals.Refusal.{Refusal}
use Rattle.format.proofs.Numbered.{numbered}
use Rattle.blocks.specs.Control.{op_of}
use Rattle.blocks.specs.Nesting.{rule}
use Rattle.registers.specs.Rules.{operand_rules}
use Rattle.registers.specs.Sets.{is_in}
use Rattle.registers.specs.Found.{operands_found}
use Rattle.checker.specs.Findings.{nothing, Finding, taken, due, with_instruction, nested, instruction_finding}
use Rattle.checker.specs.Check.{program_seen}
use Rattle.stack.specs.Arrays.{none_open}
use Rattle.nesting.specs.Left.{nested_as, nest_of}
use Rattle.nesting.specs.Inner.Held.{blocks_of, ruling_of, Trees}
use Rattle.nesting.proofs.Rules.{nest_says, nest_after, none_blocks, none_sound, none_held, none_trees}
use Rattle.checker.specs.Inner.Held.{seen, finding_of, operand_refusal, Padded, Sound, Stands}
use Rattle.stack.specs.declared.Blocks.{Blocks}
use Rattle.checker.specs.declared.program.Program.{Program}
use Rattle.checker.specs.declared.walk.State.{State}
use Rattle.checker.proofs.Keeping.{count_words}

pub immediates_counted : (s : State) (words values : List ℕ) → Sound s → Padded s.program.immediates words → length (seen s words values).immediates ≡ 4 * s.program.immediates
unfolding seen
immediates_counted s words values h p = count_words words s.program.immediates h.immediates p

-- ---- Bounds

pub words_counted : (n : ℕ) (words : List ℕ) → n ≤ 256 → Padded n words → 4 * n ≡ length (take (4 * n) words)
words_counted n words h p = sym (count_words words n h p)

module _ (s : State) (q : Program) (words values links : List ℕ) (stands : Stands s words values links) where
  pub stands_declaration : q.immediates ≡ s.program.immediates → q.instructions ≡ s.program.instructions → Stands (record { program = q; blocks = s.blocks }) words values links
  stands_declaration e f =
      let h = stands.sound in
      let a = h.instructions in
      let b = h.immediates in
      let c = h.held in
      record {
        sound = record { instructions = omega arith; immediates = omega arith; held = omega arith; blocks = h.blocks };
        padded = rw e stands.padded;
        trees = stands.trees;
      }

  pub stands_immediate : (after : List ℕ) → q.immediates ≡ s.program.immediates + 1 → q.instructions ≡ s.program.instructions → s.program.immediates < 256 → Padded q.immediates after
      → Stands (record { program = q; blocks = s.blocks }) after values links
  stands_immediate after e f l padded =
      let h = stands.sound in
      let a = h.instructions in
      let c = h.held in
      record {
        sound = record { instructions = omega arith; immediates = omega arith; held = omega arith; blocks = h.blocks };
        padded = padded;
        trees = stands.trees;
      }

pub ruleset immediate_steps = (stands_immediate, immediates_counted)

-- Nothing is open, and nothing has been counted.
module _ (p : Program) (b : Blocks) (none : b ≡ none_open) (words values : List ℕ) where
  pub nothing_seen : program_seen p words [] ≡ nothing → program_seen p words (blocks_of b values) ≡ nothing
  nothing_seen e = rw (none_blocks b none values) e

  pub nothing_stands : (links : List ℕ) → p.immediates ≡ 0 → p.instructions ≡ 0 → Padded 0 words → length values ≡ 1024 → length links ≡ 2048
      → Stands (record { program = p; blocks = b }) words values links
  nothing_stands links i n padded v l =
      record {
        sound = record { instructions = omega arith; immediates = omega arith; held = omega (arith, none_held b none); blocks = none_sound b none };
        padded = rw i padded;
        trees = none_trees b none values links v l;
      }

-- The place after a record.
pub next_small : (file : List ℕ) (at next : ℕ) → next ≡ at + size_at file at → at ≤ length file → length file ≤ 65536 → next ≤ 65536
next_small file at next follows h l = omega (arith, size_fits file at h)

-- ---- Instructions

-- An instruction that none of 6, 7 and 9 applies to.
pub room_left : (p : Program) (kind : ℕ) (file : List ℕ) (at : ℕ) → 0 ≡ operand_refusal p kind file at → p.instructions < 1024
unfolding operand_refusal
room_left p kind file at e = leb-false 1024 p.instructions (first (leb 1024 p.instructions) _ (sym e)) where
  first : (b : Bool) (k : ℕ) → cond b too_many k ≡ 0 → b ≡ false
  first true k e = absurd (omega arith)
  first false k e = refl

module _ (s : State) (kind : ℕ) (words values file : List ℕ) (at : ℕ) (padded : Padded s.program.immediates words) (sound : Sound s) (here : kind ≡ get_or file at 0) where
  whole : instruction_finding (seen s words values) file at
      ≡ cond (eqb (operand_refusal s.program kind file at) 0)
      (nested (seen s words values) (rule (op_of kind) (case_word (take (4 * s.program.immediates) words) file at) (blocks_of s.blocks values)))
      (due (operand_refusal s.program kind file at))
  unfolding instruction_finding operand_refusal seen
  whole =
      rw (immediates_counted s words values sound padded, ← here)
      (by (leb 1024 s.program.instructions) (not (operand_rules kind file at)) (not (operands_found kind (is_in s.program.declared) (4 * s.program.immediates) file at)) _)
    where
      by : (a b c : Bool) (f : Finding) → cond a (due too_many) (cond b (due field_rule_broken) (cond c (due not_declared) f))
          ≡ cond (eqb (cond a too_many (cond b field_rule_broken (cond c not_declared 0))) 0) f (due (cond a too_many (cond b field_rule_broken (cond c not_declared 0))))
      by true b c f = refl
      by false true c f = refl
      by false false true f = refl
      by false false false f = refl

  passed_operands : 0 ≡ operand_refusal s.program kind file at
      → nested (seen s words values) (rule (op_of kind) (case_word (take (4 * s.program.immediates) words) file at) (blocks_of s.blocks values)) ≡ instruction_finding (seen s words values) file at
  passed_operands e = sym (whole ∙ rw (← e))

  pub refused_operands : (r : Refusal) → number_of r ≡ operand_refusal s.program kind file at → due (number_of r) ≡ instruction_finding (seen s words values) file at
  refused_operands r e = sym (whole ∙ rw (← e, numbered r))

  -- The rules of nesting come last.
  pub nested_found : 0 ≡ operand_refusal s.program kind file at → (r : Result State Refusal) (after : List ℕ) (x : ℕ)
      → finding_of r words after ≡ nested (seen s words values) (rule (op_of kind) x (blocks_of s.blocks values))
      → x ≡ case_word (take (4 * s.program.immediates) words) file at
      → finding_of r words after ≡ instruction_finding (seen s words values) file at
  nested_found e r after x says word =
      says ∙ ap (λ (y : ℕ). nested (seen s words values) (rule (op_of kind) y (blocks_of s.blocks values))) word ∙ passed_operands e

abbrev instructed : Program → Program
instructed p =
    record {
      declared = p.declared;
      immediates = p.immediates;
      inputs = p.inputs;
      constants = p.constants;
      start = p.start;
      instructions = p.instructions + 1;
    }

-- The arrays stand as they should, and `nest` does what `rule` says.
module _ (s : State) (r : Result Blocks Refusal) (values links values' links' : List ℕ) (kind x : ℕ)
    (nests : record { nested = nested_as r; values = values'; links = links' } ≡ nest_of s.blocks values links kind x)
    (sound : Sound s) (few : s.program.instructions < 1024) (trees : Trees s.blocks values links) (small : x < 2 ^ 32)
  where
    room : s.blocks.held < 1024
    room = omega (arith, sound.held)

    says : ruling_of (nested_as r) values' ≡ rule (op_of kind) x (blocks_of s.blocks values)
    says = nest_says s.blocks values links kind x sound.blocks room trees small r values' links' nests

    pub nested_due : (refusal : Refusal) → r ≡ Err refusal → (words : List ℕ) → due (number_of refusal) ≡ nested (seen s words values) (rule (op_of kind) x (blocks_of s.blocks values))
    nested_due refusal e words = ap (nested (seen s words values)) (rw e at says)

    module _ (c : Blocks) (e : r ≡ Ok c) (words : List ℕ) where
      pub nested_taken : taken (seen (record { program = instructed s.program; blocks = c }) words values') ≡ nested (seen s words values) (rule (op_of kind) x (blocks_of s.blocks values))
      unfolding with_instruction seen
      nested_taken = ap (nested (seen s words values)) (rw e at says)

      pub nested_stands : Stands s words values links → Stands (record { program = instructed s.program; blocks = c }) words values' links'
      nested_stands stands =
          let a = nest_after s.blocks values links kind x sound.blocks room trees small r values' links' nests c e in
          let h = sound.held in
          record {
            sound = record { instructions = omega arith; immediates = sound.immediates; held = omega (arith, a.held); blocks = a.sound };
            padded = stands.padded;
            trees = a.trees;
          }
