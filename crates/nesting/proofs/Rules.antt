-- What `nest_of` does to blocks that stand in arrays as they should is what blocks' `rule` says of them, and they stand so after it.
-- Assumes nothing.
use mathlib.Core.Path.{◌≡◌, refl, sym, ap, ◌∙◌, subst}
use mathlib.Core.Bool.{Bool, true, false, cond, not, ◌&&◌}
use mathlib.Core.List.{List, [], ◌∷◌}
use Prim.Native.Nat.{ℕ, ◌+◌, ◌^◌, ◌<◌, ◌≤◌}
use native.Mathlib.Omega.{arith}
use lib.Dec.{eqb, leb}
use lib.ListN.{length, drop}
use borrow.Author.Tests.{lt-leb, leb-false}
use Rattle.std.specs.Prelude.{Result, Ok, Err}
use Rattle.format.specs.Refusals.{number_of}
use Rattle.format.specs.declared.refusals.Refusal.{Refusal}
use Rattle.blocks.specs.Control.{Op, PLAIN, ELSE, ENDIF, BGNLOOP, ENDLOOP, BRK, CONT, DEFAULT, ENDSWITCH, END, UIF, SWITCH, CASE, op_of}
use Rattle.blocks.specs.Nesting.{is_uif, any_switch, nesting_rule, switch_rule, opens, open_after, goes, refused, rule}
use Rattle.registers.proofs.Choices.{never}
use Rattle.stack.specs.Arrays.{none_open, innermost_is, popped, recoded}
use Rattle.rules.specs.Kept.{nesting_refusal}
use Rattle.nesting.specs.Left.{Left, opened, denied, nested_as, leaving, pushed, more, labelled, left_after, nest_of}
use Rattle.nesting.specs.Inner.Held.{open_of, blocks_of, top_values, ruling_of, SoundBlocks, Trees}
use Rattle.stack.specs.declared.Blocks.{Blocks}
use Rattle.nesting.proofs.Stack.{blocks_length, start_below, switch_by, nesting_is, switch_is}
use Rattle.nesting.proofs.Opening.{pushed_blocks, pushed_sound, popped_blocks, popped_sound, recoded_blocks, recoded_sound, some_open, more_blocks, defaulted_blocks, more_sound}
use Rattle.nesting.proofs.Searched.{pushed_trees, popped_trees, recoded_trees, more_trees}

-- ---- After an instruction that no rule refuses

-- The blocks that are open then, `c`: they stand as they should again, and have at most one word more.
pub record After (b c : Blocks) (values links : List ℕ) : Type 0 where
  pub sound : SoundBlocks c
  pub held : c.held ≤ b.held + 1
  pub trees : Trees c values links

record Carried (o : Op) (x : ℕ) (b : Blocks) (values : List ℕ) (l : Left) : Type 0 where
  left : Blocks
  opens : l.nested ≡ opened left
  blocks : blocks_of left l.values ≡ open_after o x (blocks_of b values)
  after : After b left l.values l.links

module _ (b : Blocks) (values links : List ℕ) (x : ℕ) (sound : SoundBlocks b) (few : b.held < 1024) (trees : Trees b values links) (small : x < 2 ^ 32) where
  carried_plain : (o : Op) → blocks_of b values ≡ open_after o x (blocks_of b values) → Carried o x b values (leaving b values links)
  carried_plain o e = record { left = b; opens = refl; blocks = e; after = record { sound = sound; held = omega arith; trees = trees } }

  carried_pushed : (o : Op) (code : ℕ) → code < 5 → b.depth < 16 → open_of code [] ∷ blocks_of b values ≡ open_after o x (blocks_of b values)
      → Carried o x b values (leaving (pushed code b) values links)
  carried_pushed o code c h e =
      record {
        left = pushed code b;
        opens = refl;
        blocks = pushed_blocks b sound code h values ∙ e;
        after = record { sound = pushed_sound b sound code h c; held = omega arith; trees = pushed_trees b values links trees code sound h };
      }

  carried_popped : (o : Op) → drop 1 (blocks_of b values) ≡ open_after o x (blocks_of b values) → Carried o x b values (leaving (popped b) values links)
  carried_popped o e =
      record {
        left = popped b;
        opens = refl;
        blocks = popped_blocks b values ∙ e;
        after = record { sound = popped_sound b sound; held = omega (arith, start_below b sound); trees = popped_trees b values links trees };
      }

  carried_recoded : (o : Op) (code : ℕ) → code < 5 → (b.depth ≡ 0 → ⊥) → open_of code (top_values b values) ∷ drop 1 (blocks_of b values) ≡ open_after o x (blocks_of b values)
      → Carried o x b values (leaving (recoded code b) values links)
  carried_recoded o code c h e =
      record {
        left = recoded code b;
        opens = refl;
        blocks = recoded_blocks b sound code values h ∙ e;
        after = record { sound = recoded_sound b sound code c; held = omega arith; trees = recoded_trees b values links trees code };
      }

  carried_labelled : innermost_is 3 4 b ≡ true → Carried CASE x b values (labelled x b values links)
  carried_labelled switch =
      rw (lt-leb 1024 b.held few)
      (record {
        left = more b;
        opens = refl;
        blocks = more_blocks b sound values x switch trees.room few;
        after = record { sound = more_sound b sound; held = omega arith; trees = more_trees b values links x sound few trees small };
      })

  carried : (o : Op) → nesting_rule o (blocks_of b values) ≡ true → (opens o ≡ true → b.depth < 16) → Carried o x b values (left_after o x b values links)
  unfolding left_after
  carried UIF k r = carried_pushed UIF 0 (omega arith) (r refl) refl
  carried BGNLOOP k r = carried_pushed BGNLOOP 2 (omega arith) (r refl) refl
  carried SWITCH k r = carried_pushed SWITCH 3 (omega arith) (r refl) refl
  carried ELSE k r = carried_recoded ELSE 1 (omega arith) (some_open b values is_uif k) refl
  carried ENDIF k r = carried_popped ENDIF refl
  carried ENDLOOP k r = carried_popped ENDLOOP refl
  carried ENDSWITCH k r = carried_popped ENDSWITCH refl
  carried CASE k r = carried_labelled (switch_by b values sound ∙ k)
  carried DEFAULT k r =
      carried_recoded DEFAULT 4 (omega arith) (some_open b values any_switch k) (defaulted_blocks b sound values x (switch_by b values sound ∙ k))
  carried PLAIN k r = carried_plain PLAIN refl
  carried BRK k r = carried_plain BRK refl
  carried CONT k r = carried_plain CONT refl
  carried END k r = carried_plain END refl

-- ---- What the rule says

-- What the answer says, and what stands where it is the blocks, and where it is a refusal.
record Ruled (o : Op) (x : ℕ) (b : Blocks) (values links : List ℕ) (l : Left) : Type 0 where
  says : ruling_of l.nested l.values ≡ rule o x (blocks_of b values)
  after : (c : Blocks) → l.nested ≡ opened c → After b c l.values l.links
  stays : (n : ℕ) → l.nested ≡ denied n → (l.values ≡ values) × (l.links ≡ links)

one_left : (c d : Blocks) → opened c ≡ opened d → c ≡ d
one_left c d e = cc

never_both : {A : Type 0} {c : Blocks} {n : ℕ} → opened c ≡ denied n → A
never_both e = let z : ◌≡◌ {A = ℕ} 0 1 = cc in absurd (omega arith)

module _ (b : Blocks) (values links : List ℕ) (kind x : ℕ) (sound : SoundBlocks b) (few : b.held < 1024) (trees : Trees b values links) (small : x < 2 ^ 32) where
  ruled_refused : (n : ℕ) → refused n ≡ rule (op_of kind) x (blocks_of b values)
      → Ruled (op_of kind) x b values links (record { nested = denied n; values = values; links = links })
  ruled_refused n e = record { says = e; after = λ c q. never_both (sym q); stays = λ m q. (refl, refl) }

  ruled_goes : (l : Left) → goes (open_after (op_of kind) x (blocks_of b values)) ≡ rule (op_of kind) x (blocks_of b values) → Carried (op_of kind) x b values l
      → Ruled (op_of kind) x b values links l
  ruled_goes l e c =
      record {
        says = rw c.opens (ap goes c.blocks ∙ e);
        after = λ d q. subst (λ (y : Blocks). After b y l.values l.links) (one_left c.left d (sym c.opens ∙ q)) c.after;
        stays = λ m q. never_both (sym c.opens ∙ q);
      }

  -- The tests come in the order of the numbers.
  ruled : Ruled (op_of kind) x b values links (nest_of b values links kind x)
  unfolding nest_of nesting_refusal
  ruled =
      rw (nesting_is b values sound (op_of kind), switch_is b values links x sound trees small (op_of kind))
      (by (nesting_rule (op_of kind) (blocks_of b values)) (switch_rule (op_of kind) x (blocks_of b values)) (opens (op_of kind)) (leb 16 b.depth) refl refl refl refl)
    where
      many : length (blocks_of b values) ≡ b.depth
      many = blocks_length b.codes b.starts values b.depth b.held

      by : (p q o d : Bool) → nesting_rule (op_of kind) (blocks_of b values) ≡ p → switch_rule (op_of kind) x (blocks_of b values) ≡ q → opens (op_of kind) ≡ o → leb 16 b.depth ≡ d
          → Ruled (op_of kind) x b values links
          (cond (eqb (cond (not p) 10 (cond (not q) 11 (cond (o && d) 12 0))) 0) (left_after (op_of kind) x b values links)
          (record { nested = denied (cond (not p) 10 (cond (not q) 11 (cond (o && d) 12 0))); values = values; links = links }))
      by false q o d e f g h = ruled_refused 10 (rw e)
      by true false o d e f g h = ruled_refused 11 (rw (e, f))
      by true true true true e f g h = ruled_refused 12 (rw (e, f, g, many, h))
      by true true true false e f g h =
          ruled_goes _ (rw (e, f, g, many, h)) (carried b values links x sound few trees small (op_of kind) e (λ _. leb-false 16 b.depth h))
      by true true false d e f g h =
          ruled_goes _ (rw (e, f, g)) (carried b values links x sound few trees small (op_of kind) e (λ t. never (sym g ∙ t)))

  module _ (r : Result Blocks Refusal) (values' links' : List ℕ)
      (is : record { nested = nested_as r; values = values'; links = links' } ≡ nest_of b values links kind x)
    where
      answer : Ruled (op_of kind) x b values links (record { nested = nested_as r; values = values'; links = links' })
      answer = rw is ruled

      pub nest_says : ruling_of (nested_as r) values' ≡ rule (op_of kind) x (blocks_of b values)
      nest_says = answer.says

      pub nest_after : (c : Blocks) → r ≡ Ok c → After b c values' links'
      nest_after c e = answer.after c (ap nested_as e)

      pub nest_sound : (c : Blocks) → r ≡ Ok c → SoundBlocks c
      nest_sound c e = (nest_after c e).sound

      pub nest_held : (c : Blocks) → r ≡ Ok c → c.held ≤ b.held + 1
      nest_held c e = (nest_after c e).held

      pub nest_trees : (c : Blocks) → r ≡ Ok c → Trees c values' links'
      nest_trees c e = (nest_after c e).trees

      pub nest_stays : (refusal : Refusal) → r ≡ Err refusal → (values' ≡ values) × (links' ≡ links)
      nest_stays refusal e = answer.stays (number_of refusal) (ap nested_as e)

-- ---- No block is open

module _ (b : Blocks) (is : b ≡ none_open) where
  pub none_blocks : (values : List ℕ) → blocks_of b values ≡ []
  none_blocks values = rw is refl

  pub none_sound : SoundBlocks b
  none_sound = rw is (record { codes = refl; starts = refl; depth = omega arith; stacked = tt })

  pub none_held : b.held ≡ 0
  none_held = rw is refl

  pub none_trees : (values links : List ℕ) → length values ≡ 1024 → length links ≡ 2048 → Trees b values links
  none_trees values links v l = rw is (record { room = v; slots = l; each = tt })
