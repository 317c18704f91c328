-- Whether an instruction keeps the rules of nesting, by the open blocks in arrays. That this is what blocks' `rule` says is
-- `nesting`'s proofs/Rules, for arrays that come from no open block by the steps of its specs/Left.
-- Assumes nothing.
use Rattle.std.specs.Prelude.{ℕ, Bool, true, cond, not, ◌&&◌, List, eqb, leb}
use Rattle.format.specs.Refusals.{nesting_broken, switch_rule_broken, too_deep}
use Rattle.blocks.specs.Control.{Op, PLAIN, ELSE, ENDIF, BGNLOOP, ENDLOOP, BRK, CONT, DEFAULT, ENDSWITCH, END, UIF, SWITCH, CASE, op_of}
use Rattle.blocks.specs.Nesting.{opens, most_open}
use Rattle.tree.specs.Search.{place_in, is_here}
use Rattle.stack.specs.Arrays.{innermost_is, some_is, innermost_start}
use Rattle.stack.specs.declared.Blocks.{Blocks}

-- Whether the innermost block has no words.
abbrev pub wordless : Blocks → Bool
wordless b = leb b.held (innermost_start b)

-- Whether an instruction is well nested: else 10.
unfoldable pub nesting_kept : Op → Blocks → Bool
nesting_kept ELSE b = innermost_is 0 0 b
nesting_kept ENDIF b = innermost_is 0 1 b
nesting_kept ENDLOOP b = innermost_is 2 2 b
nesting_kept CASE b = innermost_is 3 4 b
nesting_kept DEFAULT b = innermost_is 3 4 b
nesting_kept ENDSWITCH b = innermost_is 3 4 b
nesting_kept BRK b = some_is 2 4 b
nesting_kept CONT b = some_is 2 2 b
nesting_kept END b = eqb b.depth 0
nesting_kept PLAIN b = true
nesting_kept BGNLOOP b = true
nesting_kept UIF b = true
nesting_kept SWITCH b = true

-- Whether the innermost block is a SWITCH that has had no label yet.
abbrev pub unlabelled : Blocks → Bool
unlabelled b = innermost_is 3 3 b && wordless b

-- Whether an instruction keeps the rules of a SWITCH: else 11. For a CASE x is its word.
unfoldable pub switch_kept : Op → ℕ → Blocks → List ℕ → List ℕ → Bool
switch_kept CASE x b values links = innermost_is 3 3 b && not (is_here (place_in values links (innermost_start b) b.held x))
switch_kept DEFAULT x b values links = innermost_is 3 3 b
switch_kept ENDSWITCH x b values links = innermost_is 3 4 b && not (wordless b)
switch_kept PLAIN x b values links = not (unlabelled b)
switch_kept ELSE x b values links = not (unlabelled b)
switch_kept ENDIF x b values links = not (unlabelled b)
switch_kept BGNLOOP x b values links = not (unlabelled b)
switch_kept ENDLOOP x b values links = not (unlabelled b)
switch_kept BRK x b values links = not (unlabelled b)
switch_kept CONT x b values links = not (unlabelled b)
switch_kept END x b values links = not (unlabelled b)
switch_kept UIF x b values links = not (unlabelled b)
switch_kept SWITCH x b values links = not (unlabelled b)

-- The lowest of 10, 11 and 12 that applies to an instruction, 0 for none: "within one record the lowest number that applies is
-- given" (01, Refusals by number).
unfoldable pub nesting_refusal : Blocks → List ℕ → List ℕ → ℕ → ℕ → ℕ
nesting_refusal b values links kind x =
    cond (not (nesting_kept (op_of kind) b)) nesting_broken
    (cond (not (switch_kept (op_of kind) x b values links)) switch_rule_broken
    (cond (opens (op_of kind) && leb most_open b.depth) too_deep
    0))
