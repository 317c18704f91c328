-- What an instruction leaves of the open blocks in arrays. That this is what blocks' `rule` says is proofs/Rules, for arrays that
-- come from no open block by these steps.
-- Assumes nothing.
use Rattle.std.specs.Prelude.{ℕ, ◌+◌, cond, List, eqb, leb, set, Result, Ok, Err}
use Rattle.format.specs.Refusals.{number_of}
use Rattle.format.specs.declared.refusals.Refusal.{Refusal}
use Rattle.blocks.specs.Control.{Op, PLAIN, ELSE, ENDIF, BGNLOOP, ENDLOOP, BRK, CONT, DEFAULT, ENDSWITCH, END, UIF, SWITCH, CASE, op_of}
use Rattle.blocks.specs.Run.{most_instructions}
use Rattle.tree.specs.Search.{place_in, hung}
use Rattle.stack.specs.Arrays.{innermost_start, popped, recoded}
use Rattle.stack.specs.declared.Blocks.{Blocks}
use Rattle.rules.specs.Kept.{nesting_refusal}

-- The blocks that are open after an instruction, or the number of its refusal.
pub data Nested : Type 0 where
  opened : Blocks → Nested
  denied : ℕ → Nested

abbrev pub nested_as : Result Blocks Refusal → Nested
nested_as (Ok b) = opened b
nested_as (Err refusal) = denied (number_of refusal)

-- The answer, and the words and the links after it.
pub record Left : Type 0 where
  pub nested : Nested
  pub values : List ℕ
  pub links : List ℕ

abbrev pub leaving : Blocks → List ℕ → List ℕ → Left
leaving b values links = record { nested = opened b; values = values; links = links }

-- One block more inside the others, which has no words.
abbrev pub pushed : ℕ → Blocks → Blocks
pushed code b =
    record {
      codes = set b.codes b.depth code;
      starts = set b.starts b.depth b.held;
      depth = b.depth + 1;
      held = b.held;
    }

-- One word more for the innermost block; where there are as many as a program has instructions, all stays.
abbrev pub more : Blocks → Blocks
more b = record { codes = b.codes; starts = b.starts; depth = b.depth; held = b.held + 1 }

abbrev pub labelled : ℕ → Blocks → List ℕ → List ℕ → Left
labelled x b values links =
    cond (leb most_instructions b.held) (leaving b values links)
    (leaving (more b) (set values b.held x) (hung links (place_in values links (innermost_start b) b.held x) b.held))

-- After an instruction that no rule refuses.
unfoldable pub left_after : Op → ℕ → Blocks → List ℕ → List ℕ → Left
left_after UIF x b values links = leaving (pushed 0 b) values links
left_after BGNLOOP x b values links = leaving (pushed 2 b) values links
left_after SWITCH x b values links = leaving (pushed 3 b) values links
left_after ELSE x b values links = leaving (recoded 1 b) values links
left_after ENDIF x b values links = leaving (popped b) values links
left_after ENDLOOP x b values links = leaving (popped b) values links
left_after ENDSWITCH x b values links = leaving (popped b) values links
left_after CASE x b values links = labelled x b values links
left_after DEFAULT x b values links = leaving (recoded 4 b) values links
left_after PLAIN x b values links = leaving b values links
left_after BRK x b values links = leaving b values links
left_after CONT x b values links = leaving b values links
left_after END x b values links = leaving b values links

-- A refused instruction leaves all as it was.
unfoldable pub nest_of : Blocks → List ℕ → List ℕ → ℕ → ℕ → Left
nest_of b values links kind x =
    let refusal = nesting_refusal b values links kind x in
    cond (eqb refusal 0) (left_after (op_of kind) x b values links) (record { nested = denied refusal; values = values; links = links })
