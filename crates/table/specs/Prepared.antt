-- The prepared table of a file, and what the code that fills it leaves in the lent words.
-- Assumes nothing.
use Rattle.std.specs.Prelude.{ℕ, ◌*◌, Bool, cond, ◌&&◌, List, leb, length, get_or}
use Rattle.std.proofs.lemmas.List.Edits.{sets}
use Rattle.format.specs.Records.{longest, place_from}
use Rattle.blocks.specs.Control.{Op, op_of}
use Rattle.blocks.specs.Lists.{nested_lists}
use Rattle.blocks.specs.Run.{most_instructions}
use Rattle.blocks.specs.Table.{row_words, table, words_of}

module _ (file : List ℕ) (start : ℕ) where
  -- Instruction n of a program whose instructions begin at the byte place `start`: its kind byte and its control instruction.
  abbrev pub kind_from : ℕ → ℕ
  kind_from n = get_or file (place_from file start n) 0

  abbrev pub op_from : ℕ → Op
  op_from n = op_of (kind_from n)

  -- "The prepared table has three words an instruction: byte place, jump, label." (01, Blocks)
  unfoldable pub table_words : ℕ → List ℕ
  table_words count = words_of (place_from file start) 0 (table op_from (nested_lists op_from count))

  -- Whether a table can be made: for a file that the checker takes, from a place in it, with room for all rows.
  abbrev pub has_room : ℕ → List ℕ → Bool
  has_room count work =
      leb (length file) longest && leb start (length file) && leb count most_instructions && leb (row_words * count) (length work)

  -- "Words past the last row stay." (01, Blocks) Where no table can be made all words stay.
  unfoldable pub filled : ℕ → List ℕ → List ℕ
  filled count work = cond (has_room count work) (sets work 0 (table_words count)) work
