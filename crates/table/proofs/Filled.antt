-- The words that `fill` leaves: the table's where there is room, and the old ones where there is none.
-- Assumes nothing.
use mathlib.Core.Path.{◌≡◌, ap, ap₂, ◌∙◌}
use mathlib.Core.Bool.{true}
use mathlib.Core.List.{List, []}
use Prim.Native.Nat.{ℕ, ◌+◌, ◌*◌, ◌≤◌, ◌<◌}
use native.Mathlib.Omega.{arith}
use native.Mathlib.Nat.{zero-add}
use lib.ListN.{length, get_or, take}
use lib.Seq.{sets, length-take-le, get_or-take}
use borrow.Author.Tests.{le-leb}
use Rattle.format.specs.Records.{longest, place_from}
use Rattle.blocks.specs.Control.{Op, op_of}
use Rattle.blocks.specs.Lists.{nested_lists}
use Rattle.blocks.specs.Nesting.{accepts}
use Rattle.blocks.specs.Run.{most_instructions}
use Rattle.blocks.specs.Table.{Row, row, nowhere, table, row_at, row_words, place_in, row_in, words_of}
use Rattle.blocks.proofs.Agree.{length_rows}
use Rattle.blocks.proofs.Correct.{rows_count}
use Rattle.table.specs.Prepared.{op_from, table_words, filled}
use Rattle.lists.specs.Lists.{op_in, list_in}
use Rattle.table.specs.Inner.Rows.{words_in, Located}
use Rattle.lists.proofs.Laid.{list_fits}
use Rattle.table.proofs.Same.{table_same, words_same}
use Rattle.table.proofs.Words.{length_words, words_place, words_row, get_or_stored}

-- Where there is room: the rows by the kinds and places that were found, written from row 0.
module _ (file : List ℕ) (start count : ℕ) (work kinds places : List ℕ)
    (short : length file ≤ longest)
    (early : start ≤ length file)
    (few : count ≤ most_instructions)
    (found : Located file start count kinds places)
  where
    kinds_held : length (take count kinds) ≡ count
    kinds_held = length-take-le count kinds (omega (arith, found.kinds_length))

    words : words_in (take count kinds) (take count places) nowhere 0 (list_in (take count kinds) 0) ≡ table_words file start count
    unfolding words_in table_words table
    words =
        let op : ℕ → Op = op_in (take count kinds) in
        rw kinds_held
        (words_same (λ m. get_or (take count places) m 0) (place_from file start) 0 (table op (nested_lists op count))
        (λ m h.
        let k : m < count = omega (arith, length_rows op nowhere (nested_lists op count), list_fits op count 0 (omega arith)) in
        get_or-take count places m 0 k ∙ found.place m k)
        ∙ ap (words_of (place_from file start) 0)
        (table_same op (op_from file start) count (λ n k. ap op_of (get_or-take count kinds n 0 k ∙ found.kind n k))))

    pub fill_table : row_words * count ≤ length work
        → (after : List ℕ)
        → after ≡ sets work (row_words * 0) (words_in (take count kinds) (take count places) nowhere 0 (list_in (take count kinds) 0))
        → after ≡ filled file start count work
    unfolding filled
    fill_table h after e =
        rw (
          le-leb (length file) longest short,
          le-leb start (length file) early,
          le-leb count most_instructions few,
          le-leb (row_words * count) (length work) h,
        )
        (e ∙ rw words)

-- ---- The rows of the words of a table

-- Of an accepted program, by the instruction's number.
module _ (file : List ℕ) (start count : ℕ) (work : List ℕ) (value : ℕ → ℕ)
    (room : row_words * count ≤ length work)
    (ok : accepts (op_from file start) value count 0 [] ≡ true)
  where
    abbrev T : List Row
    T = table (op_from file start) (nested_lists (op_from file start) count)

    abbrev prepared : List ℕ
    prepared = sets work 0 (table_words file start count)

    word : (i : ℕ) → i < row_words * count → get_or prepared i 0 ≡ get_or (words_of (place_from file start) 0 T) i 0
    unfolding table_words
    word i h =
        let n : length (words_of (place_from file start) 0 T) ≡ row_words * count
        = length_words (place_from file start) 0 T ∙ ap (λ m. row_words * m) (rows_count (op_from file start) value count ok) in
        get_or_stored work (words_of (place_from file start) 0 T) i (omega (arith, room)) (omega arith)

    pub filled_place : (n : ℕ) → n < count → place_in (sets work 0 (table_words file start count)) n ≡ place_from file start n
    filled_place n h =
        word (row_words * n) (omega arith)
        ∙ words_place (place_from file start) 0 T n (omega (arith, rows_count (op_from file start) value count ok))
        ∙ ap (place_from file start) (zero-add n)

    pub filled_row : (n : ℕ)
        → n < count
        → row_in (sets work 0 (table_words file start count)) n ≡ row_at (table (op_from file start) (nested_lists (op_from file start) count)) n
    filled_row n h =
        ap₂ row (word (row_words * n + 1) (omega arith)) (word (row_words * n + 2) (omega arith))
        ∙ words_row (place_from file start) 0 T n
