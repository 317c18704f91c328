-- What is found of a block fits its row, and the rows of its lists are those of the block.
use borrow.Author.Rules.{rules}
use Rattle.std.proofs.Common.{◌<◌, arith}
use Rattle.table.proofs.Rows.{next_near, end_near, opening_jump_near, opening_label_near, inside_near, second_later, opens_once, opens_twice}
use Rattle.table.proofs.Program.+block_opening.Goals as goal

pub opening-put_row-requires : goal.opening-put_row-requires
opening-put_row-requires t c = (omega arith, search (rules, opening_jump_near), search (rules, opening_label_near))

pub opening-block-requires : goal.opening-block-requires
opening-block-requires t c = (search rules, (omega arith, search (rules, inside_near, next_near, end_near)))

pub opening-block-requires-then-found : goal.opening-block-requires-then-found
opening-block-requires-then-found t c =
    let later : c.args.n < c.block_at-found.result.second = second_later _ _ _ c.requires.there c.requires.opens c.block_at-found.ensures in
    (omega arith, (omega arith, search (rules, inside_near, next_near, end_near)))

pub opening-returns-then-found-clause-rows : goal.opening-returns-then-found-clause-rows
opening-returns-then-found-clause-rows t c = search (rules, opens_twice)

pub opening-returns-else-found-clause-rows : goal.opening-returns-else-found-clause-rows
opening-returns-else-found-clause-rows t c = search (rules, opens_once)
