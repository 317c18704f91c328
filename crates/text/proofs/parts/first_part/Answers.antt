-- The bytes before the first separator.
-- Assumes nothing.
use Rattle.std.proofs.Common.{rules}
use Rattle.text.proofs.Splitting.{split_length, split_part}
use Rattle.text.proofs.parts.first_part.Goals as goal

pub slice_bounds-result-end : goal.slice_bounds-result-end
slice_bounds-result-end c = search (rules, split_length)

pub returns : goal.returns
returns c = search (rules, split_part)
