-- The lines are passed, and the rest is kept.
-- Assumes nothing.
use Rattle.std.proofs.Common.{rules}
use Rattle.tgsi_read.proofs.Turns.{malformed_fits, passed_within, rest_kept}
use Rattle.tgsi_read.proofs.pieces.take_turn.Goals as goal

pub overflow_add-result : goal.overflow_add-result
overflow_add-result c = search (rules, malformed_fits)

pub returns-in-Lines-clause-kept : goal.returns-in-Lines-clause-kept
returns-in-Lines-clause-kept c =
    rest_kept _ _ c.requires.0 _ c.read_piece.ensures _ c.in-Lines.is _ _ c.move_to_front.ensures

pub returns-in-Lines-clause-within : goal.returns-in-Lines-clause-within
returns-in-Lines-clause-within c = passed_within _ _ c.requires.0 _ c.read_piece.ensures _ c.in-Lines.is
