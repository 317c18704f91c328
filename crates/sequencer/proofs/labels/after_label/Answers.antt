-- The end of the labels, the CASE, one label more, and the walk's last one.
use Rattle.std.proofs.Common.{◌∙◌}
use Rattle.sequencer.proofs.Walks.{case_found, default_found, default_none, label_left, walk_ended, walk_spent}
use Rattle.sequencer.proofs.labels.after_label.Goals as goal
use Rattle.sequencer.proofs.labels.after_label.Goals.{then-kind, else-kind}

pub returns-then-m-eq0 : goal.returns-then-m-eq0
returns-then-m-eq0 c = walk_ended c.args.immediates.now c.args.file.now c.args.rows.now c.args.x _ _ _ _ _ c.loop.invariant c.loop-test.true c.if-m-eq0.true

pub returns-then-is_case : goal.returns-then-is_case
returns-then-is_case c =
    case_found c.args.immediates.now c.args.file.now c.args.rows.now c.args.x _ _ _ _ _ c.loop.invariant c.loop-test.true c.if-m-eq0.false
    _ _ c.place_of-place.ensures c.byte_at-kind.ensures _ c.is_case.ensures c.if-is_case.true

pub loop-preserved : goal.loop-preserved
loop-preserved c =
    label_left c.args.immediates.now c.args.file.now c.args.rows.now c.args.x _ _ _ _ _ c.loop.invariant c.loop-test.true c.if-m-eq0.false
    _ _ c.place_of-place.ensures c.byte_at-kind.ensures _ c.is_case.ensures _ _ c.if-is_case.false
    (elim c.if-kind.branch [
      | then-kind w ↦ w.other-is ∙ default_found _ _ _ w.if-kind.true
      | else-kind w ↦ w.other-is ∙ default_none _ _ _ w.if-kind.false
    ])
    c.label_of-m.ensures

pub returns : goal.returns
returns c = walk_spent c.args.immediates.now c.args.file.now c.args.rows.now c.args.x _ _ _ _ _ c.loop.invariant c.loop-test.false
