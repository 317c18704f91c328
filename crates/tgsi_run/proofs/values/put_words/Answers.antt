-- A word that is put is one fewer that is left, and after the loop none is.
-- Assumes nothing.
use Rattle.std.proofs.Common.{rules}
use Rattle.tgsi_run.proofs.Words.{put_next, put_all}
use Rattle.tgsi_run.proofs.values.put_words.Goals as goal

pub loop-i-preserved : goal.loop-i-preserved
loop-i-preserved c = (search rules, put_next _ _ _ _ _ _ c.loop-i-test.true c.u32_at.ensures c.loop-i.invariant.1)

pub returns-clause-content : goal.returns-clause-content
returns-clause-content c = put_all _ _ _ _ _ c.loop-i-test.false c.loop-i.invariant.1
