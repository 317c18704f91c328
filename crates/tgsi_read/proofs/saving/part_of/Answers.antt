-- The name and its ending are put after one another, and are text as each is.
-- Assumes nothing.
use Rattle.std.proofs.Common.{◌∙◌, ◌++◌, ap, arith, length, sym}
use Rattle.tgsi_read.proofs.Parts.{put_after, is_read, ended_text}
use Rattle.tgsi_read.proofs.saving.part_of.Goals as goal

pub unwrap-requires : goal.unwrap-requires
unwrap-requires c =
    is_read _ _ _ _ (ended_text _ _ _ c.utf8.name c.as_bytes-2.ensures.utf8
    (put_after _ _ _ _ _ _ _ (sym (ap length c.as_bytes-2.ensures.value)) (omega arith) c.as_bytes.ensures.value c.put_all.ensures c.put_all-2.ensures)) c.from_utf8.ensures.cases

pub returns : goal.returns
returns c =
    (rw c.unwrap.ensures at c.from_utf8.ensures.cases).0
    ∙ put_after _ _ _ _ _ _ _ (sym (ap length c.as_bytes-2.ensures.value)) (omega arith) c.as_bytes.ensures.value c.put_all.ensures c.put_all-2.ensures
    ∙ ap (λ e. c.args.name.now ++ e) c.as_bytes-2.ensures.value
