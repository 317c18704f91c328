-- The check's refusal stands.
use Rattle.needs.proofs.Answering.{file_denied}
use Rattle.needs.proofs.needs_of.Goals as goal

pub returns-in-Err : goal.returns-in-Err
returns-in-Err c = file_denied _ _ _ _ c.in-Err.ensures _ c.denied.ensures
