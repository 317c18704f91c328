-- The check's refusal stands.
use Rattle.std.proofs.lemmas.Result.{err_from_is_err_and}
use Rattle.preparation.proofs.Preparing.{prepare_refused, prepare_ready}
use Rattle.preparation.proofs.prepare.Goals as goal

pub returns-in_err-program : goal.returns-in_err-program
returns-in_err-program c =
    let p = err_from_is_err_and c.from_residual.result c.from_residual.ensures.1 in
    rw (p.1, p.2) (prepare_refused _ _ _ _ _ c.in_err-program.ensures)

pub returns : goal.returns
returns c = prepare_ready _ _ _ _ _ c.in_ok-program.ensures _ c.if-work-program.false c.write_table.ensures
