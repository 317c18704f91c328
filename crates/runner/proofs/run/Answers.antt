-- A run answers what its definition says: the refusal, or what the admitted program comes to; demand 3 whole is in the last.
-- Assumes nothing.
use Rattle.std.specs.Prelude.{Ok, refl}
use Rattle.std.proofs.lemmas.Result.{err_from_is_err_and}
use Rattle.runner.proofs.Answering.{run_refused, near_stop, carried_out_is, carried_within}
use Rattle.runner.proofs.run.Goals as goal

pub returns-in_err-program-clause-whole : goal.returns-in_err-program-clause-whole
returns-in_err-program-clause-whole c =
    let p = err_from_is_err_and c.from_residual.result c.from_residual.ensures.1 in
    rw (p.1, p.2) (run_refused _ c.args.inputs.now c.args.constants.now _ _ _ _ _ _ _ _ c.in_err-program.ensures refl)

pub answered-requires : goal.answered-requires
answered-requires c =
    near_stop _ _ _ _ _ _ _ _ _ _ c.in_ok-program.ensures _ _ _ _ _ c.carry_out_program-stop.ensures.table c.carry_out_program-stop.ensures.came refl refl

pub returns-clause-whole : goal.returns-clause-whole
returns-clause-whole c =
    carried_out_is _ _ _ _ _ _ _ _ _ _ c.in_ok-program.ensures _ _ _ _ _ c.carry_out_program-stop.ensures.table c.carry_out_program-stop.ensures.came
    refl refl (Ok c.answered.result) c.answered.ensures refl

pub returns-clause-within : goal.returns-clause-within
returns-clause-within c =
    carried_within _ _ _ _ _ _ _ _ _ _ c.in_ok-program.ensures _ _ _ _ _ c.carry_out_program-stop.ensures.table c.carry_out_program-stop.ensures.came
    refl refl (Ok c.answered.result) c.answered.ensures refl
