-- What the rules of nesting say is what the state after them says.
use Rattle.std.proofs.lemmas.Result.{err_from_is_err_and}
use Rattle.checker.proofs.Taking.{nested_due, nested_taken, nested_stands}
use Rattle.checker.proofs.walk.nested_instruction.Goals as goal

pub returns-in_err-blocks-clause-found : goal.returns-in_err-blocks-clause-found
returns-in_err-blocks-clause-found c words =
    let p = err_from_is_err_and c.from_residual.result c.from_residual.ensures.1 in
    rw (p.1, p.2) (nested_due _ _ _ _ _ _ _ _ c.nest.ensures c.requires.0 c.requires.1 c.requires.2 c.ranges.x.fits _ c.in_err-blocks.was words)

pub returns-clause-found : goal.returns-clause-found
returns-clause-found c words =
    nested_taken _ _ _ _ _ _ _ _ c.nest.ensures c.requires.0 c.requires.1 c.requires.2 c.ranges.x.fits _ c.in_ok-blocks.was words

pub returns-clause-stands : goal.returns-clause-stands
returns-clause-stands c words stands =
    nested_stands _ _ _ _ _ _ _ _ c.nest.ensures c.requires.0 c.requires.1 c.requires.2 c.ranges.x.fits _ c.in_ok-blocks.was words stands
