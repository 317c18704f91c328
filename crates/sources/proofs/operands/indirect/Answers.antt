-- A sum that is negative, or one that is a number.
use Rattle.std.proofs.Common.{ap, ◌∙◌}
use Rattle.std.specs.Bool.{then_some}
use Rattle.sources.specs.Bank.{declared_in}
use Rattle.sources.proofs.Sources.{indirect_none, indirect_at}
use Rattle.sources.proofs.operands.indirect.Goals as goal

pub returns-in_err-n : goal.returns-in_err-n
returns-in_err-n c =
    c.from_residual.ensures
    ∙ indirect_none (declared_in c.args.declared.now) c.args.file _ _ _ _ c.ranges.index.fits c.ranges.address.fits
    c.from.ensures c.cast_signed.ensures c.in_err-n.ensures

pub returns : goal.returns
returns c =
    c.then_some.ensures ∙ ap (λ t. then_some t c.in_ok-n.n) c.is_declared.ensures
    ∙ indirect_at (declared_in c.args.declared.now) c.args.file _ _ _ _ c.ranges.index.fits c.ranges.address.fits
    c.from.ensures c.cast_signed.ensures _ c.in_ok-n.ensures
