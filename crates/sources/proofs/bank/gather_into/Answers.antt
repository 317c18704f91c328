-- The bank, part by part, from one that is 0.
use Rattle.std.proofs.Common.{List, ℕ, take, ap, ◌∙◌}
use Rattle.sources.specs.Inner.Laid.{laid}
use Rattle.sources.proofs.Gather.{gathered}
use Rattle.sources.proofs.bank.gather_into.Goals as goal

pub returns : goal.returns
returns c =
    let all_zero = rw c.told-bank at (c.fill.ensures.after (λ y e. e)) in
    gathered c.args.immediates.now c.args.inputs.now c.args.constants.now c.args.bits.now _ _ _ _
    (c.lay.ensures.0 ∙ ap (λ (bank : List ℕ). laid bank 0 (take 4096 c.args.constants.now)) all_zero)
    c.lay-2.ensures.0 c.lay-3.ensures.0 c.lay-4.ensures.0 c.told-bits c.told-immediates
