-- Both closures compute the rules.
use Rattle.std.proofs.Common.{rules}
use Rattle.registers.specs.Rules.{destination_rule, source_rule}
use Rattle.operands.proofs.rules_kept.Goals as goal

pub returns : goal.returns
returns c =
    let kept =
    c.all_operands.ensures (destination_rule c.args.kind) (source_rule c.args.kind)
    (λ d r called. search rules) (λ s r called. search rules) in
    search (rules, kept)
