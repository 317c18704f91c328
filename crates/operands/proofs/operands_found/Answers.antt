-- Both closures compute what is found.
use Rattle.std.proofs.Common.{rules}
use Rattle.registers.specs.Sets.{is_in}
use Rattle.registers.specs.Found.{destination_found, source_found, operands_found}
use Rattle.operands.proofs.operands_found.Goals as goal

pub returns : goal.returns
unfolding operands_found
returns c =
    let found =
    c.all_operands-found.ensures (destination_found (is_in c.args.d)) (source_found (is_in c.args.d) c.args.words)
    (λ d r called. search rules) (λ s r called. search rules) in
    search (rules, found)
