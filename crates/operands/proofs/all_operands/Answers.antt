-- The destination, if there is one, and then the sources.
use Rattle.std.proofs.Common.{rules}
use Rattle.operands.proofs.Sources.{all_operands_is}
use Rattle.operands.proofs.all_operands.Goals as goal

pub returns : goal.returns
returns g c rule_d rule_s d_is s_is =
    let sources = c.all_sources.ensures rule_s s_is in
    search (rules, all_operands_is, d_is, sources)
