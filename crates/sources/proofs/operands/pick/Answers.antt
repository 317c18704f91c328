-- The four components, negated or not.
use Rattle.std.proofs.Common.{rules}
use Rattle.sources.proofs.Sources.{component_negated, component_plain, four_taken}
use Rattle.sources.proofs.operands.pick.Goals as goal

pub returns-then-negates : goal.returns-then-negates
returns-then-negates c = search (rules, four_taken, component_negated)

pub returns-else-negates : goal.returns-else-negates
returns-else-negates c = search (rules, four_taken, component_plain)
