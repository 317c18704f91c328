use mathlib.Core.Path.{refl}
use borrow.Author.Rules.{rules}
use Rattle.table.proofs.Located.{located_none, place_start, place_next, located_more}
use Rattle.table.proofs.locate.Goals as goal

pub loop-n-init : goal.loop-n-init
loop-n-init c = (search (rules, place_start), located_none _ _ _ _ refl refl)

pub loop-n-preserved : goal.loop-n-preserved
loop-n-preserved c = (search (rules, place_next), search (rules, located_more))
