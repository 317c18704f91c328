-- The rest of the search is the whole, by the count of the nodes.
use Rattle.std.proofs.Common.{◌≡◌, ◌-◌}
use Rattle.tree.specs.Search.{ending, most_nodes, place_in}
use Rattle.tree.proofs.place_of.Given as goal

abbrev pub invariant-loop-depth : goal.invariant-loop-depth
invariant-loop-depth l = place_in l.values l.links l.from l.end l.x ≡ ending l.values l.links l.x (most_nodes - l.depth) l.node l.depth
