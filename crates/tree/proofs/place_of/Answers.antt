-- The search goes on at the node below, which the link that was read holds.
use Rattle.std.proofs.Common.{◌≡◌, ◌∙◌, sym, arith, rules, get_or}
use Rattle.tree.specs.Search.{slot_of}
use Rattle.tree.proofs.Steps.{goes_below}
use Rattle.tree.proofs.place_of.Goals as goal

pub loop-depth-preserved : goal.loop-depth-preserved
loop-depth-preserved c =
    let word : c.unwrap_or.result ≡ get_or c.args.values.now c.loop-depth.node 0 = search rules in
    let next : c.unwrap_or-in-loop-depth.result ≡ get_or c.args.links.now (slot_of c.loop-depth.node c.loop-depth.depth c.args.x) 0 = search rules in
    rw next (c.loop-depth.invariant ∙ goes_below _ _ _ _ _ (omega arith) (λ e. c.if-unwrap_or-x.false (word ∙ sym e)) (λ z. omega arith))
