-- Each way out of a step leaves what the rest comes to as it was.
use Rattle.execution.proofs.Loop.{none_yet, goes_on, comes_to_end, leads_out, budget_spent}
use Rattle.execution.proofs.steps.carry_out.Goals as goal

pub loop-steps-init : goal.loop-steps-init
loop-steps-init c = none_yet _ _ _ _ _

pub returns-then-n-ge-MOST_INSTRUCTIONS : goal.returns-then-n-ge-MOST_INSTRUCTIONS
returns-then-n-ge-MOST_INSTRUCTIONS c =
    leads_out _ _ _ _ _ _ _ _ _ c.loop-steps.invariant c.loop-steps-test.true c.if-n-ge-MOST_INSTRUCTIONS.true

pub loop-steps-preserved : goal.loop-steps-preserved
loop-steps-preserved c =
    goes_on _ _ _ _ _ _ _ _ _ c.loop-steps.invariant c.loop-steps-test.true
    _ _ _ c.if-n-ge-MOST_INSTRUCTIONS.false c.step.ensures _ c.in-Some.is

pub returns-in-None : goal.returns-in-None
returns-in-None c =
    comes_to_end _ _ _ _ _ _ _ _ _ c.loop-steps.invariant c.loop-steps-test.true
    _ _ _ c.if-n-ge-MOST_INSTRUCTIONS.false c.step.ensures c.in-None.is

pub returns : goal.returns
returns c = budget_spent _ _ _ _ _ _ _ _ _ c.loop-steps.invariant c.loop-steps.auto.steps-end c.loop-steps-test.false
