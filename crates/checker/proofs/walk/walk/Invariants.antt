-- What is left to check, from the place on, is the whole check.
use Rattle.std.proofs.Common.{◌≤◌, ◌-◌, length}
use Rattle.checker.specs.Inner.Held.{seen, Stands}
use Rattle.checker.proofs.Walking.{Going}
use Rattle.checker.proofs.walk.walk.Given as goal

abbrev pub invariant-loop-at : goal.invariant-loop-at
invariant-loop-at l = record {
  going : Going l.file l.at (seen l.s l.words l.values);
  stands : Stands l.s l.words l.values l.links;
  inside : l.at ≤ length l.file;
  long : length l.file ≤ 65536;
}

abbrev pub decreases-loop-at : goal.decreases-loop-at
decreases-loop-at l = length l.file - l.at
