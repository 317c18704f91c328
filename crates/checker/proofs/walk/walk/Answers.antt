-- Each way out of a turn of the walk is a law of it.
use Rattle.std.proofs.Common.{arith}
use Rattle.records.proofs.Walk.{size_fits}
use Rattle.checker.proofs.Walking.{check_long, check_start, walk_end, walk_refused, walk_ended, walk_goes, walk_less}
use Rattle.checker.proofs.walk.walk.Goals as goal

pub returns-then-end-gt-LONGEST-clause-found : goal.returns-then-end-gt-LONGEST-clause-found
returns-then-end-gt-LONGEST-clause-found c = check_long _ c.if-end-gt-LONGEST.true

pub loop-at-init : goal.loop-at-init
loop-at-init c =
    record {
      going = check_start _ _ (c.started-s.ensures.nothing _ _) c.if-end-gt-LONGEST.false;
      stands = c.started-s.ensures.stands _ _ _ c.requires.0 c.requires.1 c.requires.2;
      inside = omega arith;
      long = c.if-end-gt-LONGEST.false;
    }

pub overflow_add-next : goal.overflow_add-next
overflow_add-next c = omega (arith, c.size_at.ensures, size_fits c.args.file.now c.loop-at.at c.loop-at.invariant.inside)

pub returns-in-Err-clause-found : goal.returns-in-Err-clause-found
returns-in-Err-clause-found c = walk_refused _ _ _ c.loop-at.invariant.going c.loop-at-test.true _ c.in-Err.ensures.found

pub ended-requires : goal.ended-requires
ended-requires c = omega (arith, c.size_at.ensures, size_fits c.args.file.now c.loop-at.at c.loop-at.invariant.inside)

pub returns-then-byte_at-clause-found : goal.returns-then-byte_at-clause-found
returns-then-byte_at-clause-found c =
    walk_ended _ _ _ c.loop-at.invariant.going c.loop-at-test.true _ _ _ c.in-Ok.ensures.found _ _ c.byte_at.ensures c.size_at.ensures
    c.if-byte_at.true _ (c.ended.ensures.found _)

pub loop-at-smaller : goal.loop-at-smaller
loop-at-smaller c =
    walk_less _ _ _ c.loop-at.invariant.going c.loop-at-test.true _ _ _ c.in-Ok.ensures.found _ _ c.byte_at.ensures c.size_at.ensures c.if-byte_at.false

pub loop-at-preserved : goal.loop-at-preserved
loop-at-preserved c =
    record {
      going =
          walk_goes _ _ _ c.loop-at.invariant.going c.loop-at-test.true _ _ _ c.in-Ok.ensures.found _ _ c.byte_at.ensures c.size_at.ensures
          c.if-byte_at.false;
      stands = c.in-Ok.ensures.stands;
      inside = omega (arith, c.size_at.ensures, size_fits c.args.file.now c.loop-at.at c.loop-at.invariant.inside);
      long = c.loop-at.invariant.long;
    }

pub returns-clause-found : goal.returns-clause-found
returns-clause-found c = walk_end _ _ _ c.loop-at.invariant.going c.loop-at-test.false
