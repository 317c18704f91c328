-- One source more is read, of four at most; and all are.
use Rattle.std.proofs.Common.{arith}
use Rattle.machine.proofs.Sources.{four_at_most, source_read, sources_read}
use Rattle.machine.proofs.reading.read_sources.Goals as goal

pub bounds-sources-k : goal.bounds-sources-k
bounds-sources-k c = omega (arith, four_at_most _ _ c.ranges.kind.fits c.sources_of-count.ensures)

pub loop-k-preserved : goal.loop-k-preserved
loop-k-preserved c =
    source_read _ _ _ _ _ _ c.requires.0 c.sources_of-count.ensures c.first_source-first.ensures
    _ _ _ _ (four_at_most _ _ c.ranges.kind.fits c.sources_of-count.ensures) c.loop-k-test.true
    c.loop-k.invariant c.source_at.ensures c.read.ensures

pub returns : goal.returns
returns c =
    sources_read _ _ _ _ _ _ c.requires.0 c.sources_of-count.ensures c.first_source-first.ensures
    _ _ c.loop-k.invariant c.loop-k.auto.k-end c.loop-k-test.false
