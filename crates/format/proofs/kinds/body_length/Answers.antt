-- The table holds each kind's length, as its rule computes it over all 256 kinds.
use Rattle.std.proofs.Common.{arith}
use Rattle.format.specs.Kinds.{length_of}
use Rattle.format.proofs.Table.{entry}
use Rattle.format.proofs.kinds.body_length.Goals as goal

pub returns : goal.returns
unfolding length_of
returns c = entry length_of 256 c.args.kind (omega arith)
