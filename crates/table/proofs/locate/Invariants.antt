-- At turn n the walk stands at instruction n, and the first n are located.
use Rattle.std.proofs.Common.{◌≡◌}
use Rattle.format.specs.Records.{place_from}
use Rattle.table.specs.Inner.Rows.{Located}
use Rattle.table.proofs.locate.Given as goal

abbrev pub invariant-loop-n : goal.invariant-loop-n
invariant-loop-n l = (l.at ≡ place_from l.file l.start l.n) × Located l.file l.start l.n l.kinds l.places
