use Rattle.std.proofs.Common.{◌≡◌}
use Rattle.destinations.specs.Destinations.{placed}
use Rattle.destinations.proofs.Writes.{masked_to}
use Rattle.componentwise.specs.Components.{result_words}
use Rattle.componentwise.proofs.write_words.Given as goal

abbrev pub invariant-loop-i : goal.invariant-loop-i
invariant-loop-i l = l.registers ≡ masked_to l.mask (placed l.first (result_words l.kind l.sources)) l.initial.registers l.i
