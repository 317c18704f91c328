-- One source after the other: those that have not been read are still 0.
use Rattle.std.proofs.Common.{◌≡◌}
use Rattle.sources.specs.Bank.{env_in}
use Rattle.machine.proofs.Sources.{so_far}
use Rattle.machine.proofs.reading.read_sources.Given as goal

abbrev pub invariant-loop-k : goal.invariant-loop-k
invariant-loop-k l = l.sources ≡ so_far (env_in l.bank) l.registers l.bytes l.k
