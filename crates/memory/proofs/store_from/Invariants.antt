use Rattle.std.proofs.Common.{◌≡◌, ◌+◌, ◌*◌, get_or}
use Rattle.memory.specs.Memory.{stored}
use Rattle.destinations.proofs.Writes.{masked_to}
use Rattle.memory.proofs.store_from.Given as goal

abbrev pub invariant-loop-i : goal.invariant-loop-i
invariant-loop-i l = l.memory ≡ masked_to l.mask (λ i m. stored m (l.address + 4 * i) (get_or l.v i 0)) l.initial.memory l.i
