-- A data instruction, one that only says what comes next, or a kind that is no instruction's.
use Rattle.std.proofs.Common.{arith}
use Rattle.machine.proofs.Steps.{data_step, low_step, next_by_bank}
use Rattle.machine.proofs.step.Code.step.Goals as goal

pub returns-in_default : goal.returns-in_default
returns-in_default c =
    low_step _ _ _ _ _ _ _ _ _ c.place_of.ensures c.bytes_from-bytes.ensures c.byte_at-kind.ensures (omega arith)

pub returns-in-16-to-112 : goal.returns-in-16-to-112
returns-in-16-to-112 c =
    data_step _ _ _ _ _ _ _ _ _ c.place_of.ensures c.bytes_from-bytes.ensures c.byte_at-kind.ensures
    _ _ _ _ (omega arith) c.destination_at.ensures c.read_sources.ensures c.effect.ensures

pub returns-in-113-to-255 : goal.returns-in-113-to-255
returns-in-113-to-255 c =
    next_by_bank _ _ _ _ _ _ _ _ _ c.place_of.ensures c.bytes_from-bytes.ensures c.byte_at-kind.ensures _ c.read_sources.ensures
    _ _ (omega arith) (omega arith) c.immediates.ensures c.next_after.ensures
