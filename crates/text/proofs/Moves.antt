-- Moving what stands from a place on to the front.
-- Assumes nothing.
use Rattle.std.proofs.Common.{ℕ, ◌≡◌, ◌-◌, ◌<◌, ◌≤◌, List, length, drop, arith, ⊎_elim}
use Prim.Native.Nat.{min}
use lib.ListN.{length-drop, drop_of_length-le}
use lib.Seq.{sets, sets-eq, take_all, drop-length}
use Rattle.std.specs.List.{copy_within}
use Rattle.std.proofs.lemmas.Bool.{cases_lt}

-- A place past the end counts as the end.
pub drop_min : (from : ℕ) (l : List ℕ) → drop (min from (length l)) l ≡ drop from l
drop_min from l =
    ⊎_elim
    (λ (h : from < length l). let e : min from (length l) ≡ from = omega arith in rw e)
    (λ (h : length l ≤ from). let e : min from (length l) ≡ length l = omega arith in rw (e, drop-length l, drop_of_length-le l h))
    (cases_lt from (length l))

pub moved : (from : ℕ) (l : List ℕ) → copy_within l (min from (length l)) (length l) 0 ≡ sets l 0 (drop from l)
moved from l =
    let m : ℕ = min from (length l) in
    let n : length (drop m l) ≡ length l - m = length-drop m l in
    rw (← drop_min from l, sets-eq (drop m l) l 0 (omega arith), n, take_all (length l - m) (drop m l) (omega arith))
