-- Registers cleared, and two lists laid one behind the other.
-- Assumes nothing.
use Rattle.std.proofs.Common.{◌≡◌, ℕ, ◌≤◌, List, ◌++◌, length, take, drop, replicate, min, Bool, true, false, ltb, refl, sym, ap, ◌∙◌, append-nil, arith}
use native.Mathlib.Nat.{min-eq_left, min-eq_right}
use borrow.Author.Tests.{ltb-true, ltb-false}
use borrow.Rule.Slice.PartMut.{put_mid}
use lib.ListN.{length-replicate, length-take, drop_of_length-le}
use lib.Seq.{drop_at, take_at}
use Rattle.format.specs.Files.{lent_registers}
use Rattle.lending.specs.Lent.{cleared, zeroed}

-- ---- Clearing

-- What is dropped past the last of some words is nothing.
drop_least : (n : ℕ) (l : List ℕ) → drop (min (length l) n) l ≡ drop n l
drop_least n l = by (ltb (length l) n) refl
  where
    by : (t : Bool) → ltb (length l) n ≡ t → drop (min (length l) n) l ≡ drop n l
    by true e =
        let less : length l ≤ n = omega (arith, ltb-true (length l) n e) in
        rw (min-eq_left less) (drop_of_length-le l {i = length l} (omega arith) ∙ sym (drop_of_length-le l {i = n} less))
    by false e =
        let more : n ≤ length l = ltb-false (length l) n e in
        rw (min-eq_right more)

pub clear_is : (r front : List ℕ) (end : ℕ) → end ≡ min (length r) lent_registers → front ≡ replicate (length (take end r)) 0 → front ++ drop end r ≡ zeroed r
unfolding zeroed
clear_is r front end e f =
    let same : length (take end r) ≡ length (take lent_registers r) = omega (arith, length-take end r, length-take lent_registers r) in
    rw (f, same, e, drop_least lent_registers r)

-- Where all registers are lent.
pub zeroed_is : (registers : List ℕ) → lent_registers ≤ length registers → zeroed registers ≡ cleared registers
unfolding zeroed cleared
zeroed_is registers h =
    ap (λ (n : ℕ). replicate n 0 ++ drop lent_registers registers) (length-take lent_registers registers ∙ min-eq_left h)

-- "clears these and no word past them" (01, Register files)
pub cleared_past : (registers : List ℕ) → drop lent_registers (cleared registers) ≡ drop lent_registers registers
unfolding cleared
cleared_past registers = drop_at (replicate lent_registers 0) (drop lent_registers registers) lent_registers (length-replicate {A = ℕ} lent_registers 0)

-- ---- One list behind the other

-- As many words, over words of the other's number.
pub laid_behind : (a b rest : List ℕ) → length a ≡ 32 → length rest ≡ 8 → put_mid 32 8 (a ++ rest) b ≡ a ++ b
laid_behind a b rest la lr = rw (take_at a rest 32 la, drop_at a rest 32 la, drop_of_length-le rest {i = 8} (omega arith), append-nil b)
