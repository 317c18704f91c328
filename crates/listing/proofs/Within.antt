-- What was written lies within the output: a part of it of that length can be taken.
-- Assumes nothing.
use Prim.Native.Nat.{ℕ, ◌≤◌}
use mathlib.Core.Path.{◌≡◌, refl, sym, subst}
use mathlib.Core.Bool.{Bool, true, false, cond}
use mathlib.Core.List.{List}
use native.Mathlib.Omega.{arith}
use borrow.Author.Tests.{ltb-false}
use lib.Dec.{ltb}
use lib.ListN.{length}
use lib.Seq.{sets, length-sets}
use Rattle.std.specs.Prelude.{Result, Ok}
use Rattle.format.specs.declared.refusals.Refused.{Refused}
use Rattle.format.specs.Refusals.{output_short}
use Rattle.text.specs.Output.{Answer, wrote, refusal, Written, answered, written, delivered}
use Rattle.checker.specs.Check.{Outcome, accepted, refused, check_of}
use Rattle.listing.specs.Listing.{listing_of}
use Rattle.listing.specs.Reading.{Reading, spelled, malformed, bytes_of}
use Rattle.listing.specs.Calls.{delivered_if, print_of, read_as, read_of}

-- How many bytes an answer says were written.
abbrev size_of : Answer → ℕ
size_of (wrote n) = n
size_of (refusal number place) = 0

abbrev Within : Written → Type 0
Within w = size_of w.answer ≤ length w.output

delivered_within : (text output : List ℕ) → Within (delivered text output)
unfolding delivered
delivered_within text output = on (ltb (length output) (length text)) refl
  where
    on :
        (short : Bool) → ltb (length output) (length text) ≡ short
        → Within (cond short (written (refusal output_short 0) output) (written (wrote (length text)) (sets output 0 text)))
    on true e = omega arith
    on false e = rw (length-sets output 0 text) (ltb-false (length output) (length text) e)

delivered_if_within : (o : Outcome) (text output : List ℕ) → Within (delivered_if o text output)
delivered_if_within (refused number place) text output = omega arith
delivered_if_within (accepted s) text output = delivered_within text output

read_as_within : (r : Reading) (output : List ℕ) → Within (read_as r output)
read_as_within (malformed at) output = omega arith
read_as_within (spelled file) output = delivered_if_within (check_of file) file output

print_is_within : (file output : List ℕ) → Within (print_of file output)
unfolding print_of
print_is_within file output = delivered_if_within (check_of file) (listing_of file) output

read_is_within : (text output : List ℕ) → Within (read_of text output)
unfolding read_of
read_is_within text output = read_as_within (bytes_of text) output

-- From a call's contract and its answer.
pub print_within :
    (file before after : List ℕ) (r : Result ℕ (Refused ℕ)) (n : ℕ)
    → written (answered r) after ≡ print_of file before → r ≡ Ok n → n ≤ length after
print_within file before after r n e is = subst Within (sym (rw is at e)) (print_is_within file before)

pub read_within :
    (text before after : List ℕ) (r : Result ℕ (Refused ℕ)) (n : ℕ)
    → written (answered r) after ≡ read_of text before → r ≡ Ok n → n ≤ length after
read_within text before after r n e is = subst Within (sym (rw is at e)) (read_is_within text before)
