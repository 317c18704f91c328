-- The round trips of whole calls: what one call wrote, handed to the other, delivers what the first was given.
-- Assumes nothing.
use mathlib.Core.Path.{◌≡◌, refl, sym, ap, ◌∙◌}
use mathlib.Core.Bool.{Bool, true, false, cond}
use mathlib.Core.List.{List}
use Prim.Native.Nat.{ℕ}
use native.Mathlib.Omega.{arith}
use lib.Dec.{ltb}
use lib.ListN.{length, take}
use lib.Seq.{sets, sets-eq, take_at}
use borrow.Author.Tests.{ltb-false}
use Rattle.format.specs.Fields.{Bytes}
use Rattle.checker.specs.Check.{Outcome, accepted, refused, check_of}
use Rattle.checker.specs.Findings.{Seen}
use Rattle.format.specs.Refusals.{output_short}
use Rattle.text.specs.Output.{Answer, wrote, refusal, Written, written, delivered}
use Rattle.listing.specs.Calls.{delivered_if, print_of, read_as, read_of}
use Rattle.listing.specs.Listing.{listing_of}
use Rattle.listing.specs.Reading.{Reading, spelled, malformed, bytes_of}
use Rattle.listing.proofs.RoundTrip.{listing_back, read_is_listing}

-- A call that wrote did not refuse.
not_wrote : {A : Type 0} (number place n : ℕ) (output after : List ℕ) → written (refusal number place) output ≡ written (wrote n) after → A
not_wrote number place n output after e =
    let answers : refusal number place ≡ wrote n = ap (λ (w : Written). w.answer) e in
    let z : ◌≡◌ {A = ℕ} 0 1 = cc in
    absurd (omega arith)

-- Where bytes were delivered they stand at the output's front.
delivered_back : (text output after : List ℕ) (n : ℕ) → delivered text output ≡ written (wrote n) after → take n after ≡ text
unfolding delivered
delivered_back text output after n e = by (ltb (length output) (length text)) refl e where
  by : (b : Bool) → ltb (length output) (length text) ≡ b
      → cond b (written (refusal output_short 0) output) (written (wrote (length text)) (sets output 0 text)) ≡ written (wrote n) after → take n after ≡ text
  by true h r = not_wrote output_short 0 n output after r
  by false h r =
      let l = ltb-false (length output) (length text) h in
      let answers : wrote (length text) ≡ wrote n = ap (λ (w : Written). w.answer) r in
      let count : length text ≡ n = cc in
      let there : sets output 0 text ≡ after = ap (λ (w : Written). w.output) r in
      rw (← there, sets-eq text output 0 (omega arith)) (take_at text _ n count)

-- A call that wrote found the program accepted.
record Delivered (o : Outcome) (text : List ℕ) (n : ℕ) (after : List ℕ) : Type 0 where
  seen : Seen
  ok : o ≡ accepted seen
  back : take n after ≡ text

delivered_by : (o : Outcome) (text output after : List ℕ) (n : ℕ) → delivered_if o text output ≡ written (wrote n) after → Delivered o text n after
delivered_by (refused number place) text output after n e = not_wrote number place n output after e
delivered_by (accepted s) text output after n e = record { seen = s; ok = refl; back = delivered_back text output after n e }

-- What was printed and is read as the file, as the contract of `print` says of every lent file, delivers it.
pub back_read : (file output after : List ℕ) (n : ℕ) → print_of file output ≡ written (wrote n) after → bytes_of (take n after) ≡ spelled file
    → (output2 : List ℕ) → read_of (take n after) output2 ≡ delivered file output2
unfolding print_of read_of
back_read file output after n e back output2 = rw (back, (delivered_by (check_of file) (listing_of file) output after n e).ok)

-- The listing that was printed of a file is read as that file.
module _ (file output after : List ℕ) (all : Bytes file) where
  module _ (n : ℕ) (e : print_of file output ≡ written (wrote n) after) where
    printed : Delivered (check_of file) (listing_of file) n after
    unfolding print_of
    printed = delivered_by (check_of file) (listing_of file) output after n e

    read_back : bytes_of (take n after) ≡ spelled file
    read_back = rw printed.back (listing_back file printed.seen all printed.ok)

    pub printed_read : (output2 : List ℕ) → read_of (take n after) output2 ≡ delivered file output2
    printed_read output2 = back_read file output after n e read_back output2

  pub printed_back : (a : Answer) → written a after ≡ print_of file output → (n : ℕ) → a ≡ wrote n → bytes_of (take n after) ≡ spelled file
  printed_back a e n is = read_back n (sym e ∙ ap (λ (x : Answer). written x after) is)

-- The file that was read from a listing is printed as that listing.
pub read_printed : (text output after : List ℕ) (n : ℕ) → read_of text output ≡ written (wrote n) after
    → (output2 : List ℕ) → print_of (take n after) output2 ≡ delivered text output2
unfolding print_of read_of
read_printed text output after n e output2 = by (bytes_of text) refl e where
  by : (x : Reading) → bytes_of text ≡ x → read_as x output ≡ written (wrote n) after → print_of (take n after) output2 ≡ delivered text output2
  by (malformed at) q r = not_wrote _ at n output after r
  by (spelled file) q r =
      let d : Delivered (check_of file) file n after = delivered_by (check_of file) file output after n r in
      rw (d.back, d.ok, read_is_listing text file q)
