-- The records of a file: where the walk finds one there is a whole record, and an accepted file is whole records to its end.
-- Assumes nothing.
use mathlib.Core.Path.{◌≡◌, refl, sym, ap, ◌∙◌}
use mathlib.Core.Bool.{Bool, true, false, cond}
use mathlib.Core.List.{List, [], ◌∷◌}
use Prim.Native.Nat.{ℕ, zero, suc, ◌+◌, ◌≤◌}
use native.Mathlib.Omega.{arith}
use native.Mathlib.Nat.{add-zero}
use lib.Dec.{ltb, eqb}
use lib.ListN.{length, get_or, take, drop, length-drop, take-append-drop, drop_of_length-le}
use lib.Seq.{length-take-le, get_or-take, get_or-drop, drop-drop}
use borrow.Author.Tests.{ltb-false}
use Rattle.format.specs.Fields.{Bytes}
use Rattle.format.specs.Records.{longest, size_at}
use Rattle.format.specs.Refusals.{too_long, byte_after_end}
use Rattle.format.proofs.Numbers.{bytes_take, bytes_drop}
use Rattle.records.proofs.Walk.{Whole, sized_whole}
use Rattle.checker.specs.Check.{accepted, refused, walk, check_of}
use Rattle.checker.specs.Findings.{Seen, nothing}
use Rattle.checker.proofs.Walking.{taken_whole}
use Rattle.checker.proofs.Followed.{not_accepted, turned}
use Rattle.listing.proofs.WholeRecords.{Record, Records, file_of}

-- ---- The record at a place

module _ (file : List ℕ) (at : ℕ) (all : Bytes file) (some : size_at file at ≡ 0 → ⊥) where
  here : Whole file at
  here = sized_whole file at some

  abbrev part : List ℕ
  part = take (size_at file at) (drop at file)

  part_length : length part ≡ size_at file at
  part_length = length-take-le (size_at file at) (drop at file) (rw (length-drop at file) (omega (arith, here.fits)))

  part_kind : get_or part 0 0 ≡ get_or file at 0
  part_kind =
      get_or-take (size_at file at) (drop at file) 0 0 (omega (arith, here.size))
      ∙ get_or-drop at file 0 0
      ∙ ap (λ (p : ℕ). get_or file p 0) (add-zero at)

  -- A whole record stands there.
  record_at : Record part
  record_at =
      record {
        bytes = bytes_take (size_at file at) (drop at file) (bytes_drop at file all);
        known = rw part_kind here.known;
        whole = rw part_kind (part_length ∙ here.size);
      }

-- ---- An accepted file

-- From a place on a file is whole records.
pub record Cut (file : List ℕ) (at : ℕ) : Type 0 where
  pub records : List (List ℕ)
  pub are : Records records
  pub file_is : file_of records ≡ drop at file

module _ (file : List ℕ) (all : Bytes file) where
  cut_end : (at : ℕ) → length file ≤ at → Cut file at
  cut_end at h = record { records = []; are = tt; file_is = sym (drop_of_length-le file h) }

  cut_more : (at : ℕ) → (size_at file at ≡ 0 → ⊥) → Cut file (at + size_at file at) → Cut file at
  cut_more at some rest =
      record {
        records = part file at all some ∷ rest.records;
        are = (record_at file at all some, rest.are);
        file_is =
            rw (rest.file_is, ← drop-drop (size_at file at) at file) (take-append-drop (size_at file at) (drop at file));
      }

  cut_walk : (n at : ℕ) (s f : Seen) → walk n file at s ≡ accepted f → Cut file at
  unfolding walk
  cut_walk zero at s f e = not_accepted e
  cut_walk (suc n) at s f e = by (eqb (get_or file at 0) 0x89) (turned file n at s f e).rest (λ t r. cut_walk n (at + size_at file at) t f r) where
    after : Seen
    after = (turned file n at s f e).after

    some : size_at file at ≡ 0 → ⊥
    some = taken_whole s file at after (turned file n at s f e).found

    by_end : (b : Bool) → ltb (at + 1) (length file) ≡ b → cond b (refused byte_after_end (at + 1)) (accepted after) ≡ accepted f → Cut file at
    by_end true h r = not_accepted r
    by_end false h r =
        let l = ltb-false (at + 1) (length file) h in
        let z = (sized_whole file at some).size in
        cut_more at some (cut_end (at + size_at file at) (omega arith))

    by : (b : Bool) → cond b (cond (ltb (at + 1) (length file)) (refused byte_after_end (at + 1)) (accepted after)) (walk n file (at + size_at file at) after) ≡ accepted f
        → ((t : Seen) → walk n file (at + size_at file at) t ≡ accepted f → Cut file (at + size_at file at)) → Cut file at
    by true r rest = by_end (ltb (at + 1) (length file)) refl r
    by false r rest = cut_more at some (rest after r)

  -- An accepted file is whole records one after another.
  pub accepted_records : (s : Seen) → check_of file ≡ accepted s → Cut file 0
  unfolding check_of
  accepted_records s e = by (ltb longest (length file)) e where
    by : (b : Bool) → cond b (refused too_long 0) (walk (length file) file 0 nothing) ≡ accepted s → Cut file 0
    by true r = not_accepted r
    by false r = cut_walk (length file) 0 nothing s r
