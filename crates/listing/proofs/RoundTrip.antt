-- "File to listing to file gives the same bytes, and a listing that is read and printed again is unchanged." (document 02, W1)
-- Assumes nothing.
use mathlib.Core.Path.{◌≡◌, refl, sym, ap, ◌∙◌, subst}
use mathlib.Core.Bool.{Bool, true, false, cond}
use mathlib.Core.List.{List, [], ◌∷◌, ◌++◌}
use Prim.Native.Nat.{ℕ, ◌+◌}
use native.Mathlib.Omega.{arith}
use lib.ListN.{length}
use Rattle.format.specs.Fields.{Bytes}
use Rattle.checker.specs.Check.{accepted, check_of}
use Rattle.checker.specs.Findings.{Seen}
use Rattle.text.specs.Parts.{line_feed, split}
use Rattle.text.proofs.Lines.{joined_by, split_joined}
use Rattle.listing.specs.Listing.{listing_of}
use Rattle.spelling.specs.Spelling.{line_record, well_formed}
use Rattle.listing.specs.Reading.{Reading, spelled, malformed, joined, read_lines, bytes_of}
use Rattle.listing.proofs.WholeRecords.{Records, file_of, lines_of, records_bytes, listing_is, reading_is}
use Rattle.listing.proofs.RecordsIn.{Cut, accepted_records}
use Rattle.listing.proofs.WellFormed.{record_line_is, record_is}

-- ---- What is read

-- A text that gives a file is the lines of whole records, and the file is these records.
pub record Read (text file : List ℕ) : Type 0 where
  pub records : List (List ℕ)
  pub are : Records records
  pub file_is : file_of records ≡ file
  pub text_is : lines_of records ≡ text

pub not_spelled : {A : Type 0} {at : ℕ} {file : List ℕ} → malformed at ≡ spelled file → A
not_spelled e = let z : ◌≡◌ {A = ℕ} 0 1 = cc in absurd (omega arith)

module _ (l : List ℕ) (good : well_formed l ≡ true) (text : List ℕ) where
  read_more : (x : Reading) (file : List ℕ) → joined (line_record l) x ≡ spelled file → ((f : List ℕ) → x ≡ spelled f → Read text f) → Read (l ++ (line_feed ∷ text)) file
  read_more (malformed at) file e rest = not_spelled e
  read_more (spelled f) file e rest =
      let after : Read text f = rest f refl in
      record {
        records = line_record l ∷ after.records;
        are = (record_is l good, after.are);
        file_is = rw after.file_is (cc);
        text_is = rw (record_line_is l good, after.text_is);
      }

read_by : (at : ℕ) (ps : List (List ℕ)) (file : List ℕ) → read_lines at ps ≡ spelled file → Read (joined_by line_feed ps) file
unfolding read_lines
read_by at [] file e = record { records = []; are = tt; file_is = cc; text_is = refl }
read_by at ([] ∷ []) file e = record { records = []; are = tt; file_is = cc; text_is = refl }
read_by at ((b ∷ l) ∷ []) file e = not_spelled e
read_by at (l ∷ m ∷ ls) file e = by (well_formed l) refl e (λ f r. read_by (at + length l + 1) (m ∷ ls) f r) where
  by : (t : Bool) → well_formed l ≡ t → cond t (joined (line_record l) (read_lines (at + length l + 1) (m ∷ ls))) (malformed at) ≡ spelled file
      → ((f : List ℕ) → read_lines (at + length l + 1) (m ∷ ls) ≡ spelled f → Read (joined_by line_feed (m ∷ ls)) f) → Read (l ++ (line_feed ∷ joined_by line_feed (m ∷ ls))) file
  by true good r rest = read_more l good (joined_by line_feed (m ∷ ls)) (read_lines (at + length l + 1) (m ∷ ls)) file r rest
  by false bad r rest = not_spelled r

module _ (text file : List ℕ) (e : bytes_of text ≡ spelled file) where
  pub read : Read text file
  unfolding bytes_of
  read = rw (split_joined line_feed text) at (read_by 0 (split line_feed text) file e)

  -- "a listing that is read and printed again is unchanged"
  pub read_is_listing : listing_of file ≡ text
  read_is_listing = ap listing_of (sym read.file_is) ∙ listing_is read.records read.are ∙ read.text_is

  -- What is read is bytes.
  pub read_bytes : Bytes file
  read_bytes = subst Bytes read.file_is (records_bytes read.records read.are)

-- ---- What is printed

-- "File to listing to file gives the same bytes"
pub listing_back : (file : List ℕ) (s : Seen) → Bytes file → check_of file ≡ accepted s → bytes_of (listing_of file) ≡ spelled file
listing_back file s all ok =
    let cut : Cut file 0 = accepted_records file all s ok in
    rw (← cut.file_is) (rw (listing_is cut.records cut.are) (reading_is cut.records cut.are))
