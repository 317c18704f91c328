-- Whole records one after another: the listing of such a file is their lines, and these lines give the file back.
-- Assumes nothing.
use mathlib.Core.Path.{◌≡◌, refl, sym, ap, ◌∙◌}
use mathlib.Core.Logic.{inl}
use mathlib.Core.Bool.{Bool, true, false, cond}
use mathlib.Core.List.{List, [], ◌∷◌, ◌++◌, append-nil, append_assoc}
use Prim.Native.Nat.{ℕ, zero, suc, ◌+◌, ◌-◌, ◌≤◌, ◌<◌}
use native.Mathlib.Omega.{arith}
use native.Mathlib.Nat.{add_assoc, add-zero, mod-eq_of_lt}
use lib.Dec.{ltb}
use lib.ListN.{length, get_or, length-append, get_or-append}
use lib.Seq.{get_or-append-add, take-length}
use borrow.Author.Tests.{ltb-true, ltb-false, lt-ltb, le-ltb, ne_eqb}
use Rattle.format.specs.Fields.{number_at, Bytes}
use Rattle.format.specs.Kinds.{form_of, length_of, widths}
use Rattle.format.specs.Records.{size_at}
use Rattle.format.proofs.Widths.{sum, widths_sum, widths_known}
use Rattle.format.proofs.Numbers.{bytes_none, bytes_append}
use Rattle.records.proofs.Walk.{size_whole}
use Rattle.text.specs.Parts.{line_feed, line, split}
use Rattle.text.proofs.Each.{Each}
use Rattle.text.proofs.Lines.{Without, line_values, no_feed, split_ended, split_some}
use Rattle.text.proofs.Sameness.{same_self}
use Rattle.lines.specs.Lines.{numbers_at, record_line}
use Rattle.listing.specs.Listing.{lines_from, listing_of}
use Rattle.spelling.specs.Spelling.{numbers_in, kind_in, line_record, is_line_of, well_formed}
use Rattle.listing.specs.Reading.{Reading, spelled, malformed, joined, read_lines, bytes_of}
use Rattle.listing.proofs.FieldBytes.{numbers_after, numbers_before, fields_back}

-- "A record is one byte of kind, then a body whose length the kind fixes." (01, The program file)
pub record Record (r : List ℕ) : Type 0 where
  pub bytes : Bytes r
  pub known : length_of (get_or r 0 0) < 255
  pub whole : length r ≡ 1 + length_of (get_or r 0 0)

abbrev pub Records : List (List ℕ) → Type 0
Records rs = Each Record rs

abbrev pub file_of : List (List ℕ) → List ℕ
file_of [] = []
file_of (r ∷ rs) = r ++ file_of rs

pub records_bytes : (rs : List (List ℕ)) → Records rs → Bytes (file_of rs)
records_bytes [] are = bytes_none
records_bytes (r ∷ rs) are = bytes_append r (file_of rs) are.0.bytes (records_bytes rs are.1)

-- "One line per record .., a line feed after each."
abbrev pub lines_of : List (List ℕ) → List ℕ
lines_of [] = []
lines_of (r ∷ rs) = record_line r 0 ++ (line_feed ∷ lines_of rs)

-- ---- What follows a record r

ltb_add : (a q l : ℕ) → ltb (a + q) (a + l) ≡ ltb q l
ltb_add a q l = by (ltb q l) refl where
  by : (t : Bool) → ltb q l ≡ t → ltb (a + q) (a + l) ≡ t
  by true e = let h = ltb-true q l e in lt-ltb (a + q) (a + l) (omega arith)
  by false e = let h = ltb-false q l e in le-ltb (a + q) (a + l) (omega arith)

module _ (r rest : List ℕ) where
  size_after : (q : ℕ) → size_at (r ++ rest) (length r + q) ≡ size_at rest q
  unfolding size_at
  size_after q =
      let l : length r + length rest - (length r + q) ≡ length rest - q = omega arith in
      rw (get_or-append-add r rest q 0, length-append r rest, ltb_add (length r) q (length rest), l)

  line_after : (q : ℕ) → record_line (r ++ rest) (length r + q) ≡ record_line rest q
  unfolding record_line
  line_after q =
      rw (get_or-append-add r rest q 0, add_assoc (length r) q 1)
      (ap (line (get_or rest q 0)) (numbers_after r rest (q + 1) (widths (form_of (get_or rest q 0))) (widths_known (get_or rest q 0))))

  lines_after : (n q : ℕ) → lines_from n (r ++ rest) (length r + q) ≡ lines_from n rest q
  unfolding lines_from
  lines_after zero q = refl
  lines_after (suc n) q = rw (size_after q, line_after q, add_assoc (length r) q (size_at rest q), lines_after n (q + size_at rest q))

  -- ---- The record itself

  module _ (is : Record r) where
    kind_first : get_or (r ++ rest) 0 0 ≡ get_or r 0 0
    kind_first = get_or-append r rest 0 0 (omega (arith, is.whole))

    pub size_first : size_at (r ++ rest) 0 ≡ length r
    size_first =
        let k = is.known in
        let w = is.whole in
        let l = length-append r rest in
        sym (size_whole (r ++ rest) 0 (length_of (get_or r 0 0)) (rw kind_first) (omega arith) k (omega arith)) ∙ omega arith

    line_first : record_line (r ++ rest) 0 ≡ record_line r 0
    unfolding record_line
    line_first =
        let fits : 1 + sum (widths (form_of (get_or r 0 0))) ≤ length r = omega (arith, is.whole, widths_sum (get_or r 0 0) is.known) in
        rw kind_first
        (ap (line (get_or r 0 0)) (numbers_before r rest 1 (widths (form_of (get_or r 0 0))) (widths_known (get_or r 0 0)) fits))

    lines_step : (n : ℕ) → lines_from (suc n) (r ++ rest) 0 ≡ record_line r 0 ++ (line_feed ∷ lines_from n rest 0)
    unfolding lines_from
    lines_step n =
        let some : length r ≡ 0 → ⊥ = λ z. omega (arith, is.whole) in
        let place : 0 + length r ≡ length r + 0 = omega arith in
        rw (size_first, ne_eqb (length r) 0 some, line_first, place, lines_after n 0)

-- ---- The listing of whole records

lines_within : (n : ℕ) (rs : List (List ℕ)) → Records rs → length (file_of rs) ≤ n → lines_from n (file_of rs) 0 ≡ lines_of rs
unfolding lines_from size_at
lines_within zero [] are h = refl
lines_within (suc n) [] are h = refl
lines_within zero (r ∷ rs) are h = absurd (omega (arith, are.0.whole, length-append r (file_of rs)))
lines_within (suc n) (r ∷ rs) are h =
    lines_step r (file_of rs) are.0 n
    ∙ ap (λ (text : List ℕ). record_line r 0 ++ (line_feed ∷ text))
    (lines_within n rs are.1 (omega (arith, are.0.whole, length-append r (file_of rs))))

pub listing_is : (rs : List (List ℕ)) → Records rs → listing_of (file_of rs) ≡ lines_of rs
unfolding listing_of
listing_is rs are = lines_within (length (file_of rs)) rs are (omega arith)

-- ---- The line of a record gives the record back

module _ (r : List ℕ) (is : Record r) where
  abbrev kind : ℕ
  kind = get_or r 0 0

  abbrev fields : List ℕ
  fields = widths (form_of kind)

  is_byte : kind < 256
  is_byte = is.bytes 0 (omega (arith, is.whole))

  numbers_in_is : numbers_in (record_line r 0) ≡ numbers_at r 0 (1 ∷ fields)
  unfolding record_line numbers_at number_at
  numbers_in_is = line_values kind (numbers_at r 1 fields)

  kind_in_is : kind_in (record_line r 0) ≡ kind
  unfolding kind_in numbers_at number_at
  kind_in_is = rw numbers_in_is (mod-eq_of_lt is_byte)

  pub line_record_is : line_record (record_line r 0) ≡ r
  unfolding line_record
  line_record_is =
      let size : 1 + sum fields ≡ length r = omega (arith, is.whole, widths_sum kind is.known) in
      rw (kind_in_is, numbers_in_is, fields_back r is.bytes 0 (1 ∷ fields) (inl refl, widths_known kind) (omega arith), size) (take-length r)

  pub line_is : is_line_of r (record_line r 0) ≡ true
  unfolding is_line_of
  line_is = rw (lt-ltb (length_of kind) 255 is.known) (same_self (record_line r 0))

-- ---- Reading the lines of records

-- A line that has its line feed.
pub read_line : (at : ℕ) (l : List ℕ) (ps : List (List ℕ)) → (ps ≡ [] → ⊥)
    → read_lines at (l ∷ ps) ≡ cond (well_formed l) (joined (line_record l) (read_lines (at + length l + 1) ps)) (malformed at)
unfolding read_lines
read_line at l [] some = absurd (some refl)
read_line at l (m ∷ ls) some = refl

pub joined_none : (x : Reading) → joined [] x ≡ x
joined_none (spelled file) = refl
joined_none (malformed at) = refl

pub joined_join : (a b : List ℕ) (x : Reading) → joined a (joined b x) ≡ joined (a ++ b) x
joined_join a b (spelled file) = rw (append_assoc a b file)
joined_join a b (malformed at) = refl

module _ (r : List ℕ) (is : Record r) where
  read_record : (at : ℕ) (ps : List (List ℕ)) → (ps ≡ [] → ⊥)
      → read_lines at (record_line r 0 ∷ ps) ≡ joined r (read_lines (at + length (record_line r 0) + 1) ps)
  read_record at ps some = read_line at (record_line r 0) ps some ∙ rw (line_record_is r is, line_is r is)

  line_no_feed : Without line_feed (record_line r 0)
  unfolding record_line
  line_no_feed = no_feed _ _

-- The records come before what the text after their lines gives.
pub read_on : (at : ℕ) (rs : List (List ℕ)) (rest : List ℕ) → Records rs
    → read_lines at (split line_feed (lines_of rs ++ rest)) ≡ joined (file_of rs) (read_lines (at + length (lines_of rs)) (split line_feed rest))
read_on at [] rest are = rw (add-zero at) (sym (joined_none (read_lines at (split line_feed rest))))
read_on at (r ∷ rs) rest are =
    let text : List ℕ = lines_of rs ++ rest in
    let next : ℕ = at + length (record_line r 0) + 1 in
    let place : next + length (lines_of rs) ≡ at + length (lines_of (r ∷ rs)) = omega (arith, length-append (record_line r 0) (line_feed ∷ lines_of rs)) in
    rw (
      append_assoc (record_line r 0) (line_feed ∷ lines_of rs) rest,
      split_ended line_feed (record_line r 0) text (line_no_feed r are.0),
      read_record r are.0 at (split line_feed text) (split_some line_feed text),
      read_on next rs rest are.1,
      place,
    )
    (joined_join r (file_of rs) (read_lines (at + length (lines_of (r ∷ rs))) (split line_feed rest)))

pub reading_is : (rs : List (List ℕ)) → Records rs → bytes_of (lines_of rs) ≡ spelled (file_of rs)
unfolding bytes_of read_lines split
reading_is rs are = rw (append-nil (lines_of rs), append-nil (file_of rs)) at (read_on 0 rs [] are)
