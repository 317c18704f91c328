-- A text and what follows it: lines that are well formed are read apart, a malformed one stays the first, and so does a line that is too
-- long or has no line feed.
-- Assumes nothing.
use mathlib.Core.Path.{◌≡◌, refl, sym, ap, ◌∙◌}
use mathlib.Core.Logic.{◌⊎◌, ⊎_elim}
use mathlib.Core.Bool.{Bool, true, false, cond}
use mathlib.Core.List.{List, [], ◌∷◌, ◌++◌, append-nil}
use Prim.Native.Nat.{ℕ, ◌+◌, ◌*◌, ◌<◌, ◌≤◌}
use native.Mathlib.Omega.{arith}
use lib.Dec.{ltb}
use lib.ListN.{length, take, drop, length-append}
use borrow.Author.Tests.{ltb-true, ltb-false}
use Rattle.format.specs.Records.{size_at}
use Rattle.text.specs.Parts.{line_feed, split, first}
use Rattle.text.proofs.Lines.{Without, joined_by, split_joined, split_some, split_between}
use Rattle.text.proofs.Splitting.{first_without, split_within, split_length, split_first, split_last}
use Rattle.lines.specs.Lines.{record_line}
use Rattle.spelling.specs.Spelling.{line_record, well_formed}
use Rattle.spelling.proofs.Records.{record_short}
use Rattle.listing.specs.Reading.{Reading, spelled, malformed, joined, read_lines, bytes_of}
use Rattle.listing.proofs.WholeRecords.{Record, size_first, read_line, read_on}
use Rattle.listing.proofs.WellFormed.{record_line_is, record_is}
use Rattle.listing.proofs.ListingLength.{line_length}
use Rattle.listing.proofs.RoundTrip.{Read, read, not_spelled}

-- ---- After lines that are well formed

-- What a text comes to where n more bytes stand before it.
abbrev pub moved : ℕ → Reading → Reading
moved n (spelled file) = spelled file
moved n (malformed at) = malformed (n + at)

pub moved_join : (n : ℕ) (r : List ℕ) (x : Reading) → joined r (moved n x) ≡ moved n (joined r x)
moved_join n r (spelled file) = refl
moved_join n r (malformed at) = refl

read_moved : (n at : ℕ) (ps : List (List ℕ)) → read_lines (n + at) ps ≡ moved n (read_lines at ps)
unfolding read_lines
read_moved n at [] = refl
read_moved n at ([] ∷ []) = refl
read_moved n at ((b ∷ l) ∷ []) = refl
read_moved n at (l ∷ m ∷ ls) = by (well_formed l) (read_moved n (at + length l + 1) (m ∷ ls)) where
  by : (t : Bool) → read_lines (n + (at + length l + 1)) (m ∷ ls) ≡ moved n (read_lines (at + length l + 1) (m ∷ ls))
      → cond t (joined (line_record l) (read_lines (n + at + length l + 1) (m ∷ ls))) (malformed (n + at))
      ≡ moved n (cond t (joined (line_record l) (read_lines (at + length l + 1) (m ∷ ls))) (malformed at))
  by true e =
      let sum : n + at + length l + 1 ≡ n + (at + length l + 1) = omega arith in
      rw (sum, e) (moved_join n (line_record l) (read_lines (at + length l + 1) (m ∷ ls)))
  by false e = refl

-- Lines that are well formed can be read apart from what follows them, whose places count on.
pub after_lines : (front rest file : List ℕ) → bytes_of front ≡ spelled file → bytes_of (front ++ rest) ≡ joined file (moved (length front) (bytes_of rest))
unfolding bytes_of
after_lines front rest file e =
    let f : Read front file = read front file e in
    let place : 0 + length front ≡ length front + 0 = omega arith in
    rw (f.file_is, f.text_is, place, read_moved (length front) 0 (split line_feed rest)) at (read_on 0 f.records rest f.are)

-- ---- A malformed line

pub not_malformed : {A : Type 0} {at : ℕ} {file : List ℕ} → spelled file ≡ malformed at → A
not_malformed e = not_spelled (sym e)

inside : (r : List ℕ) (p : ℕ) (x : Reading) → joined r x ≡ malformed p → x ≡ malformed p
inside r p (spelled file) e = not_malformed e
inside r p (malformed q) e = e

some_after : (ps qs : List (List ℕ)) → (qs ≡ [] → ⊥) → ps ++ qs ≡ [] → ⊥
some_after [] qs some e = some e
some_after (p ∷ ps) qs some e = let z : ◌≡◌ {A = ℕ} 0 1 = cc in omega arith

read_stays : (at p : ℕ) (ps qs : List (List ℕ)) → (qs ≡ [] → ⊥) → read_lines at (ps ++ ([] ∷ [])) ≡ malformed p → read_lines at (ps ++ qs) ≡ malformed p
unfolding read_lines
read_stays at p [] qs some e = not_malformed e
read_stays at p (l ∷ ps) qs some e =
    read_line at l (ps ++ qs) (some_after ps qs some)
    ∙ by (well_formed l) (read_stays (at + length l + 1) p ps qs some) (sym (read_line at l (ps ++ ([] ∷ [])) (some_after ps ([] ∷ []) one)) ∙ e)
  where
    one : ◌≡◌ {A = List (List ℕ)} ([] ∷ []) [] → ⊥
    one z = let o : ◌≡◌ {A = ℕ} 0 1 = cc in omega arith

    by : (t : Bool) → (read_lines (at + length l + 1) (ps ++ ([] ∷ [])) ≡ malformed p → read_lines (at + length l + 1) (ps ++ qs) ≡ malformed p)
        → cond t (joined (line_record l) (read_lines (at + length l + 1) (ps ++ ([] ∷ [])))) (malformed at) ≡ malformed p
        → cond t (joined (line_record l) (read_lines (at + length l + 1) (ps ++ qs))) (malformed at) ≡ malformed p
    by true rest r = rw (rest (inside (line_record l) p (read_lines (at + length l + 1) (ps ++ ([] ∷ []))) r))
    by false rest r = r

-- A malformed line among whole lines is the first one of every text that goes on after them.
pub malformed_stays : (front rest : List ℕ) (at : ℕ) → bytes_of (front ++ (line_feed ∷ [])) ≡ malformed at → bytes_of (front ++ (line_feed ∷ rest)) ≡ malformed at
unfolding bytes_of split
malformed_stays front rest at e =
    rw (split_between line_feed front rest)
    (read_stays 0 at (split line_feed front) (split line_feed rest) (split_some line_feed rest) (rw (split_between line_feed front []) at e))

-- ---- A line that is too long, or has no line feed

-- A record has at most 128 bytes, and its line four times as many, the line feed among them.
line_short : (l : List ℕ) → well_formed l ≡ true → length l ≤ 511
line_short l good =
    let r : List ℕ = line_record l in
    let is : Record r = record_is l good in
    let size : size_at r 0 ≡ length r = rw (append-nil r) at (size_first r [] is) in
    let some : size_at r 0 ≡ 0 → ⊥ = λ z. omega (arith, z, size, is.whole) in
    let few : 1 + length (record_line r 0) ≤ 4 * size_at r 0 = line_length r is.bytes 0 some in
    omega (arith, few, size, record_short l, ap length (record_line_is l good))

unended_line : (l : List ℕ) → 0 < length l → read_lines 0 (l ∷ []) ≡ malformed 0
unfolding read_lines
unended_line [] some = absurd (omega arith)
unended_line (b ∷ l) some = refl

long_line : (l : List ℕ) (ps : List (List ℕ)) → (ps ≡ [] → ⊥) → 511 < length l → read_lines 0 (l ∷ ps) ≡ malformed 0
long_line l ps some long = read_line 0 l ps some ∙ by (well_formed l) refl where
  by : (t : Bool) → well_formed l ≡ t → cond t (joined (line_record l) (read_lines (0 + length l + 1) ps)) (malformed 0) ≡ malformed 0
  by true good = absurd (omega (arith, line_short l good))
  by false bad = refl

-- A first line of n bytes that has no line feed or is too long.
first_malformed : (text : List ℕ) (n : ℕ) → n ≡ length (first (split line_feed text)) → 0 < length text → (n < length text → 511 < n)
    → bytes_of text ≡ malformed 0
unfolding bytes_of
first_malformed text n e some long = by (ltb n (length text)) refl where
  by : (t : Bool) → ltb n (length text) ≡ t → read_lines 0 (split line_feed text) ≡ malformed 0
  by true t =
      let h : n < length text = ltb-true n (length text) t in
      let rest : List ℕ = drop (n + 1) text in
      rw (split_first line_feed text n e h)
      (long_line (take n text) (split line_feed rest) (split_some line_feed rest) (omega (arith, long h, split_length line_feed text n e)))
  by false t =
      let all : n ≡ length text = omega (arith, ltb-false n (length text) t, split_within line_feed text n e) in
      rw (split_last line_feed text n e all) (unended_line text some)

-- A text's front without a line feed, which is all of the text or longer than a well-formed line, begins a malformed one.
pub no_line_feed : (front rest : List ℕ) → Without line_feed front → 0 < length front → (rest ≡ []) ⊎ (511 < length front)
    → bytes_of (front ++ rest) ≡ malformed 0
no_line_feed front rest without some enough =
    let text : List ℕ = front ++ rest in
    let n : ℕ = length (first (split line_feed text)) in
    let both : length text ≡ length front + length rest = length-append front rest in
    let inside : length front ≤ n = first_without line_feed front rest without in
    first_malformed text n refl (omega (arith, some, both))
    (λ h. ⊎_elim (λ none. absurd (omega (arith, h, inside, both, ap length none))) (λ long. omega (arith, inside, long)) enough)

-- The place of a malformed line lies within the text.
malformed_place : (at p : ℕ) (ps : List (List ℕ)) → read_lines at ps ≡ malformed p → p ≤ at + length (joined_by line_feed ps)
unfolding read_lines
malformed_place at p [] e = not_malformed e
malformed_place at p ([] ∷ []) e = not_malformed e
malformed_place at p ((b ∷ l) ∷ []) e =
    let q : at ≡ p = cc in
    omega arith
malformed_place at p (l ∷ m ∷ ls) e = by (well_formed l) (malformed_place (at + length l + 1) p (m ∷ ls)) e where
  by : (t : Bool) → (read_lines (at + length l + 1) (m ∷ ls) ≡ malformed p → p ≤ at + length l + 1 + length (joined_by line_feed (m ∷ ls)))
      → cond t (joined (line_record l) (read_lines (at + length l + 1) (m ∷ ls))) (malformed at) ≡ malformed p
      → p ≤ at + length (l ++ (line_feed ∷ joined_by line_feed (m ∷ ls)))
  by true rest r =
      omega (arith, rest (inside (line_record l) p (read_lines (at + length l + 1) (m ∷ ls)) r), length-append l (line_feed ∷ joined_by line_feed (m ∷ ls)))
  by false rest r =
      let q : at ≡ p = cc in
      omega arith

pub malformed_inside : (text : List ℕ) (at : ℕ) → bytes_of text ≡ malformed at → at ≤ length text
unfolding bytes_of
malformed_inside text at e = omega (arith, malformed_place 0 at (split line_feed text) e, ap length (split_joined line_feed text))
