-- A long text read in pieces: what they tell, one after another, is what reading the whole text answers.
-- Assumes nothing.
use mathlib.Core.Path.{◌≡◌, refl, sym, ap, ◌∙◌}
use mathlib.Core.Logic.{◌⊎◌, ⊎_elim}
use mathlib.Core.Bool.{Bool, true, false, cond}
use mathlib.Core.List.{List, [], ◌∷◌, ◌++◌, append-nil, append_assoc}
use Prim.Native.Nat.{ℕ, ◌+◌, ◌*◌, ◌<◌, ◌≤◌}
use native.Mathlib.Omega.{arith}
use lib.Dec.{eqb}
use lib.ListN.{length, take, drop, length-append, take-append-drop}
use lib.Seq.{take_at}
use borrow.Author.Tests.{lt-ltb, eqb-true, eqb-false}
use Rattle.format.specs.Records.{longest}
use Rattle.format.specs.Refusals.{too_long, malformed_line}
use Rattle.checker.specs.Check.{refused, check_of}
use Rattle.text.specs.Output.{refusal, written}
use Rattle.text.specs.Parts.{line_feed, ended_length}
use Rattle.text.proofs.Ends.{Last, ended}
use Rattle.listing.specs.Reading.{Reading, spelled, malformed, joined, bytes_of}
use Rattle.listing.specs.Calls.{read_of}
use Rattle.listing.specs.Pieces.{piece_as, piece_of}
use Rattle.listing.specs.declared.pieces.Piece.{Piece}
use Rattle.listing.proofs.WholeRecords.{joined_none, joined_join}
use Rattle.listing.proofs.ListingLength.{listing_length}
use Rattle.listing.proofs.RoundTrip.{read_is_listing, read_bytes}
use Rattle.listing.proofs.Fronts.{no_bytes, lines_inside, lines_counted}
use Rattle.listing.proofs.Apart.{moved, moved_join, after_lines, not_malformed, malformed_stays, no_line_feed, malformed_inside}

-- ---- A piece: the bytes that are at hand of a text, and the rest of it; its lines end at n

none_malformed : {A : Type 0} {at : ℕ} → bytes_of [] ≡ malformed at → A
none_malformed e = not_malformed (sym no_bytes ∙ e)

module _ (piece rest : List ℕ) (n : ℕ) (e : n ≡ ended_length line_feed piece) where
  module _ (last : Last line_feed piece) where
    lines_are : take n piece ≡ last.front ++ (line_feed ∷ [])
    lines_are =
        let size : length (last.front ++ (line_feed ∷ [])) ≡ n = omega (arith, e, last.ends, length-append last.front (line_feed ∷ [])) in
        ap (take n) (last.text_is ∙ sym (append_assoc last.front (line_feed ∷ []) last.rest))
        ∙ take_at (last.front ++ (line_feed ∷ [])) last.rest n size

    text_is : piece ++ rest ≡ last.front ++ (line_feed ∷ (last.rest ++ rest))
    text_is = ap (λ (b : List ℕ). b ++ rest) last.text_is ∙ append_assoc last.front (line_feed ∷ last.rest) rest

  -- The first malformed line of the piece is that of the text.
  piece_stays : (at : ℕ) → bytes_of (take n piece) ≡ malformed at → bytes_of (piece ++ rest) ≡ malformed at
  piece_stays at found =
      ⊎_elim
      (λ none. let z : n ≡ 0 = e ∙ none.1 in none_malformed (rw z at found))
      (λ last. rw (text_is last) (malformed_stays last.front (last.rest ++ rest) at (rw (lines_are last) at found)))
      (ended line_feed piece)

  -- Where none is malformed the text goes on n bytes further, with what the piece has after them.
  piece_passed : (file : List ℕ) → bytes_of (take n piece) ≡ spelled file → bytes_of (piece ++ rest) ≡ joined file (moved n (bytes_of (drop n piece ++ rest)))
  piece_passed file good =
      let size : length (take n piece) ≡ n = sym (lines_counted piece n e) in
      let whole : take n piece ++ (drop n piece ++ rest) ≡ piece ++ rest =
      sym (append_assoc (take n piece) (drop n piece) rest) ∙ ap (λ (b : List ℕ). b ++ rest) (take-append-drop n piece) in
      rw (size, whole) at (after_lines (take n piece) (drop n piece ++ rest) file good)

  -- No line ends in a piece that is all of the text, or longer than a well-formed line.
  piece_no_line : n ≡ 0 → 0 < length piece → (rest ≡ []) ⊎ (511 < length piece) → bytes_of (piece ++ rest) ≡ malformed 0
  piece_no_line z some enough =
      ⊎_elim (λ none. no_line_feed piece rest none.0 some enough) (λ last. absurd (omega (arith, z, e, last.ends))) (ended line_feed piece)

-- ---- What a piece tells

abbrev tag_of : Piece → ℕ
tag_of (Piece.Malformed at) = 0
tag_of Piece.Nothing = 1
tag_of Piece.Unended = 2
tag_of (Piece.Lines n) = 3

other : {A : Type 0} (f g : Piece) → (tag_of f ≡ tag_of g → ⊥) → f ≡ g → A
other f g differ e = absurd (differ (ap tag_of e))

-- The place that it tells.
abbrev place_in : Piece → ℕ
place_in (Piece.Malformed at) = at
place_in Piece.Nothing = 0
place_in Piece.Unended = 0
place_in (Piece.Lines n) = n

empty : (l : List ℕ) → length l ≡ 0 → l ≡ []
empty [] e = refl
empty (b ∷ l) e = absurd (omega (arith, e))

module _ (piece : List ℕ) where
  abbrev end : ℕ
  end = ended_length line_feed piece

  -- It tells of lines that end at n.
  record Passed (n : ℕ) : Type 0 where
    file : List ℕ
    good : bytes_of (take end piece) ≡ spelled file
    ends : n ≡ end

  passed_by : (n : ℕ) → piece_of piece ≡ Piece.Lines n → Passed n
  unfolding piece_of
  passed_by n is = by (bytes_of (take end piece)) refl is where
    on : (file : List ℕ) (a b : Bool) → bytes_of (take end piece) ≡ spelled file
        → cond a (cond b Piece.Nothing Piece.Unended) (Piece.Lines end) ≡ Piece.Lines n → Passed n
    on file true true e r = other _ _ (λ z. omega (arith, z)) r
    on file true false e r = other _ _ (λ z. omega (arith, z)) r
    on file false b e r = record { file = file; good = e; ends = ap place_in (sym r) }

    by : (x : Reading) → bytes_of (take end piece) ≡ x → piece_as piece end x ≡ Piece.Lines n → Passed n
    by (malformed at) e r = other _ _ (λ z. omega (arith, z)) r
    by (spelled file) e r = on file (eqb end 0) (eqb (length piece) 0) e r

  pub lines_within : (n : ℕ) → piece_of piece ≡ Piece.Lines n → n ≤ length piece
  lines_within n is = rw (passed_by n is).ends (lines_inside piece end refl)

  -- It tells of a malformed line.
  malformed_by : (rest : List ℕ) (at : ℕ) → piece_of piece ≡ Piece.Malformed at → bytes_of (piece ++ rest) ≡ malformed at
  unfolding piece_of
  malformed_by rest at is = by (bytes_of (take end piece)) refl is where
    on : {A : Type 0} (a b : Bool) → cond a (cond b Piece.Nothing Piece.Unended) (Piece.Lines end) ≡ Piece.Malformed at → A
    on true true r = other _ _ (λ z. omega (arith, z)) r
    on true false r = other _ _ (λ z. omega (arith, z)) r
    on false b r = other _ _ (λ z. omega (arith, z)) r

    by : (x : Reading) → bytes_of (take end piece) ≡ x → piece_as piece end x ≡ Piece.Malformed at → bytes_of (piece ++ rest) ≡ malformed at
    by (malformed p) e r = piece_stays piece rest end refl at (e ∙ ap malformed (ap place_in r))
    by (spelled file) e r = on (eqb end 0) (eqb (length piece) 0) r

  -- It tells that it has bytes and no line ends in them.
  unended_by : (rest : List ℕ) → piece_of piece ≡ Piece.Unended → (rest ≡ []) ⊎ (511 < length piece) → bytes_of (piece ++ rest) ≡ malformed 0
  unfolding piece_of
  unended_by rest is enough = by (bytes_of (take end piece)) is where
    on : (a b : Bool) → eqb end 0 ≡ a → eqb (length piece) 0 ≡ b → cond a (cond b Piece.Nothing Piece.Unended) (Piece.Lines end) ≡ Piece.Unended
        → bytes_of (piece ++ rest) ≡ malformed 0
    on true true p q r = other _ _ (λ z. omega (arith, z)) r
    on true false p q r = piece_no_line piece rest end refl (eqb-true end 0 p) (omega (arith, eqb-false (length piece) 0 q)) enough
    on false b p q r = other _ _ (λ z. omega (arith, z)) r

    by : (x : Reading) → piece_as piece end x ≡ Piece.Unended → bytes_of (piece ++ rest) ≡ malformed 0
    by (malformed p) r = other _ _ (λ z. omega (arith, z)) r
    by (spelled file) r = on (eqb end 0) (eqb (length piece) 0) refl refl r

  -- It tells that it has no bytes.
  pub nothing_by : piece_of piece ≡ Piece.Nothing → piece ≡ []
  unfolding piece_of
  nothing_by is = by (bytes_of (take end piece)) is where
    on : (a b : Bool) → eqb (length piece) 0 ≡ b → cond a (cond b Piece.Nothing Piece.Unended) (Piece.Lines end) ≡ Piece.Nothing → piece ≡ []
    on true true q r = empty piece (eqb-true (length piece) 0 q)
    on true false q r = other _ _ (λ z. omega (arith, z)) r
    on false b q r = other _ _ (λ z. omega (arith, z)) r

    by : (x : Reading) → piece_as piece end x ≡ Piece.Nothing → piece ≡ []
    by (malformed p) r = other _ _ (λ z. omega (arith, z)) r
    by (spelled file) r = on (eqb end 0) (eqb (length piece) 0) refl r

  -- The malformed line starts within it.
  pub malformed_within : (at : ℕ) → piece_of piece ≡ Piece.Malformed at → at ≤ length piece
  malformed_within at is =
      let here : bytes_of (piece ++ []) ≡ malformed at = malformed_by [] at is in
      malformed_inside piece at (rw (append-nil piece) at here)

-- ---- A listing that is longer than any accepted one

module _ (text file : List ℕ) (e : bytes_of text ≡ spelled file) (long : 262144 < length text) where
  -- "1: file over 65,536 bytes": a listing has at most four times as many as its file.
  too_long_is : check_of file ≡ refused too_long 0
  unfolding check_of
  too_long_is =
      let most : length text ≤ 4 * length file = rw (read_is_listing text file e) at (listing_length file (read_bytes text file e)) in
      rw (lt-ltb longest (length file) (omega arith))

  -- The call answers that, and writes nothing.
  too_long_told : (output : List ℕ) → read_of text output ≡ written (refusal too_long 0) output
  unfolding read_of
  too_long_told output = rw (e, too_long_is)

-- ---- Piece by piece

-- What a text comes to is what a piece and the rest come to, counted on from a place, after the bytes of a file.
pub record Reached (text piece rest : List ℕ) (place : ℕ) : Type 0 where
  pub file : List ℕ
  pub so_far : bytes_of text ≡ joined file (moved place (bytes_of (piece ++ rest)))

moved_none : (x : Reading) → moved 0 x ≡ x
moved_none (spelled file) = refl
moved_none (malformed at) = ap malformed (omega arith)

moved_on : (a b : ℕ) (x : Reading) → moved a (moved b x) ≡ moved (a + b) x
moved_on a b (spelled file) = refl
moved_on a b (malformed at) = ap malformed (omega arith)

pub reached_start : (piece rest : List ℕ) → Reached (piece ++ rest) piece rest 0
reached_start piece rest =
    record { file = []; so_far = sym (joined_none (moved 0 (bytes_of (piece ++ rest))) ∙ moved_none (bytes_of (piece ++ rest))) }

module _ (text piece rest : List ℕ) (place : ℕ) (so : Reached text piece rest place) where
  -- Lines are passed, what follows them is kept, and more is read.
  pub reached_next : (n : ℕ) (more left : List ℕ) → piece_of piece ≡ Piece.Lines n → rest ≡ more ++ left → Reached text (drop n piece ++ more) left (place + n)
  reached_next n more left is er =
      let p : Passed piece n = passed_by piece n is in
      let x : Reading = bytes_of (drop n piece ++ rest) in
      let good : bytes_of (take n piece) ≡ spelled p.file = ap (λ (k : ℕ). bytes_of (take k piece)) p.ends ∙ p.good in
      let here : bytes_of (piece ++ rest) ≡ joined p.file (moved n x) = piece_passed piece rest n p.ends p.file good in
      let goes : drop n piece ++ rest ≡ (drop n piece ++ more) ++ left = rw er (sym (append_assoc (drop n piece) more left)) in
      record {
        file = so.file ++ p.file;
        so_far =
            so.so_far
            ∙ ap (λ (y : Reading). joined so.file (moved place y)) here
            ∙ ap (joined so.file) (sym (moved_join place p.file (moved n x)) ∙ ap (joined p.file) (moved_on place n x))
            ∙ joined_join so.file p.file (moved (place + n) x)
            ∙ ap (λ (t : List ℕ). joined (so.file ++ p.file) (moved (place + n) (bytes_of t))) goes;
      }

  -- A malformed line that a piece tells is that of the whole text.
  pub told_malformed : (at : ℕ) → piece_of piece ≡ Piece.Malformed at → (output : List ℕ) → read_of text output ≡ written (refusal malformed_line (place + at)) output
  unfolding read_of
  told_malformed at is output = rw (so.so_far, malformed_by piece rest at is)

  -- Bytes in which no line ends begin a malformed one, if the text ends with them or a well-formed line has not as many.
  pub told_unended : piece_of piece ≡ Piece.Unended → (rest ≡ []) ⊎ (511 < length piece)
      → (output : List ℕ) → read_of text output ≡ written (refusal malformed_line place) output
  unfolding read_of
  told_unended is enough output =
      let here : place + 0 ≡ place = omega arith in
      rw (so.so_far, unended_by piece rest is enough, here)

  -- Nothing is left of a text that is longer than any listing.
  pub told_too_long : piece_of piece ≡ Piece.Nothing → rest ≡ [] → 262144 < length text → (output : List ℕ) → read_of text output ≡ written (refusal too_long 0) output
  told_too_long is er long output =
      too_long_told text (so.file ++ [])
      (so.so_far ∙ rw (nothing_by piece is, er, no_bytes))
      long output
