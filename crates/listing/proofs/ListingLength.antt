-- A listing has at most four times as many bytes as the file: a field of w bytes takes at most 4w, its space or line feed among them.
-- Assumes nothing.
use mathlib.Core.Path.{◌≡◌, refl}
use mathlib.Core.Logic.{inl}
use mathlib.Core.Bool.{Bool, true, false, cond}
use mathlib.Core.List.{List, [], ◌∷◌, ◌++◌}
use Prim.Native.Nat.{ℕ, zero, suc, ◌+◌, ◌-◌, ◌*◌, ◌≤◌}
use native.Mathlib.Omega.{arith}
use lib.Dec.{eqb}
use lib.ListN.{length, get_or, length-append}
use borrow.Author.Tests.{eqb-false}
use Rattle.format.specs.Fields.{number_at, Bytes}
use Rattle.format.specs.Kinds.{form_of, widths}
use Rattle.format.specs.Records.{size_at}
use Rattle.format.proofs.Widths.{sum, widths_sum, widths_known}
use Rattle.records.proofs.Walk.{sized_whole}
use Rattle.text.specs.Parts.{line_feed, spaced}
use Rattle.lines.specs.Lines.{numbers_at, record_line}
use Rattle.listing.specs.Listing.{lines_from, listing_of}
use Rattle.listing.proofs.FieldBytes.{spaced_few}

module _ (file : List ℕ) (all : Bytes file) where
  module _ (at : ℕ) (some : size_at file at ≡ 0 → ⊥) where
    abbrev fields : List ℕ
    fields = widths (form_of (get_or file at 0))

    pub line_length : 1 + length (record_line file at) ≤ 4 * size_at file at
    unfolding record_line spaced numbers_at number_at
    line_length =
        let f = sized_whole file at some in
        let s : sum fields ≡ _ = widths_sum (get_or file at 0) f.known in
        omega (arith, spaced_few file all at (1 ∷ fields) (inl refl, widths_known (get_or file at 0)) (omega arith))

  lines_length : (n at : ℕ) → at ≤ length file → length (lines_from n file at) ≤ 4 * (length file - at)
  unfolding lines_from
  lines_length zero at h = omega arith
  lines_length (suc n) at h = by (eqb (size_at file at) 0) refl (λ l. lines_length n (at + size_at file at) l) where
    by : (b : Bool) → eqb (size_at file at) 0 ≡ b
        → (at + size_at file at ≤ length file → length (lines_from n file (at + size_at file at)) ≤ 4 * (length file - (at + size_at file at)))
        → length (cond b [] (record_line file at ++ (line_feed ∷ lines_from n file (at + size_at file at)))) ≤ 4 * (length file - at)
    by true e rest = omega arith
    by false e rest =
        let some = eqb-false (size_at file at) 0 e in
        let f = (sized_whole file at some).fits in
        let r = rest f in
        let l = line_length at some in
        simp length-append (omega arith)

  pub listing_length : length (listing_of file) ≤ 4 * length file
  unfolding listing_of
  listing_length = omega (arith, lines_length (length file) 0 (omega arith))
