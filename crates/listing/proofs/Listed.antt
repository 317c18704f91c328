-- Printing: the lines that have been put and those that are left make the whole, at every turn.
-- Assumes nothing.
use mathlib.Core.Path.{◌≡◌, refl, sym, ap, ◌∙◌}
use mathlib.Core.List.{append_assoc, List, [], ◌∷◌, ◌++◌}
use Prim.Native.Nat.{ℕ, zero, suc, ◌+◌, ◌*◌, ◌≤◌}
use native.Mathlib.Omega.{arith}
use borrow.Author.Tests.{eq-eqb, ne_eqb}
use lib.ListN.{length, length-append}
use lib.Seq.{sets}
use Rattle.format.specs.Records.{size_at}
use Rattle.records.proofs.Walk.{size_fits}
use Rattle.text.specs.Parts.{line_feed}
use Rattle.text.proofs.Stores.{sets_append}
use Rattle.lines.specs.Lines.{record_line}
use Rattle.listing.specs.Listing.{lines_from, listing_of}

-- The lines from a place on are left, of at most k records.
pub record LinesLeft (file entry out : List ℕ) (at to : ℕ) : Type 0 where
  pub most : ℕ
  pub enough : length file ≤ at + most
  pub put : sets out to (lines_from most file at) ≡ sets entry 0 (listing_of file)
  pub counted : to + length (lines_from most file at) ≡ length (listing_of file)
  pub few : to ≤ 256 * at
  pub within : at ≤ length file

pub lines_start : (file entry : List ℕ) → LinesLeft file entry entry 0 0
unfolding listing_of
lines_start file entry =
    record { most = length file; enough = omega arith; put = refl; counted = omega arith; few = omega arith; within = omega arith }

module _ (file : List ℕ) (at size : ℕ) (e : size ≡ size_at file at) where
  more_lines : (k : ℕ) → (size ≡ 0 → ⊥) → length file ≤ at + k → at ≤ length file
      → (m : ℕ) × (k ≡ suc m) × (lines_from k file at ≡ record_line file at ++ (line_feed ∷ lines_from m file (at + size)))
  unfolding lines_from
  more_lines zero h f w = absurd (h (omega (arith, e, size_fits file at w)))
  more_lines (suc m) h f w = (m, refl, rw (ne_eqb (size_at file at) 0 (λ z. h (e ∙ z)), e))

  no_lines : (k : ℕ) → size ≡ 0 → lines_from k file at ≡ []
  unfolding lines_from
  no_lines zero z = refl
  no_lines (suc m) z = rw (eq-eqb (size_at file at) 0 (sym e ∙ z))

module _ (file entry out : List ℕ) (at to : ℕ) (s : LinesLeft file entry out at to) (size : ℕ) (e : size ≡ size_at file at) where
  pub lines_next : (n : ℕ) (after : List ℕ)
      → (size ≡ 0 → ⊥)
      → n ≡ length (record_line file at) + 1
      → n ≤ 231
      → after ≡ sets out to (record_line file at ++ (line_feed ∷ []))
      → LinesLeft file entry after (at + size) (to + n)
  lines_next n after h en few ea =
      let found = more_lines file at size e s.most h s.enough s.within in
      let m : ℕ = found.0 in
      let L : List ℕ = record_line file at ++ (line_feed ∷ []) in
      let T : List ℕ = lines_from m file (at + size) in
      let p : lines_from s.most file at ≡ L ++ T = found.2 ∙ sym (append_assoc (record_line file at) (line_feed ∷ []) T) in
      let long : n ≡ length L = en ∙ sym (length-append (record_line file at) (line_feed ∷ [])) in
      let q : sets after (to + n) T ≡ sets out to (L ++ T) = rw (ea, long) (sym (sets_append out to L T)) in
      let l : length (lines_from s.most file at) ≡ length L + length T = rw p (length-append L T) in
      record {
        most = m;
        enough = omega (arith, s.enough, found.1, h);
        put = q ∙ ap (λ (t : List ℕ). sets out to t) (sym p) ∙ s.put;
        counted = omega (arith, l, long, s.counted);
        few = omega (arith, s.few, few, h);
        within = omega (arith, e, size_fits file at s.within);
      }

  pub lines_put : size ≡ 0 → out ≡ sets entry 0 (listing_of file)
  lines_put z = rw (← s.put, no_lines file at size e s.most z)

  pub lines_length : size ≡ 0 → to ≡ length (listing_of file)
  lines_length z = omega (arith, s.counted, ap length (no_lines file at size e s.most z))
