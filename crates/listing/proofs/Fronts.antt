-- The lines that end in a piece: they lie within it, and of no bytes there are none.
-- Assumes nothing.
use mathlib.Core.Path.{◌≡◌, refl, sym}
use mathlib.Core.List.{List, []}
use Prim.Native.Nat.{ℕ, ◌≤◌}
use lib.ListN.{length, take}
use lib.Seq.{length-take-le}
use Rattle.text.specs.Parts.{line_feed, split, ended_length}
use Rattle.text.proofs.Ends.{ended_within}
use Rattle.listing.specs.Reading.{spelled, read_lines, bytes_of}

pub no_bytes : bytes_of [] ≡ spelled []
unfolding bytes_of split read_lines
no_bytes = refl

module _ (text : List ℕ) (n : ℕ) (e : n ≡ ended_length line_feed text) where
  pub lines_inside : n ≤ length text
  lines_inside = rw e (ended_within line_feed text)

  pub lines_counted : n ≡ length (take n text)
  lines_counted = sym (length-take-le n text lines_inside)
