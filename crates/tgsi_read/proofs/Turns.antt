-- A turn: a piece of a listing in a buffer is read, and what is due of it is due of the whole listing.
-- Assumes nothing.
use mathlib.Core.Path.{◌≡◌, refl, sym, ap, ◌∙◌}
use mathlib.Core.Logic.{◌⊎◌, ⊎_elim}
use mathlib.Core.List.{List, [], ◌++◌, append_assoc}
use Prim.Native.Nat.{ℕ, ◌+◌, ◌-◌, ◌^◌, ◌≤◌, ◌<◌}
use native.Mathlib.Omega.{arith}
use lib.ListN.{length, take, drop, length-drop}
use lib.Seq.{sets, sets-eq, take_at, length-take-le}
use Rattle.std.specs.Prelude.{Result, Ok, Err}
use Rattle.text.specs.Output.{refusal, written}
use Rattle.listing.specs.Pieces.{piece_of}
use Rattle.listing.specs.declared.pieces.Piece.{Piece}
use Rattle.listing.specs.Calls.{read_of}
use Rattle.listing.proofs.InPieces.{malformed_within, lines_within, Reached, reached_next, told_malformed, told_unended, told_too_long, nothing_by}
use Rattle.tgsi_read.specs.Inner.Turns.{turn_of}
use Rattle.format.specs.Refusals.{number_of}
use Rattle.format.specs.declared.refusals.Refused.{Refused}

module _ (text : List ℕ) (count : ℕ) (within : count ≤ length text) where
  pub piece_counted : count ≡ length (take count text)
  piece_counted = sym (length-take-le count text within)

  module _ (r : Piece) (e : r ≡ piece_of (take count text)) where
    pub malformed_fits : (at place : ℕ) → r ≡ Piece.Malformed at → place + count ≤ 18446744073709551615 → place + at < 2 ^ 64
    malformed_fits at place is h = omega (arith, h, malformed_within (take count text) at (sym e ∙ is), piece_counted)

    module _ (n : ℕ) (is : r ≡ Piece.Lines n) where
      pub passed_within : n ≤ count
      passed_within = omega (arith, lines_within (take count text) n (sym e ∙ is), piece_counted)

      -- What follows the lines stands at the front of the piece, and what follows the piece where it stood.
      pub rest_kept : (after left : List ℕ) → after ≡ sets (take count text) 0 (drop n (take count text))
          → take (count - n) (after ++ left) ≡ drop n (take count text)
      rest_kept after left ea =
          let rest : List ℕ = drop n (take count text) in
          let size : length rest ≡ count - n = omega (arith, length-drop n (take count text), piece_counted) in
          let there : after ≡ rest ++ drop (0 + length rest) (take count text) =
          ea ∙ sets-eq rest (take count text) 0 (omega (arith, size, piece_counted)) in
          rw (there, append_assoc rest (drop (0 + length rest) (take count text)) left)
          (take_at rest (drop (0 + length rest) (take count text) ++ left) (count - n) size)

-- ---- A turn and the whole listing: the piece is reached, and r is the answer

module _ (text piece rest : List ℕ) (place : ℕ) (so : Reached text piece rest place) (r : Result ℕ (Refused ℕ)) (e : r ≡ turn_of place (piece_of piece)) where
  -- Bytes are passed: with what is kept of the piece, and more, the listing is reached as many bytes further.
  pub turn_next : (n : ℕ) → r ≡ Ok n → (kept more left : List ℕ) → kept ≡ drop n piece → rest ≡ more ++ left
      → Reached text (kept ++ more) left (place + n)
  turn_next n passed kept more left ek er = by (piece_of piece) refl (sym e ∙ passed) where
    by : (f : Piece) → piece_of piece ≡ f → turn_of place f ≡ Ok n → Reached text (kept ++ more) left (place + n)
    by (Piece.Malformed at) is clash = absurd cc
    by Piece.Nothing is clash = absurd cc
    by Piece.Unended is clash = absurd cc
    by (Piece.Lines m) is same =
        let those : m ≡ n = cc in
        rw ek (reached_next text piece rest place so n more left (is ∙ ap Piece.Lines those) er)

  -- A refusal is due: it is what reading the whole listing answers, if the piece fills its buffer or the listing ends with it.
  module _ (enough : (rest ≡ []) ⊎ (511 < length piece)) (long : 262144 < length text) (output : List ℕ) where
    pub turn_told : (due : Refused ℕ) → r ≡ Err due → read_of text output ≡ written (refusal (number_of due.refusal) due.place) output
    turn_told due refused = by (piece_of piece) refl (sym e ∙ refused) where
      at_due : (t : Result ℕ (Refused ℕ)) (d : Refused ℕ) → t ≡ Err d → t ≡ Err due → read_of text output ≡ written (refusal (number_of d.refusal) d.place) output
          → read_of text output ≡ written (refusal (number_of due.refusal) due.place) output
      at_due t d is same told = let those : d ≡ due = cc in told ∙ ap (λ (x : Refused ℕ). written (refusal (number_of x.refusal) x.place) output) those

      by : (f : Piece) → piece_of piece ≡ f → turn_of place f ≡ Err due → read_of text output ≡ written (refusal (number_of due.refusal) due.place) output
      by (Piece.Malformed at) is same = at_due _ _ refl same (told_malformed text piece rest place so at is output)
      by Piece.Unended is same = at_due _ _ refl same (told_unended text piece rest place so is enough output)
      by (Piece.Lines n) is clash = absurd cc
      by Piece.Nothing is same =
          let last : rest ≡ [] = ⊎_elim (λ none. none) (λ full. absurd (omega (arith, full, ap length (nothing_by piece is)))) enough in
          at_due _ _ refl same (told_too_long text piece rest place so is last long output)
