-- A text that is read in pieces: what the bytes that are at hand tell of it.
-- Assumes nothing.
use Rattle.std.specs.Prelude.{ℕ, cond, List, eqb, length, take}
use Rattle.text.specs.Parts.{line_feed, ended_length}
use Rattle.listing.specs.Reading.{Reading, spelled, malformed, bytes_of}
use Rattle.listing.specs.declared.pieces.Piece.{Piece}

-- The lines that end in a piece end at n, and come to this. Where none ends, there are no bytes, or those of a line that may go on.
abbrev pub piece_as : List ℕ → ℕ → Reading → Piece
piece_as piece n (malformed at) = Piece.Malformed at
piece_as piece n (spelled file) = cond (eqb n 0) (cond (eqb (length piece) 0) Piece.Nothing Piece.Unended) (Piece.Lines n)

-- What follows the last line feed is not read.
unfoldable pub piece_of : List ℕ → Piece
piece_of piece = piece_as piece (ended_length line_feed piece) (bytes_of (take (ended_length line_feed piece) piece))
