-- What is due of a listing that is longer than any, once a piece of it is read.
-- Assumes nothing.
use Rattle.std.specs.Prelude.{ℕ, ◌+◌, Result, Ok, Err}
use Rattle.format.specs.declared.refusals.Refusal.TheVariants.{TooLong, MalformedLine}
use Rattle.format.specs.declared.refusals.Refused.{Refused}
use Rattle.listing.specs.declared.pieces.Piece.{Piece}

-- How many bytes are passed of a piece that starts at a place of the listing, or a refusal and its place. "30 malformed line
-- (.. place: its first byte), then the read program's own": where nothing is left, the file is too long.
abbrev pub turn_of : ℕ → Piece → Result ℕ (Refused ℕ)
turn_of place (Piece.Malformed at) = Err (record { refusal = MalformedLine; place = place + at })
turn_of place Piece.Nothing = Err (record { refusal = TooLong; place = 0 })
turn_of place Piece.Unended = Err (record { refusal = MalformedLine; place = place })
turn_of place (Piece.Lines n) = Ok n
