-- Numbers and operands at a place p of the file. "Numbers are little-endian."
-- Assumes nothing.
use Rattle.std.specs.Prelude.{ℕ, zero, suc, ◌+◌, ◌*◌, ◌/◌, ◌%◌, ◌<◌, Bool, cond, not, List, [], ◌∷◌, eqb, length, get_or}
use Rattle.format.specs.declared.fields.Destination.{Destination}
use Rattle.format.specs.declared.fields.Source.{Source}
use Rattle.format.specs.declared.fields.Declaration.{Declaration}

unfoldable pub word16 : List ℕ → ℕ → ℕ
word16 file p = get_or file p 0 + 256 * get_or file (p + 1) 0

unfoldable pub word32 : List ℕ → ℕ → ℕ
word32 file p = get_or file p 0 + 256 * get_or file (p + 1) 0 + 65536 * get_or file (p + 2) 0 + 16777216 * get_or file (p + 3) 0

-- The number of a field that has so many bytes: 1, 2 or 4.
unfoldable pub number_at : List ℕ → ℕ → ℕ → ℕ
number_at file p width = cond (eqb width 1) (get_or file p 0) (cond (eqb width 2) (word16 file p) (word32 file p))

-- The lowest bytes of a number, so many of them, the lowest first.
unfoldable pub little_endian : ℕ → ℕ → List ℕ
little_endian zero n = []
little_endian (suc width) n = n % 256 ∷ little_endian width (n / 256)

-- A list of bytes, as every file is that is lent.
abbrev pub Bytes : List ℕ → Type 0
Bytes file = (i : ℕ) → i < length file → get_or file i 0 < 256

-- "Destination: file 1, index 2, mask 1 (bit 0 is x)."
unfoldable pub destination_at : List ℕ → ℕ → Destination
destination_at file p =
    record { file = get_or file p 0; index = word16 file (p + 1); mask = get_or file (p + 3) 0 }

-- "Source: file 1, index 2, swizzle 1 (two bits per component, x lowest), modifier 1"
unfoldable pub source_at : List ℕ → ℕ → Source
source_at file p =
    record {
      file = get_or file p 0;
      index = word16 file (p + 1);
      swizzle = get_or file (p + 3) 0;
      modifier = get_or file (p + 4) 0;
    }

-- "modifier 1: negate + 2·indirect, indirect 0 for none or 1 to 4 for ADDR[0].x to .w"
abbrev pub negates : Source → Bool
negates s = eqb (s.modifier % 2) 1

abbrev pub indirection : Source → ℕ
indirection s = s.modifier / 2

abbrev pub is_indirect : Source → Bool
is_indirect s = not (eqb (indirection s) 0)

-- "declaration: file 1, first 2, last 2"
unfoldable pub declaration_at : List ℕ → ℕ → Declaration
declaration_at file p =
    record { file = get_or file p 0; first = word16 file (p + 1); last = word16 file (p + 3) }

-- Which of the immediates' words a CASE record at place p names: "CASE compares the component its swizzle's x selects", of the
-- immediate its index names.
abbrev pub case_at : List ℕ → ℕ → ℕ
case_at file p = 4 * word16 file (p + 2) + get_or file (p + 4) 0 % 4

unfoldable pub case_word : List ℕ → List ℕ → ℕ → ℕ
case_word immediates file p = get_or immediates (case_at file p) 0
