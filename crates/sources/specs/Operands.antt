-- Operands: what a source reads (01, "Register files", "Instruction corners").
-- Assumes nothing.
use Rattle.std.specs.Prelude.{ℕ, ◌+◌, ◌-◌, ◌*◌, ◌/◌, ◌%◌, ◌^◌, Bool, cond, List, [], ◌∷◌, ltb, eqb, get_or, ℤ, pos, negsuc, ◌+ℤ◌, Option, Some, None}
use Rattle.words.specs.Word.{neg, signed}
use Rattle.format.specs.Files.{CONST, IN, TEMP, IMM, temp_from, addr_from}
use Rattle.format.specs.Kinds.{form_of, sources, source_place}
use Rattle.format.specs.Fields.{source_at, negates, indirection}
use Rattle.format.specs.declared.fields.Source.{Source}
use Rattle.destinations.specs.Destinations.{components, zeros}

-- ---- what is lent to be read

-- Word k of the constants, of the inputs and of the immediates, 0 where there is none; `declared f i` says whether register i of
-- file f is declared.
pub record Env : Type 0 where
  pub constants : ℕ → ℕ
  pub inputs : ℕ → ℕ
  pub immediates : ℕ → ℕ
  pub declared : ℕ → ℕ → Bool

-- Word k of a list, 0 past its end.
abbrev pub word_in : List ℕ → ℕ → ℕ
word_in words k = get_or words k 0

abbrev pub env_with : (ℕ → ℕ → Bool) → List ℕ → List ℕ → List ℕ → Env
env_with declared immediates inputs constants =
    record {
      constants = word_in constants;
      inputs = word_in inputs;
      immediates = word_in immediates;
      declared = declared;
    }

-- ---- one source

-- "Four words a register" (01, Register files), from word `first` on.
abbrev pub four_from : (ℕ → ℕ) → ℕ → List ℕ
four_from word first = components (λ i. word (first + i))

-- "Sources CONST, IN, TEMP, IMM": the words of register n of such a file. "TEMP i from 128+4i" (01, Register files)
-- No accepted source names another (checker's law `Accepted.source_file`).
unfoldable pub register_words : Env → List ℕ → ℕ → ℕ → List ℕ
register_words e r f n =
    cond (eqb f CONST) (four_from e.constants (4 * n))
    (cond (eqb f IN) (four_from e.inputs (4 * n))
    (cond (eqb f TEMP) (four_from (word_in r) (temp_from + 4 * n))
    (cond (eqb f IMM) (four_from e.immediates (4 * n)) zeros)))

-- "An indirect index is index plus ADDR as a signed number; a negative or undeclared sum reads 0." (01, Instruction corners)
-- "indirect 0 for none or 1 to 4 for ADDR[0].x to .w" (01, The program file); "ADDR from 1152"
abbrev pub if_declared : (ℕ → ℕ → Bool) → ℕ → ℤ → Option ℕ
if_declared declared f (pos n) = cond (declared f n) (Some n) None
if_declared declared f (negsuc n) = None

-- The number of the register that a source names, if it names one.
unfoldable pub register_of : (ℕ → ℕ → Bool) → List ℕ → Source → Option ℕ
register_of declared r s =
    cond (eqb (indirection s) 0) (Some s.index)
    (if_declared declared s.file (pos s.index +ℤ signed 32 (word_in r (addr_from - 1 + indirection s))))

-- "swizzle 1 (two bits per component, x lowest)" (01, The program file): component i is taken from this one.
abbrev pub selected : ℕ → ℕ → ℕ
selected swizzle i = swizzle / 2 ^ (2 * i) % 4

-- "Negate is two's complement." (01, Instruction corners)
abbrev pub negated : Source → ℕ → ℕ
negated s w = cond (negates s) (neg 32 w) w

-- What a source takes of a register's words.
unfoldable pub taken : List ℕ → Source → List ℕ
taken words s = components (λ i. negated s (word_in words (selected s.swizzle i)))

abbrev pub taken_at : Env → List ℕ → Source → Option ℕ → List ℕ
taken_at e r s (Some n) = taken (register_words e r s.file n) s
taken_at e r s None = zeros

-- What a source reads.
unfoldable pub source_of : Env → List ℕ → Source → List ℕ
source_of e r s = taken_at e r s (register_of e.declared r s)

-- ---- the sources of a record

-- The bytes of an instruction's record, kind first: byte 0 is its kind.
abbrev pub kind_byte : List ℕ → ℕ
kind_byte bytes = get_or bytes 0 0

-- What source i reads; one that the kind does not have is 0.
unfoldable pub nth_source : Env → List ℕ → List ℕ → ℕ → List ℕ
nth_source e r bytes i =
    cond (ltb i (sources (form_of (kind_byte bytes)))) (source_of e r (source_at bytes (source_place (kind_byte bytes) i)))
    zeros

-- "All sources are read before any write" (01, Instruction corners)
unfoldable pub sources_of : Env → List ℕ → List ℕ → List (List ℕ)
sources_of e r bytes = nth_source e r bytes 0 ∷ nth_source e r bytes 1 ∷ nth_source e r bytes 2 ∷ nth_source e r bytes 3 ∷ []
