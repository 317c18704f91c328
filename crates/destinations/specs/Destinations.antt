-- Destinations: what an instruction changes, and where a result is written (01, "Register files", "Instruction corners").
-- Assumes nothing.
use Rattle.std.specs.Prelude.{ℕ, ◌+◌, ◌*◌, cond, List, [], ◌∷◌, eqb, get_or, set}
use Rattle.words.specs.Word.{is_set}
use Rattle.format.specs.Files.{OUT, TEMP, temp_from, addr_from}
use Rattle.format.specs.declared.fields.Destination.{Destination}

-- What an instruction changes.
pub record State : Type 0 where
  pub registers : List ℕ
  pub memory : List ℕ

-- The four components x, y, z, w, of which component i is f i.
unfoldable pub components : (ℕ → ℕ) → List ℕ
components f = f 0 ∷ f 1 ∷ f 2 ∷ f 3 ∷ []

-- Four components of 0.
abbrev pub zeros : List ℕ
zeros = 0 ∷ 0 ∷ 0 ∷ 0 ∷ []

-- "mask 1 (bit 0 is x)" (01, The program file); "unmasked components stay" (01, Instruction corners): `put i` for each
-- component i in the mask.
unfoldable pub if_masked : ℕ → ℕ → (ℕ → List ℕ → List ℕ) → List ℕ → List ℕ
if_masked mask i put l = cond (is_set mask i) (put i l) l

unfoldable pub masked : ℕ → (ℕ → List ℕ → List ℕ) → List ℕ → List ℕ
masked mask put l = if_masked mask 3 put (if_masked mask 2 put (if_masked mask 1 put (if_masked mask 0 put l)))

-- "OUT i from word 4i, TEMP i from 128+4i, ADDR from 1152" (01, Register files). "Destination OUT or TEMP; UARL only ADDR": what is
-- neither OUT nor TEMP is ADDR (checker's law `Accepted.destination_register`).
unfoldable pub first_word : Destination → ℕ
first_word d = cond (eqb d.file OUT) (4 * d.index) (cond (eqb d.file TEMP) (temp_from + 4 * d.index) addr_from)

-- Word i of a result goes to its place in the register whose words begin at `first`.
abbrev pub placed : ℕ → List ℕ → ℕ → List ℕ → List ℕ
placed first v i r = set r (first + i) (get_or v i 0)

-- The registers after a result of four words.
abbrev pub written : List ℕ → Destination → List ℕ → List ℕ
written r d v = masked d.mask (placed (first_word d) v) r
