-- Sets of registers, and the words that hold such a set, one bit a register.
-- Assumes nothing.
use Rattle.std.specs.Prelude.{ℕ, zero, suc, List, [], Bool, false, cond, ◌||◌, eqb}
use Rattle.words.specs.Word.{bit_in}
use Rattle.format.specs.Files.{CONST, IN, OUT, TEMP, ADDR, MEM}
use Rattle.format.specs.Kinds.{within}
use Rattle.registers.specs.declared.sets.Declared.{Declared}

-- A set of registers: whether register i of file f is a member.
abbrev pub Registers : Type 0
Registers = ℕ → ℕ → Bool

abbrev pub none : Registers
none f i = false

-- Numbers with those from first to last more.
abbrev pub with_all : (ℕ → Bool) → ℕ → ℕ → ℕ → Bool
with_all p first last j = within first last j || p j

-- The set with the registers of a file from first to last more.
abbrev pub with_range : Registers → ℕ → ℕ → ℕ → Registers
with_range s file first last f i = cond (eqb f file) (with_all (s f) first last i) (s f i)

-- Whether one of n numbers from first on is as asked.
abbrev pub any_of : (ℕ → Bool) → ℕ → ℕ → Bool
any_of asked first zero = false
any_of asked first (suc n) = asked first || any_of asked (suc first) n

-- "The checker keeps which registers of each file are declared, one bit each." (01, Register files)
abbrev pub words_of : Declared → ℕ → List ℕ
words_of d f =
    cond (eqb f CONST) d.consts
    (cond (eqb f IN) d.ins
    (cond (eqb f OUT) d.outs
    (cond (eqb f TEMP) d.temps
    (cond (eqb f ADDR) d.addr
    (cond (eqb f MEM) d.mem
    [])))))

-- The registers that the checker's words say are declared.
unfoldable pub is_in : Declared → Registers
is_in d f i = bit_in (words_of d f) i
