-- The register files by number, and where the words of registers stand (document 01, "Register files").
-- Assumes nothing.
use Rattle.std.specs.Prelude.{ℕ, cond, eqb}

-- "1 CONST 0-1023, 2 IN 0-31, 3 OUT 0-31, 4 TEMP 0-255, 5 ADDR 0, 6 IMM (.. not declared), 7 MEM 0."
abbrev pub CONST : ℕ
CONST = 1

abbrev pub IN : ℕ
IN = 2

abbrev pub OUT : ℕ
OUT = 3

abbrev pub TEMP : ℕ
TEMP = 4

abbrev pub ADDR : ℕ
ADDR = 5

abbrev pub IMM : ℕ
IMM = 6

abbrev pub MEM : ℕ
MEM = 7

-- How many registers of a file can be declared.
abbrev pub registers_of : ℕ → ℕ
registers_of f =
    cond (eqb f CONST) 1024
    (cond (eqb f IN) 32
    (cond (eqb f OUT) 32
    (cond (eqb f TEMP) 256
    (cond (eqb f ADDR) 1
    (cond (eqb f MEM) 1
    0)))))

-- "Four words a register: OUT i from word 4i, TEMP i from 128+4i, ADDR from 1152; 1,156 words."
abbrev pub temp_from : ℕ
temp_from = 128

abbrev pub addr_from : ℕ
addr_from = 1152

abbrev pub lent_registers : ℕ
lent_registers = 1156
