-- The effect of an instruction on registers and memory, by its kind.
-- Assumes nothing.
use Rattle.std.specs.Prelude.{ℕ, cond, List, [], eqb, get_or}
use Rattle.words.specs.Word.{cas}
use Rattle.format.specs.Kinds.{within}
use Rattle.format.specs.declared.fields.Destination.{Destination}
use Rattle.destinations.specs.Destinations.{State, components, written}
use Rattle.memory.specs.Memory.{loaded, stored, loaded_from, stored_from}
use Rattle.results.specs.Arithmetic.{atomic, wide_unary_of, wide_of}
use Rattle.componentwise.specs.Components.{source_word, result_words}

abbrev pub state : List ℕ → List ℕ → State
state r m = record { registers = r; memory = m }

-- ---- families of kinds

pub data Family : Type 0 where
  WORDS WIDE-UNARY LOAD WIDE STORE ATOMIC ATOMCAS NONE : Family

-- "10-1E MOV .. UARL I64ABS I64NEG I64SSG LOAD; 20-37 UADD .. USNE; 40-52 U64ADD .. I64SGE; 56-5F ATOMIMIN ATOMIMAX STORE
-- ATOMUADD .. ATOMUMAX; 60-64 UMAD UCMP IBFE UBFE ATOMCAS; 70 BFI" (01, The program file). No other kind has an effect.
unfoldable pub family_of : ℕ → Family
family_of k =
    cond (within 0x10 0x1A k) WORDS
    (cond (within 0x1B 0x1D k) WIDE-UNARY
    (cond (eqb k 0x1E) LOAD
    (cond (within 0x20 0x37 k) WORDS
    (cond (within 0x40 0x52 k) WIDE
    (cond (eqb k 0x58) STORE
    (cond (within 0x56 0x5F k) ATOMIC
    (cond (within 0x60 0x63 k) WORDS
    (cond (eqb k 0x64) ATOMCAS
    (cond (eqb k 0x70) WORDS NONE)))))))))

-- ---- effects

-- A result goes to the destination.
abbrev pub result : Destination → State → List ℕ → State
result d s v = state (written s.registers d v) s.memory

-- "Atomics act on the one word .., give the old word in every masked component; misaligned or outside, 0."
-- (01, Instruction corners) `new` gives what is stored, by the old word.
abbrev pub exchange : Destination → State → ℕ → (ℕ → ℕ) → State
exchange d s a new =
    state (written s.registers d (components (λ i. loaded s.memory a))) (stored s.memory a (new (loaded s.memory a)))

-- "Memory addresses are bytes, src0.x." "Atomics act on the one word with src1.x" "ATOMCAS stores src2.x if the old word equals
-- src1.x." (01, Instruction corners): component x of source j.
abbrev pub x_of : List (List ℕ) → ℕ → ℕ
x_of sources j = source_word sources j 0

abbrev pub effect_of : Family → ℕ → Destination → List (List ℕ) → State → State
effect_of WORDS k d o s = result d s (result_words k o)
effect_of WIDE-UNARY k d o s = result d s (wide_unary_of k (get_or o 0 []))
effect_of LOAD k d o s = result d s (loaded_from s.memory (x_of o 0))
effect_of WIDE k d o s = result d s (wide_of k (get_or o 0 []) (get_or o 1 []))
effect_of STORE k d o s = state s.registers (stored_from s.memory (x_of o 0) d.mask (get_or o 1 []))
effect_of ATOMIC k d o s = exchange d s (x_of o 0) (λ old. atomic k old (x_of o 1))
effect_of ATOMCAS k d o s = exchange d s (x_of o 0) (λ old. cas old (x_of o 1) (x_of o 2))
effect_of NONE k d o s = s
