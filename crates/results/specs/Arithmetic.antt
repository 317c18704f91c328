-- Results on words and on pairs of words: each family of instructions as document 01's table of kinds has it, in its order.
-- A kind that is none of a family's has the result 0, which no program asks for.
-- Assumes nothing.
use Rattle.std.specs.Prelude.{ℕ, ◌+◌, ◌-◌, ◌*◌, ◌/◌, ◌%◌, ◌^◌, cond, not, List, [], ◌∷◌, ltb, leb, eqb, get_or}
use Rattle.std.specs.Int.Bits.{bit_and, bit_or, bit_xor}
use Rattle.words.specs.Word.{add, mul, neg, umad, umulhi, imulhi, iabs, ssg, udiv, urem, sdiv, srem, flag, slt, smin, smax, umin, umax, ucmp, shl, ushr, ishr, compl, popc, lsb, umsb, imsb, brev, ubfe, ibfe, bfi}
use Rattle.format.specs.Kinds.{within}

-- ---- on words, component by component

-- Kinds 10 to 1A.
abbrev pub unaries : ℕ → List ℕ
unaries a =
    a  -- MOV
    ∷ compl 32 a  -- NOT
    ∷ neg 32 a  -- INEG
    ∷ iabs 32 a  -- IABS
    ∷ ssg 32 a  -- ISSG
    ∷ brev 32 a  -- BREV
    ∷ popc 32 a  -- POPC
    ∷ lsb 32 a  -- LSB
    ∷ imsb 32 a  -- IMSB
    ∷ umsb 32 a  -- UMSB
    ∷ a  -- UARL
    ∷ []

-- Kinds 20 to 37.
abbrev pub binaries : ℕ → ℕ → List ℕ
binaries a b =
    add 32 a b  -- UADD
    ∷ mul 32 a b  -- UMUL
    ∷ imulhi 32 a b  -- IMUL_HI
    ∷ umulhi 32 a b  -- UMUL_HI
    ∷ sdiv 32 a b  -- IDIV
    ∷ udiv 32 a b  -- UDIV
    ∷ srem 32 a b  -- MOD
    ∷ urem 32 a b  -- UMOD
    ∷ bit_and a b  -- AND
    ∷ bit_or a b  -- OR
    ∷ bit_xor a b  -- XOR
    ∷ smin 32 a b  -- IMIN
    ∷ smax 32 a b  -- IMAX
    ∷ umin a b  -- UMIN
    ∷ umax a b  -- UMAX
    ∷ shl 32 a b  -- SHL
    ∷ ishr 32 a b  -- ISHR
    ∷ ushr 32 a b  -- USHR
    ∷ flag 32 (slt 32 a b)  -- ISLT
    ∷ flag 32 (ltb a b)  -- USLT
    ∷ flag 32 (not (slt 32 a b))  -- ISGE
    ∷ flag 32 (leb b a)  -- USGE
    ∷ flag 32 (eqb a b)  -- USEQ
    ∷ flag 32 (not (eqb a b))  -- USNE
    ∷ []

-- Kinds 60 to 63.
abbrev pub ternaries : ℕ → ℕ → ℕ → List ℕ
ternaries a b c =
    umad 32 a b c  -- UMAD
    ∷ ucmp a b c  -- UCMP
    ∷ ibfe 32 a b c  -- IBFE
    ∷ ubfe 32 a b c  -- UBFE
    ∷ []

-- Kinds 56 to 5F: what is stored, by the old word and src1.x. STORE, kind 58, is apart.
abbrev pub atomics : ℕ → ℕ → List ℕ
atomics old b =
    smin 32 old b  -- ATOMIMIN
    ∷ smax 32 old b  -- ATOMIMAX
    ∷ old
    ∷ add 32 old b  -- ATOMUADD
    ∷ b  -- ATOMXCHG
    ∷ bit_and old b  -- ATOMAND
    ∷ bit_or old b  -- ATOMOR
    ∷ bit_xor old b  -- ATOMXOR
    ∷ umin old b  -- ATOMUMIN
    ∷ umax old b  -- ATOMUMAX
    ∷ []

unfoldable pub unary : ℕ → ℕ → ℕ
unary k a = get_or (unaries a) (k - 0x10) 0

unfoldable pub binary : ℕ → ℕ → ℕ → ℕ
binary k a b = get_or (binaries a b) (k - 0x20) 0

unfoldable pub ternary : ℕ → ℕ → ℕ → ℕ → ℕ
ternary k a b c = get_or (ternaries a b c) (k - 0x60) 0

unfoldable pub atomic : ℕ → ℕ → ℕ → ℕ
atomic k old b = cond (within 0x56 0x5F k) (get_or (atomics old b) (k - 0x56) 0) 0

-- All kinds whose result is made word by word, from one component of each source. BFI, kind 70: base, insert, offset, bits.
unfoldable pub result_word : ℕ → ℕ → ℕ → ℕ → ℕ → ℕ
result_word k a b c d =
    cond (within 0x10 0x1A k) (unary k a)
    (cond (within 0x20 0x37 k) (binary k a b)
    (cond (within 0x60 0x63 k) (ternary k a b c)
    (cond (eqb k 0x70) (bfi 32 a b c d) 0)))

-- ---- on pairs of words

-- Kinds 1B to 1D.
abbrev pub wide_unaries : ℕ → List ℕ
wide_unaries a =
    iabs 64 a  -- I64ABS
    ∷ neg 64 a  -- I64NEG
    ∷ ssg 64 a  -- I64SSG
    ∷ []

-- Kinds 40 to 52. "64-bit ones in x and z" (01, Instruction corners): a comparison gives the lower word.
abbrev pub wides : ℕ → ℕ → List ℕ
wides a b =
    add 64 a b  -- U64ADD
    ∷ mul 64 a b  -- U64MUL
    ∷ udiv 64 a b  -- U64DIV
    ∷ urem 64 a b  -- U64MOD
    ∷ sdiv 64 a b  -- I64DIV
    ∷ srem 64 a b  -- I64MOD
    ∷ umin a b  -- U64MIN
    ∷ umax a b  -- U64MAX
    ∷ smin 64 a b  -- I64MIN
    ∷ smax 64 a b  -- I64MAX
    ∷ shl 64 a b  -- U64SHL
    ∷ ishr 64 a b  -- I64SHR
    ∷ ushr 64 a b  -- U64SHR
    ∷ flag 32 (eqb a b)  -- U64SEQ
    ∷ flag 32 (not (eqb a b))  -- U64SNE
    ∷ flag 32 (ltb a b)  -- U64SLT
    ∷ flag 32 (leb b a)  -- U64SGE
    ∷ flag 32 (slt 64 a b)  -- I64SLT
    ∷ flag 32 (not (slt 64 a b))  -- I64SGE
    ∷ []

unfoldable pub wide_unary : ℕ → ℕ → ℕ
wide_unary k a = cond (within 0x1B 0x1D k) (get_or (wide_unaries a) (k - 0x1B) 0) 0

unfoldable pub wide : ℕ → ℕ → ℕ → ℕ
wide k a b = cond (within 0x40 0x52 k) (get_or (wides a b) (k - 0x40) 0) 0

-- "64-bit values: x low, y high; z low, w high." (01, Instruction corners)
abbrev pub pair : ℕ → ℕ → ℕ
pair low high = low + high * 2 ^ 32

unfoldable pub halves : ℕ → ℕ → List ℕ
halves xy zw = xy % 2 ^ 32 ∷ xy / 2 ^ 32 ∷ zw % 2 ^ 32 ∷ zw / 2 ^ 32 ∷ []

-- "Shift counts: .. 64-bit low 6 bits, from src1.x for xy and src1.y for zw." (01, Instruction corners)
unfoldable pub count_or : ℕ → ℕ → ℕ → ℕ
count_or k count value = cond (within 0x4A 0x4C k) count value

unfoldable pub wide_unary_of : ℕ → List ℕ → List ℕ
wide_unary_of k a = halves (wide_unary k (pair (get_or a 0 0) (get_or a 1 0))) (wide_unary k (pair (get_or a 2 0) (get_or a 3 0)))

unfoldable pub wide_of : ℕ → List ℕ → List ℕ → List ℕ
wide_of k a b =
    halves
    (wide k (pair (get_or a 0 0) (get_or a 1 0)) (count_or k (get_or b 0 0) (pair (get_or b 0 0) (get_or b 1 0))))
    (wide k (pair (get_or a 2 0) (get_or a 3 0)) (count_or k (get_or b 1 0) (pair (get_or b 2 0) (get_or b 3 0))))
