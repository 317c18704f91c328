-- The control instructions, and what is known of the others: a program over a state that is left open.
-- Assumes nothing.
use Rattle.std.specs.Prelude.{ℕ, Bool, cond, ◌&&◌, ◌||◌, eqb}

-- Every kind that does not steer, NOP too, is PLAIN.
pub data Op : Type 0 where
  PLAIN ELSE ENDIF BGNLOOP ENDLOOP BRK CONT DEFAULT ENDSWITCH END UIF SWITCH CASE : Op

-- "80-89: NOP ELSE ENDIF BGNLOOP ENDLOOP BRK CONT DEFAULT ENDSWITCH END; 90-92: UIF SWITCH CASE" (01, The program file)
abbrev pub kind_of : Op → ℕ
kind_of PLAIN = 0x80
kind_of ELSE = 0x81
kind_of ENDIF = 0x82
kind_of BGNLOOP = 0x83
kind_of ENDLOOP = 0x84
kind_of BRK = 0x85
kind_of CONT = 0x86
kind_of DEFAULT = 0x87
kind_of ENDSWITCH = 0x88
kind_of END = 0x89
kind_of UIF = 0x90
kind_of SWITCH = 0x91
kind_of CASE = 0x92

unfoldable pub op_of : ℕ → Op
op_of k =
    cond (eqb k 0x81) ELSE
    (cond (eqb k 0x82) ENDIF
    (cond (eqb k 0x83) BGNLOOP
    (cond (eqb k 0x84) ENDLOOP
    (cond (eqb k 0x85) BRK
    (cond (eqb k 0x86) CONT
    (cond (eqb k 0x87) DEFAULT
    (cond (eqb k 0x88) ENDSWITCH
    (cond (eqb k 0x89) END
    (cond (eqb k 0x90) UIF
    (cond (eqb k 0x91) SWITCH
    (cond (eqb k 0x92) CASE PLAIN)))))))))))

-- Whether two are the same.
abbrev pub is : Op → Op → Bool
is o p = eqb (kind_of o) (kind_of p)

-- The labels of a SWITCH.
abbrev pub is_label : Op → Bool
is_label o = is CASE o || is DEFAULT o

-- The marks that are the last instruction of their list.
abbrev pub closes : Op → Bool
closes o = is ELSE o || is ENDIF o || is ENDLOOP o || is ENDSWITCH o || is END o

-- A program over states S. Of instruction n: its kind byte, its effect, the x that a UIF or a SWITCH
-- looks at, and the word of a CASE.
pub record Machine (S : Type 0) : Type 0 where
  pub kind : ℕ → ℕ
  pub effect : ℕ → S → S
  pub test : ℕ → S → ℕ
  pub value : ℕ → ℕ

abbrev pub op_at : {S : Type 0} → Machine S → ℕ → Op
op_at M n = op_of (M.kind n)

module _ (op : ℕ → Op) where
  -- Whether instruction n is a CASE of the word x, by the words of the CASEs, and whether it is DEFAULT.
  abbrev pub case_of : (ℕ → ℕ) → ℕ → ℕ → Bool
  case_of value x n = is CASE (op n) && eqb (value n) x

  abbrev pub default_at : ℕ → Bool
  default_at n = is DEFAULT (op n)
