-- The run by the table: one step, and steps one after the other.
-- Assumes nothing.
use Rattle.std.specs.Prelude.{ℕ, zero, suc, cond, eqb, Option, Some, None}
use Rattle.blocks.specs.Control.{Op, PLAIN, ELSE, ENDIF, BGNLOOP, ENDLOOP, BRK, CONT, DEFAULT, ENDSWITCH, END, UIF, SWITCH, CASE, Machine, op_at, case_of, default_at}
use Rattle.blocks.specs.Reading.{Reading, ended, halted}
use Rattle.blocks.specs.Table.{Row}

-- A 1,025th instruction is refused with 6: no program has more.
abbrev pub most_instructions : ℕ
most_instructions = 1024

-- The number of the instruction that comes next after a step, none where the program ended, and the state that it leaves.
pub record Step (S : Type 0) : Type 0 where
  pub next : Option ℕ
  pub state : S

module _ {S : Type 0} where
  -- `onward` goes on from the instruction that comes next; where the program ended, c steps were carried out.
  abbrev pub follow : (ℕ → S → Reading S) → ℕ → Option ℕ → S → Reading S
  follow onward c (Some n) s = onward n s
  follow onward c None s = ended c s

-- What comes next goes by the control instructions, the words of the CASEs and the rows.
module _ (op : ℕ → Op) (value : ℕ → ℕ) (T : ℕ → Row) where
  -- "SWITCH goes after the CASE equal to its x, else after DEFAULT, else after ENDSWITCH." (01, Blocks)
  -- Along the labels from m: after the CASE of x, else to `other`, which is after the DEFAULT once that was met. At most `f`
  -- labels are looked at.
  unfoldable pub walk : ℕ → ℕ → ℕ → ℕ → ℕ
  walk zero x m other = other
  walk (suc f) x m other =
      cond (eqb m 0) other
      (cond (case_of op value x m) (suc m) (walk f x (T m).label (cond (default_at op m) (suc m) other)))

  -- "What comes next: UIF with x = 0 goes after its ELSE, or after ENDIF if none. ELSE, reached from above, goes after ENDIF.
  -- ENDLOOP and CONT go after BGNLOOP, CONT that of the innermost enclosing loop. BRK goes after the end of the innermost
  -- enclosing loop or SWITCH. SWITCH goes after the CASE equal to its x, else after DEFAULT, else after ENDSWITCH. A label
  -- reached from above does nothing. Others fall through." (01, Blocks) The row at n has these as numbers.
  abbrev pub comes_next : Op → ℕ → ℕ → Option ℕ
  comes_next UIF x n = Some (cond (eqb x 0) (T n).jump (suc n))
  comes_next ELSE x n = Some (T n).jump
  comes_next ENDLOOP x n = Some (T n).jump
  comes_next CONT x n = Some (T n).jump
  comes_next BRK x n = Some (T n).jump
  comes_next SWITCH x n = Some (walk most_instructions x (T n).label (T n).jump)
  comes_next END x n = None
  comes_next CASE x n = Some (suc n)
  comes_next DEFAULT x n = Some (suc n)
  comes_next PLAIN x n = Some (suc n)
  comes_next ENDIF x n = Some (suc n)
  comes_next BGNLOOP x n = Some (suc n)
  comes_next ENDSWITCH x n = Some (suc n)

module _ {S : Type 0} (M : Machine S) (T : ℕ → Row) where
  -- One step at instruction n.
  abbrev pub step : ℕ → S → Step S
  step n s = record {
    next = comes_next (op_at M) M.value T (op_at M n) (M.test n s) n;
    state = M.effect n s;
  }

  -- At most `left` steps from instruction n on, with c steps before. "With the budget spent before END, the result is a halt
  -- with the count and the next instruction's number." (01, Blocks)
  unfoldable pub run : ℕ → ℕ → ℕ → S → Reading S
  run zero c n s = halted n c s
  run (suc left) c n s = follow (run left (suc c)) (suc c) (step n s).next (step n s).state
