-- The block reading: a program is read as nested lists. No address and nothing of the table is in it.
-- Assumes nothing.
use Rattle.std.specs.Prelude.{ℕ, zero, suc, Bool, cond, eqb}
use Rattle.blocks.specs.Control.{Op, PLAIN, ELSE, ENDIF, BGNLOOP, ENDLOOP, BRK, CONT, DEFAULT, ENDSWITCH, END, UIF, SWITCH, CASE, Machine, op_at, case_of, default_at}
use Rattle.blocks.specs.Lists.{Items, nil, one, uif, loop, switch}

-- "A list stops by running out, by BRK, by CONT, by END or by the budget." (01, Blocks)
-- With the count of instructions carried out and the state; the number that `halted` has first is the next instruction's.
pub data Reading (S : Type 0) : Type 0 where
  out brk cont ended : ℕ → S → Reading S
  halted : ℕ → ℕ → S → Reading S

module _ {S : Type 0} where
  -- "END ends the whole reading, the budget halts it. When the list of a UIF or SWITCH runs out or is not read at all, the
  -- reading goes on after the whole block" and "A UIF hands BRK and CONT to the list around it": `rest` is read after a part
  -- that ran out.
  abbrev pub next : Reading S → (ℕ → S → Reading S) → Reading S
  next (out c s) rest = rest c s
  next (brk c s) rest = brk c s
  next (cont c s) rest = cont c s
  next (ended c s) rest = ended c s
  next (halted n c s) rest = halted n c s

  -- "On BRK, a loop or SWITCH is left and the reading goes on after it." A SWITCH hands on "only CONT".
  abbrev pub leave : Reading S → Reading S
  leave (out c s) = out c s
  leave (brk c s) = out c s
  leave (cont c s) = cont c s
  leave (ended c s) = ended c s
  leave (halted n c s) = halted n c s

  -- "When a loop's list runs out, the loop starts it anew"; "On CONT, a loop starts its list anew."
  abbrev pub round : Reading S → (ℕ → S → Reading S) → Reading S
  round (out c s) again = again c s
  round (brk c s) again = out c s
  round (cont c s) again = again c s
  round (ended c s) again = ended c s
  round (halted n c s) again = halted n c s

module _ {S : Type 0} (M : Machine S) (budget : ℕ) where
  -- "Before each instruction, if the count has reached the budget, it halts and names that instruction as the next by its
  -- number in file order. Otherwise the instruction adds one to the count and has its result".
  abbrev pub charged : ℕ → (ℕ → S → Reading S) → ℕ → S → Reading S
  charged n result c s = cond (eqb c budget) (halted n) (λ c s. result (suc c) s) c s

  -- How a list stops or goes on after an instruction that opens no block, from the state that it leaves.
  abbrev pub single : Op → ℕ → S → Reading S
  single BRK c s = brk c s
  single CONT c s = cont c s
  single END c s = ended c s
  single PLAIN c s = out c s
  single ELSE c s = out c s
  single ENDIF c s = out c s
  single BGNLOOP c s = out c s
  single ENDLOOP c s = out c s
  single DEFAULT c s = out c s
  single ENDSWITCH c s = out c s
  single UIF c s = out c s
  single SWITCH c s = out c s
  single CASE c s = out c s

  unfoldable mutual
    -- A list is read from count c and state s; `rounds` reads a loop's list.
    -- "A UIF reads its second part if its x is 0, else its first. A loop reads its list again and again. A SWITCH reads its
    -- list from just past the CASE equal to its x, else past DEFAULT, else not at all."
    pub read : Items → (Items → ℕ → S → Reading S) → ℕ → S → Reading S
    read nil rounds c s = out c s
    read (one n rest) rounds c s =
        charged n (λ c s. next (single (op_at M n) c (M.effect n s)) (read rest rounds)) c s
    read (uif n p q rest) rounds c s =
        charged n (λ c s. next (cond (eqb (M.test n s) 0) (read q rounds) (read p rounds) c (M.effect n s)) (read rest rounds)) c s
    read (loop n l rest) rounds c s = charged n (λ c s. next (rounds l c (M.effect n s)) (read rest rounds)) c s
    read (switch n l rest) rounds c s =
        charged n
        (λ c s. next
        (leave (past l rounds (case_of (op_at M) M.value (M.test n s)) (λ c s. past l rounds (default_at (op_at M)) out c s) c (M.effect n s)))
        (read rest rounds))
        c
        s

    -- A list is read from just past its first own label that `fits`; where it has none, `other` stands for the reading.
    pub past : Items → (Items → ℕ → S → Reading S) → (ℕ → Bool) → (ℕ → S → Reading S) → ℕ → S → Reading S
    past nil rounds fits other c s = other c s
    past (one n rest) rounds fits other c s = cond (fits n) (λ c s. read rest rounds c s) (past rest rounds fits other) c s
    past (uif n p q rest) rounds fits other c s = past rest rounds fits other c s
    past (loop n l rest) rounds fits other c s = past rest rounds fits other c s
    past (switch n l rest) rounds fits other c s = past rest rounds fits other c s

  -- A loop's list, read again and again. The first number bounds the rounds and only makes the definition total: a round
  -- counts one instruction at least, so as many rounds as the budget are never used up. The law `run_is_reading_by` has any
  -- bound from the budget up, so the bound is of no matter.
  unfoldable pub rounds : ℕ → Items → ℕ → S → Reading S
  rounds zero l c s = out c s
  rounds (suc f) l c s = round (read l (rounds f) c s) (rounds f l)

  -- "It starts at the outermost list's first instruction with registers 0 and count 0." (The state is the caller's.)
  unfoldable pub reading : Items → S → Reading S
  reading l s = read l (rounds budget) 0 s
