-- Well nested lists, laid out from a number on.
-- Assumes nothing.
use mathlib.Core.Path.{◌≡◌}
use Prim.Native.Nat.{ℕ, suc, ◌+◌}
use native.Mathlib.Omega.{arith}
use mathlib.Core.Bool.{Bool, true, false, ◌||◌}
use Rattle.blocks.specs.Control.{Op, PLAIN, ELSE, ENDIF, BGNLOOP, ENDLOOP, BRK, CONT, DEFAULT, ENDSWITCH, END, UIF, SWITCH, CASE, is}
use Rattle.blocks.specs.Lists.{Items, nil, one, uif, loop, switch, size}

-- What closes a list.
pub data Close : Type 0 where
  at_else at_endif at_endloop at_endswitch at_end : Close

abbrev pub closing : Close → Op
closing at_else = ELSE
closing at_endif = ENDIF
closing at_endloop = ENDLOOP
closing at_endswitch = ENDSWITCH
closing at_end = END

-- Where a list stands: what closes it, and whether BRK and CONT may stand in it.
pub record Context : Type 0 where
  pub close : Close
  pub breaks : Bool
  pub continues : Bool

abbrev pub part_of : Context → Close → Context
part_of C z = record { close = z; breaks = C.breaks; continues = C.continues }

abbrev pub loop_body : Context
loop_body = record { close = at_endloop; breaks = true; continues = true }

abbrev pub switch_body : Context → Context
switch_body C = record { close = at_endswitch; breaks = true; continues = C.continues }

abbrev pub program : Context
program = record { close = at_end; breaks = false; continues = false }

-- Which instructions stand in a list before its last; `later` says whether a DEFAULT of the same list follows.
abbrev pub Fine : Op → Context → Bool → Type 0
Fine PLAIN C later = Unit {0}
Fine BRK C later = C.breaks ≡ true
Fine CONT C later = C.continues ≡ true
Fine CASE C later = Unit {0}
Fine DEFAULT C later = later ≡ false
Fine ELSE C later = ⊥
Fine ENDIF C later = ⊥
Fine BGNLOOP C later = ⊥
Fine ENDLOOP C later = ⊥
Fine ENDSWITCH C later = ⊥
Fine END C later = ⊥
Fine UIF C later = ⊥
Fine SWITCH C later = ⊥

module _ (op : ℕ → Op) where
  -- Whether the list has a DEFAULT of its own.
  abbrev pub has_default : Items → Bool
  has_default nil = false
  has_default (one n rest) = is DEFAULT (op n) || has_default rest
  has_default (uif n p q rest) = has_default rest
  has_default (loop n l rest) = has_default rest
  has_default (switch n l rest) = has_default rest

  -- `WF C l a`: the list l stands in C and is laid out from number a on.
  pub data WF : Context → Items → ℕ → Type 0 where
    w_one : {C : Context} {rest : Items} (n : ℕ)
        → Fine (op n) C (has_default rest)
        → WF C rest (suc n)
        → WF C (one n rest) n
    w_close : {C : Context} (n : ℕ) → op n ≡ closing C.close → WF C (one n nil) n
    w_uif : {C : Context} {p q rest : Items} (n : ℕ)
        → op n ≡ UIF
        → WF (part_of C at_else) p (suc n)
        → WF (part_of C at_endif) q (suc n + size p)
        → WF C rest (suc n + size p + size q)
        → WF C (uif n p q rest) n
    w_uif1 : {C : Context} {p rest : Items} (n : ℕ)
        → op n ≡ UIF
        → WF (part_of C at_endif) p (suc n)
        → WF C rest (suc n + size p)
        → WF C (uif n p nil rest) n
    w_loop : {C : Context} {l rest : Items} (n : ℕ)
        → op n ≡ BGNLOOP
        → WF loop_body l (suc n)
        → WF C rest (suc n + size l)
        → WF C (loop n l rest) n
    w_switch : {C : Context} {l rest : Items} (n : ℕ)
        → op n ≡ SWITCH
        → WF (switch_body C) l (suc n)
        → WF C rest (suc n + size l)
        → WF C (switch n l rest) n

  -- The last instruction, by its number, closes the list.
  pub last_closes : (C : Context) (l : Items) (a e : ℕ) → WF C l a → a + size l ≡ suc e → op e ≡ closing C.close
  last_closes C l a e (w_one n fine w) h = last_closes _ _ (suc n) e w (omega arith)
  last_closes C l a e (w_close n o) h =
      let m : e ≡ n = omega arith in
      rw m o
  last_closes C l a e (w_uif {p = p} {q = q} n o wp wq w) h = last_closes _ _ (suc n + size p + size q) e w (omega arith)
  last_closes C l a e (w_uif1 {p = p} n o wp w) h = last_closes _ _ (suc n + size p) e w (omega arith)
  last_closes C l a e (w_loop {l = body} n o wl w) h = last_closes _ _ (suc n + size body) e w (omega arith)
  last_closes C l a e (w_switch {l = body} n o wl w) h = last_closes _ _ (suc n + size body) e w (omega arith)
