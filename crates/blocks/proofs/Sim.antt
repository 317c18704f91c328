-- The run by the table is the block reading. The idea: the run from a list's first instruction is the run that goes on from
-- where the reading of the list stopped, list by list; a loop's rounds are a second induction, on their bound.
-- Assumes nothing.
use mathlib.Core.Path.{◌≡◌, refl, sym, ap, ◌∙◌, subst, fun_ext}
use Prim.Native.Nat.{ℕ, zero, suc, ◌+◌, ◌-◌, ◌≤◌, ◌<◌}
use native.Mathlib.Omega.{arith}
use native.Mathlib.Nat.{sub-zero}
use mathlib.Core.Bool.{Bool, true, false, cond, ◌||◌, false≢true}
use mathlib.Core.Logic.{◌≢◌}
use mathlib.Core.Option.{Option, none, some}
use lib.Dec.{eqb, eqb→eq}
use borrow.Author.Tests.{eq-eqb, ne_eqb}
use Rattle.blocks.specs.Control.{Op, PLAIN, ELSE, ENDIF, BGNLOOP, ENDLOOP, BRK, CONT, DEFAULT, ENDSWITCH, END, UIF, SWITCH, CASE, is, Machine, op_at, case_of, default_at}
use Rattle.blocks.specs.Lists.{Items, nil, one, uif, loop, switch, size}
use Rattle.blocks.specs.Reading.{Reading, out, brk, cont, ended, halted, next, leave, round, charged, single, read, past, rounds}
use Rattle.blocks.specs.Run.{most_instructions, follow, walk, comes_next, run}
use Rattle.blocks.specs.Table.{Row, Targets, in_uif, in_loop, in_switch, first_label, row_of, uif_row, switch_row}
use Rattle.blocks.proofs.Agree.{Holds}
use Rattle.blocks.proofs.Nested.{Close, at_else, at_endif, at_endloop, at_endswitch, at_end, closing, Context, part_of, loop_body, switch_body, program, Fine, has_default, WF, w_one, w_close, w_uif, w_uif1, w_loop, w_switch}

-- Two machines have the same instruction n.
pub record Alike {S : Type 0} (M M' : Machine S) (n : ℕ) : Type 0 where
  pub kind : M.kind n ≡ M'.kind n
  pub effect : M.effect n ≡ M'.effect n
  pub test : M.test n ≡ M'.test n
  pub value : M.value n ≡ M'.value n

-- Instruction n has the row r in the table T, and is the same for both machines.
abbrev pub RowAt : {S : Type 0} → Machine S → Machine S → (ℕ → Row) → ℕ → Row → Type 0
RowAt M M' T n r = (T n ≡ r) × Alike M M' n

-- ---- The ways out of a list

-- Where the run goes on when a list ran out, met BRK, met CONT; `none` where the list cannot do so.
record Exits : Type 0 where
  out : Option ℕ
  brk : Option ℕ
  cont : Option ℕ

abbrev only : Bool → ℕ → Option ℕ
only true n = some n
only false n = none

abbrev exit : Close → Targets → ℕ → Option ℕ
exit at_else t e = some t.after
exit at_endif t e = some e
exit at_endloop t e = some t.cont
exit at_endswitch t e = some e
exit at_end t e = none

-- The exits of a list that stands in C and ends before number e.
abbrev exits : Context → Targets → ℕ → Exits
exits C t e = record { out = exit C.close t e; brk = only C.breaks t.brk; cont = only C.continues t.cont }

-- The exits of the list of a UIF, of a SWITCH and of a loop at a; after the block comes x.
abbrev uif_exits : ℕ → Exits → Exits
uif_exits x E = record { out = some x; brk = E.brk; cont = E.cont }

abbrev switch_exits : ℕ → Exits → Exits
switch_exits x E = record { out = some x; brk = some x; cont = E.cont }

abbrev loop_exits : ℕ → ℕ → Exits
loop_exits a x = record { out = some a; brk = some x; cont = some a }

-- A mark that closes a list is no label.
no_case : (z : Close) → is CASE (closing z) ≡ false
no_case at_else = refl
no_case at_endif = refl
no_case at_endloop = refl
no_case at_endswitch = refl
no_case at_end = refl

no_default_mark : (z : Close) → is DEFAULT (closing z) ≡ false
no_default_mark at_else = refl
no_default_mark at_endif = refl
no_default_mark at_endloop = refl
no_default_mark at_endswitch = refl
no_default_mark at_end = refl

or_false : (a b : Bool) → (a || b) ≡ false → (a ≡ false) × (b ≡ false)
or_false false b e = (refl, e)
or_false true b e = absurd (false≢true (sym e))

-- The machine M runs by the table T; the machine M' is read.
module _ {S : Type 0} (M M' : Machine S) (T : ℕ → Row) (budget : ℕ) where
  abbrev op : ℕ → Op
  op = op_at M'

  -- The run after c steps, at instruction n.
  go : ℕ → ℕ → S → Reading S
  go c n s = run M T (budget - c) c n s

  -- One step of it.
  abbrev goes : Op → ℕ → ℕ → S → Reading S
  goes o c n s = follow (go (suc c)) (suc c) (comes_next (op_at M) M.value T o (M'.test n s) n) (M'.effect n s)

  go_spent : (n : ℕ) (s : S) → go budget n s ≡ halted n budget s
  unfolding go run
  go_spent n s =
      let spent : budget - budget ≡ 0 = omega arith in
      rw spent

  go_step : (c n : ℕ) (s : S) → Alike M M' n → c < budget → go c n s ≡ goes (op n) c n s
  unfolding go run
  go_step c n s same h =
      let left : budget - c ≡ suc (budget - suc c) = omega arith in
      rw (left, same.kind, same.test, same.effect)

  -- ---- Simulation

  abbrev via : Option ℕ → ℕ → S → Reading S → Reading S
  via none c s r = r
  via (some n) c s r = go c n s

  -- The run that goes on from a reading.
  abbrev resume : Exits → Reading S → Reading S
  resume E (out c s) = via E.out c s (out c s)
  resume E (brk c s) = via E.brk c s (brk c s)
  resume E (cont c s) = via E.cont c s (cont c s)
  resume E (ended c s) = ended c s
  resume E (halted n c s) = halted n c s

  -- A reading that does not stop the run has a count from lo to the budget.
  abbrev Within : ℕ → Reading S → Type 0
  Within lo (out c s) = (lo ≤ c) × (c ≤ budget)
  Within lo (brk c s) = (lo ≤ c) × (c ≤ budget)
  Within lo (cont c s) = (lo ≤ c) × (c ≤ budget)
  Within lo (ended c s) = Unit {0}
  Within lo (halted n c s) = Unit {0}

  -- The run g is the one that goes on from the reading r, and r has a count of lo at least.
  record Sim (E : Exits) (lo : ℕ) (g r : Reading S) : Type 0 where
    runs : g ≡ resume E r
    bound : Within lo r

  within_le : (lo lo' : ℕ) (r : Reading S) → lo ≤ lo' → Within lo' r → Within lo r
  within_le lo lo' (out c s) h w = omega arith
  within_le lo lo' (brk c s) h w = omega arith
  within_le lo lo' (cont c s) h w = omega arith
  within_le lo lo' (ended c s) h w = tt
  within_le lo lo' (halted n c s) h w = tt

  weaken : {E : Exits} {lo lo' : ℕ} {g r : Reading S} → lo ≤ lo' → Sim E lo' g r → Sim E lo g r
  weaken {lo = lo} {lo' = lo'} {r = r} h m = record { runs = m.runs; bound = within_le lo lo' r h m.bound }

  -- The run h comes to g.
  from : {E : Exits} {lo : ℕ} {g h r : Reading S} → h ≡ g → Sim E lo g r → Sim E lo h r
  from e m = record { runs = e ∙ m.runs; bound = m.bound }

  -- Before an instruction: both halt, or both carry it out.
  charge : (E : Exits) (n c : ℕ) (s : S) (result : ℕ → S → Reading S)
      → Alike M M' n
      → c ≤ budget
      → (c < budget → Sim E (suc c) (goes (op n) c n s) (result (suc c) s))
      → Sim E (suc c) (go c n s) (charged M' budget n result c s)
  charge E n c s result same h f = on (eqb c budget) refl
    where
      on : (v : Bool) → eqb c budget ≡ v → Sim E (suc c) (go c n s) (cond v (halted n) (λ c s. result (suc c) s) c s)
      on true e = record { runs = rw (eqb→eq c budget (rw e tt)) (go_spent n s); bound = tt }
      on false e =
          let differ : c ≢ budget = λ d. false≢true (sym e ∙ eq-eqb c budget d) in
          let less : c < budget = omega (arith, differ) in
          from (go_step c n s same less) (f less)

  -- A list goes on at x after a part that ran out.
  next_sim : (E : Exits) (x lo : ℕ) (g r : Reading S) (rest : ℕ → S → Reading S)
      → Sim (uif_exits x E) lo g r
      → ((c : ℕ) (s : S) → lo ≤ c → c ≤ budget → Sim E lo (go c x s) (rest c s))
      → Sim E lo g (next r rest)
  next_sim E x lo g (out c s) rest m f = from m.runs (f c s m.bound.0 m.bound.1)
  next_sim E x lo g (brk c s) rest m f = record { runs = m.runs; bound = m.bound }
  next_sim E x lo g (cont c s) rest m f = record { runs = m.runs; bound = m.bound }
  next_sim E x lo g (ended c s) rest m f = record { runs = m.runs; bound = m.bound }
  next_sim E x lo g (halted n c s) rest m f = record { runs = m.runs; bound = m.bound }

  -- A SWITCH is left on BRK as where its list runs out.
  leave_sim : (E : Exits) (x lo : ℕ) (g r : Reading S) → Sim (switch_exits x E) lo g r → Sim (uif_exits x E) lo g (leave r)
  leave_sim E x lo g (out c s) m = record { runs = m.runs; bound = m.bound }
  leave_sim E x lo g (brk c s) m = record { runs = m.runs; bound = m.bound }
  leave_sim E x lo g (cont c s) m = record { runs = m.runs; bound = m.bound }
  leave_sim E x lo g (ended c s) m = record { runs = m.runs; bound = m.bound }
  leave_sim E x lo g (halted n c s) m = record { runs = m.runs; bound = m.bound }

  -- A loop: its list starts anew at a, and the loop is left to x.
  round_sim : (E : Exits) (a x lo : ℕ) (g r : Reading S) (again : ℕ → S → Reading S)
      → Sim (loop_exits a x) lo g r
      → ((c : ℕ) (s : S) → lo ≤ c → c ≤ budget → Sim (uif_exits x E) lo (go c a s) (again c s))
      → Sim (uif_exits x E) lo g (round r again)
  round_sim E a x lo g (out c s) again m f = from m.runs (f c s m.bound.0 m.bound.1)
  round_sim E a x lo g (brk c s) again m f = record { runs = m.runs; bound = m.bound }
  round_sim E a x lo g (cont c s) again m f = from m.runs (f c s m.bound.0 m.bound.1)
  round_sim E a x lo g (ended c s) again m f = record { runs = m.runs; bound = m.bound }
  round_sim E a x lo g (halted n c s) again m f = record { runs = m.runs; bound = m.bound }

  -- ---- Lists, with at most f rounds of each loop

  module _ (f : ℕ) where
    abbrev again : Items → ℕ → S → Reading S
    again = rounds M' budget f

    abbrev reads : Items → ℕ → S → Reading S
    reads l = read M' budget l again

    -- From just past the CASE of x, else past DEFAULT, else as `other`.
    abbrev pasts : ℕ → Items → (ℕ → S → Reading S) → ℕ → S → Reading S
    pasts x l other = past M' budget l again (case_of op M'.value x) (λ c s. past M' budget l again (default_at op) other c s)

    -- The run of the list l from number a on is its reading.
    abbrev Reads : Exits → Items → ℕ → Type 0
    Reads E l a = (c : ℕ) (s : S) → c ≤ budget → budget ≤ c + f → Sim E (suc c) (go c a s) (reads l c s)

    -- The same from where the labels lead a SWITCH; with no label for it the run goes to d.
    abbrev Pasts : Exits → Items → ℕ → Type 0
    Pasts E l a =
        (c : ℕ) (s : S) (x most d : ℕ) (other : ℕ → S → Reading S)
        → c ≤ budget
        → budget ≤ c + f
        → size l ≤ most
        → 0 < a
        → Sim E c (go c d s) (other c s)
        → Sim E c (go c (walk (op_at M) M.value T most x (first_label op l) d) s) (pasts x l other c s)

    -- A loop at n with the list l, from its list's start.
    abbrev Rounds : Type 0
    Rounds =
        (E : Exits) (l : Items) (n c : ℕ) (s : S)
        → WF op loop_body l (suc n)
        → Holds op (RowAt M M' T) (in_loop (suc n) (suc n + size l)) l
        → size l ≤ most_instructions
        → c ≤ budget
        → budget < c + f
        → Sim (uif_exits (suc n + size l) E) c (go c (suc n) s) (again l c s)

    -- The list goes on at x after a block that ran out.
    after : (E : Exits) (x c : ℕ) (g r : Reading S) (rest : Items)
        → budget ≤ c + f
        → Sim (uif_exits x E) c g r
        → Reads E rest x
        → Sim E c g (next r (reads rest))
    after E x c g r rest hf m ih = next_sim E x c g r (reads rest) m λ c' s lo hi. weaken (omega arith) (ih c' s hi (omega arith))

    -- An empty second part.
    nil_reads : (E : Exits) (x c : ℕ) (s : S) → c ≤ budget → Sim (uif_exits x E) c (go c x s) (reads nil c s)
    unfolding read
    nil_reads E x c s h = record { runs = refl; bound = omega arith }

    one_reads : (C : Context) (t : Targets) (e n : ℕ) (rest : Items)
        → Fine (op n) C (has_default op rest)
        → RowAt M M' T n (row_of op (op n) t rest)
        → Reads (exits C t e) rest (suc n)
        → Reads (exits C t e) (one n rest) n
    unfolding read
    one_reads C t e n rest fine row ih c s h hf =
        charge (exits C t e) n c s (λ c s. next (single M' budget (op n) c (M'.effect n s)) (reads rest)) row.1 h
        λ h'. on h' (op n) fine row.0
      where
        on : c < budget → (o : Op) → Fine o C (has_default op rest) → T n ≡ row_of op o t rest
            → Sim (exits C t e) (suc c) (goes o c n s) (next (single M' budget o (suc c) (M'.effect n s)) (reads rest))
        on h' PLAIN fine row = weaken (omega arith) (ih (suc c) (M'.effect n s) h' (omega arith))
        on h' BRK fine row = record { runs = rw (row, fine); bound = omega arith }
        on h' CONT fine row = record { runs = rw (row, fine); bound = omega arith }
        on h' CASE fine row = weaken (omega arith) (ih (suc c) (M'.effect n s) h' (omega arith))
        on h' DEFAULT fine row = weaken (omega arith) (ih (suc c) (M'.effect n s) h' (omega arith))
        on h' ELSE fine row = absurd fine
        on h' ENDIF fine row = absurd fine
        on h' BGNLOOP fine row = absurd fine
        on h' ENDLOOP fine row = absurd fine
        on h' ENDSWITCH fine row = absurd fine
        on h' END fine row = absurd fine
        on h' UIF fine row = absurd fine
        on h' SWITCH fine row = absurd fine

    no_default : (l : Items) (other : ℕ → S → Reading S) (c : ℕ) (s : S)
        → has_default op l ≡ false
        → past M' budget l again (default_at op) other c s ≡ other c s
    unfolding past
    no_default nil other c s e = refl
    no_default (one n rest) other c s e =
        let h : (default_at op n ≡ false) × (has_default op rest ≡ false) = or_false (default_at op n) (has_default op rest) e in
        rw h.0 (no_default rest other c s h.1)
    no_default (uif n p q rest) other c s e = no_default rest other c s e
    no_default (loop n l rest) other c s e = no_default rest other c s e
    no_default (switch n l rest) other c s e = no_default rest other c s e

    one_pasts : (C : Context) (t : Targets) (e n : ℕ) (rest : Items)
        → Fine (op n) C (has_default op rest)
        → RowAt M M' T n (row_of op (op n) t rest)
        → Reads (exits C t e) rest (suc n)
        → Pasts (exits C t e) rest (suc n)
        → Pasts (exits C t e) (one n rest) n
    unfolding past first_label walk
    one_pasts C t e n rest fine row ih ihp c s x zero d other h hf hs pos m = absurd (omega arith)
    one_pasts C t e n rest fine row ih ihp c s x (suc most) d other h hf hs pos m = on (op n) refl fine row.0
      where
        E : Exits
        E = exits C t e

        kind : M.kind n ≡ M'.kind n
        kind = row.1.kind

        value : M.value n ≡ M'.value n
        value = row.1.value

        positive : eqb n 0 ≡ false
        positive = ne_eqb n 0 (omega arith)

        enter : Sim E c (go c (suc n) s) (reads rest c s)
        enter = weaken (omega arith) (ih c s h hf)

        skip : (most : ℕ) → size rest ≤ most → Sim E c (go c (walk (op_at M) M.value T most x (first_label op rest) d) s) (pasts x rest other c s)
        skip most hs = ihp c s x most d other h hf hs (omega arith) m

        default : (λ c s. past M' budget rest again (default_at op) (reads rest) c s) ≡ reads rest
            → Sim E c
            (go c (walk (op_at M) M.value T most x (first_label op rest) (suc n)) s)
            (past M' budget rest again (case_of op M'.value x) (reads rest) c s)
        default u =
            subst
            (λ r. Sim E c (go c (walk (op_at M) M.value T most x (first_label op rest) (suc n)) s) (past M' budget rest again (case_of op M'.value x) r c s))
            u
            (ihp c s x most (suc n) (reads rest) h hf (omega arith) (omega arith) enter)

        matched : (v : Bool)
            → Sim E c
            (go c (cond v (suc n) (walk (op_at M) M.value T most x (first_label op rest) d)) s)
            (cond v (λ c s. reads rest c s) (pasts x rest other) c s)
        matched true = enter
        matched false = skip most (omega arith)

        on : (o : Op) → op n ≡ o → Fine o C (has_default op rest) → T n ≡ row_of op o t rest
            → Sim E c (go c (walk (op_at M) M.value T (suc most) x (first_label op (one n rest)) d) s) (pasts x (one n rest) other c s)
        on PLAIN o fine row = rw o (skip (suc most) (omega arith))
        on BRK o fine row = rw o (skip (suc most) (omega arith))
        on CONT o fine row = rw o (skip (suc most) (omega arith))
        on CASE o fine row = rw (o, positive, kind, o, value, row) (matched (eqb (M'.value n) x))
        on DEFAULT o fine row =
            rw (o, positive, kind, o, row) (default (fun_ext λ c. fun_ext λ s. no_default rest _ c s fine))
        on ELSE o fine row = absurd fine
        on ENDIF o fine row = absurd fine
        on BGNLOOP o fine row = absurd fine
        on ENDLOOP o fine row = absurd fine
        on ENDSWITCH o fine row = absurd fine
        on END o fine row = absurd fine
        on UIF o fine row = absurd fine
        on SWITCH o fine row = absurd fine

    close_reads : (C : Context) (t : Targets) (e n : ℕ)
        → op n ≡ closing C.close
        → suc n ≡ e
        → RowAt M M' T n (row_of op (op n) t nil)
        → Reads (exits C t e) (one n nil) n
    unfolding read
    close_reads C t e n o he row c s h hf =
        charge (exits C t e) n c s (λ c s. next (single M' budget (op n) c (M'.effect n s)) (reads nil)) row.1 h
        λ h'. rw o (on h' C.close (rw o at row.0))
      where
        on : c < budget → (z : Close) → T n ≡ row_of op (closing z) t nil
            → Sim (exits (part_of C z) t e) (suc c) (goes (closing z) c n s)
            (next (single M' budget (closing z) (suc c) (M'.effect n s)) (reads nil))
        on h' at_else row = record { runs = ap (λ (r : Row). go (suc c) r.jump (M'.effect n s)) row; bound = omega arith }
        on h' at_endif row = record { runs = rw he; bound = omega arith }
        on h' at_endloop row = record { runs = ap (λ (r : Row). go (suc c) r.jump (M'.effect n s)) row; bound = omega arith }
        on h' at_endswitch row = record { runs = rw he; bound = omega arith }
        on h' at_end row = record { runs = refl; bound = tt }

    walk_none : (most x d : ℕ) → walk (op_at M) M.value T most x 0 d ≡ d
    unfolding walk
    walk_none zero x d = refl
    walk_none (suc most) x d = refl

    close_pasts : (C : Context) (t : Targets) (e n : ℕ) → op n ≡ closing C.close → Pasts (exits C t e) (one n nil) n
    unfolding past first_label
    close_pasts C t e n o c s x most d other h hf hs pos m =
        rw (o, no_case C.close, no_default_mark C.close, walk_none most x d) m

    uif_reads : (E : Exits) (x n : ℕ) (p q rest : Items)
        → op n ≡ UIF
        → RowAt M M' T n (uif_row n p)
        → Reads (uif_exits x E) p (suc n)
        → ((c : ℕ) (s : S) → c ≤ budget → budget ≤ c + f → Sim (uif_exits x E) c (go c (suc n + size p) s) (reads q c s))
        → Reads E rest x
        → Reads E (uif n p q rest) n
    unfolding read
    uif_reads E x n p q rest o row first second ih c s h hf =
        charge E n c s (λ c s. next (cond (eqb (M'.test n s) 0) (reads q) (reads p) c (M'.effect n s)) (reads rest)) row.1 h
        λ h'. rw (o, row.0) (on h' (eqb (M'.test n s) 0))
      where
        on : c < budget → (v : Bool)
            → Sim E (suc c) (go (suc c) (cond v (suc n + size p) (suc n)) (M'.effect n s)) (next (cond v (reads q) (reads p) (suc c) (M'.effect n s)) (reads rest))
        on h' true = after E x (suc c) _ _ rest (omega arith) (second (suc c) (M'.effect n s) h' (omega arith)) ih
        on h' false = after E x (suc c) _ _ rest (omega arith) (weaken (omega arith) (first (suc c) (M'.effect n s) h' (omega arith))) ih

    loop_reads : (E : Exits) (n : ℕ) (l rest : Items)
        → Rounds
        → op n ≡ BGNLOOP
        → Alike M M' n
        → WF op loop_body l (suc n)
        → Holds op (RowAt M M' T) (in_loop (suc n) (suc n + size l)) l
        → size l ≤ most_instructions
        → Reads E rest (suc n + size l)
        → Reads E (loop n l rest) n
    unfolding read
    loop_reads E n l rest ok o same w holds hs ih c s h hf =
        charge E n c s (λ c s. next (again l c (M'.effect n s)) (reads rest)) same h
        λ h'. rw o
        (after E (suc n + size l) (suc c) _ _ rest (omega arith) (ok E l n (suc c) (M'.effect n s) w holds hs h' (omega arith)) ih)

    switch_reads : (E : Exits) (n : ℕ) (l rest : Items)
        → op n ≡ SWITCH
        → RowAt M M' T n (switch_row op n l)
        → size l ≤ most_instructions
        → Pasts (switch_exits (suc n + size l) E) l (suc n)
        → Reads E rest (suc n + size l)
        → Reads E (switch n l rest) n
    unfolding read
    switch_reads E n l rest o row hs inside ih c s h hf =
        charge E n c s (λ c s. next (leave (pasts (M'.test n s) l out c (M'.effect n s))) (reads rest)) row.1 h
        λ h'. rw (o, row.0)
        (after E (suc n + size l) (suc c) _ _ rest (omega arith)
        (leave_sim E (suc n + size l) (suc c) _ _
        (inside (suc c) (M'.effect n s) (M'.test n s) most_instructions (suc n + size l) out h' (omega arith) hs (omega arith)
        (record { runs = refl; bound = omega arith })))
        ih)

    -- Every well nested list whose rows the table has.
    sim : Rounds
        → (C : Context) (l : Items) (a : ℕ)
        → WF op C l a
        → (t : Targets) (e : ℕ)
        → a + size l ≡ e
        → Holds op (RowAt M M' T) t l
        → size l ≤ most_instructions
        → Reads (exits C t e) l a × Pasts (exits C t e) l a
    unfolding past first_label
    sim ok C l a (w_one {rest = rest} n fine w) t e he hold hs =
        let ih : Reads (exits C t e) rest (suc n) × Pasts (exits C t e) rest (suc n)
        = sim ok C rest (suc n) w t e (omega arith) hold.1 (omega arith) in
        (one_reads C t e n rest fine hold.0 ih.0, one_pasts C t e n rest fine hold.0 ih.0 ih.1)
    sim ok C l a (w_close n o) t e he hold hs = (close_reads C t e n o (omega arith) hold.0, close_pasts C t e n o)
    sim ok C l a (w_uif {p = p} {q = q} {rest = rest} n o wp wq w) t e he hold hs =
        let u : Targets = in_uif (suc n + size p + size q) t in
        let x : ℕ = suc n + size p + size q in
        let first : Reads (uif_exits x (exits C t e)) p (suc n)
        = (sim ok (part_of C at_else) p (suc n) wp u (suc n + size p) refl hold.1 (omega arith)).0 in
        let second : Reads (uif_exits x (exits C t e)) q (suc n + size p)
        = (sim ok (part_of C at_endif) q (suc n + size p) wq u x refl hold.2 (omega arith)).0 in
        let ih : Reads (exits C t e) rest x × Pasts (exits C t e) rest x
        = sim ok C rest x w t e (omega arith) hold.3 (omega arith) in (
          uif_reads (exits C t e) x n p q rest o hold.0 first (λ c s h hf. weaken (omega arith) (second c s h hf)) ih.0,
          λ c s y most d other h hf hs' pos m. ih.1 c s y most d other h hf (omega arith) (omega arith) m,
        )
    sim ok C l a (w_uif1 {p = p} {rest = rest} n o wp w) t e he hold hs =
        let u : Targets = in_uif (suc n + size p + size nil) t in
        let x : ℕ = suc n + size p in
        let first : Reads (uif_exits x (exits C t e)) p (suc n)
        = (sim ok (part_of C at_endif) p (suc n) wp u x refl hold.1 (omega arith)).0 in
        let ih : Reads (exits C t e) rest x × Pasts (exits C t e) rest x
        = sim ok C rest x w t e (omega arith) hold.3 (omega arith) in (
          uif_reads (exits C t e) x n p nil rest o hold.0 first (λ c s h hf. nil_reads (exits C t e) x c s h) ih.0,
          λ c s y most d other h hf hs' pos m. ih.1 c s y most d other h hf (omega arith) (omega arith) m,
        )
    sim ok C l a (w_loop {l = body} {rest = rest} n o wl w) t e he hold hs =
        let x : ℕ = suc n + size body in
        let ih : Reads (exits C t e) rest x × Pasts (exits C t e) rest x
        = sim ok C rest x w t e (omega arith) hold.2 (omega arith) in (
          loop_reads (exits C t e) n body rest ok o hold.0.1 wl hold.1 (omega arith) ih.0,
          λ c s y most d other h hf hs' pos m. ih.1 c s y most d other h hf (omega arith) (omega arith) m,
        )
    sim ok C l a (w_switch {l = body} {rest = rest} n o wl w) t e he hold hs =
        let x : ℕ = suc n + size body in
        let inside : Pasts (switch_exits x (exits C t e)) body (suc n)
        = (sim ok (switch_body C) body (suc n) wl (in_switch (suc n + size body) t) x refl hold.1 (omega arith)).1 in
        let ih : Reads (exits C t e) rest x × Pasts (exits C t e) rest x
        = sim ok C rest x w t e (omega arith) hold.2 (omega arith) in (
          switch_reads (exits C t e) n body rest o hold.0 (omega arith) inside ih.0,
          λ c s y most d other h hf hs' pos m. ih.1 c s y most d other h hf (omega arith) (omega arith) m,
        )

  rounds_ok : (f : ℕ) → Rounds f
  unfolding rounds
  rounds_ok zero E l n c s w hold hs h hf = absurd (omega arith)
  rounds_ok (suc f) E l n c s w hold hs h hf =
      weaken (omega arith)
      (round_sim E (suc n) (suc n + size l) (suc c) _ _ _
      ((sim f (rounds_ok f) loop_body l (suc n) w (in_loop (suc n) (suc n + size l)) (suc n + size l) refl hold hs).0 c s h (omega arith))
      λ c' s' lo hi. weaken (omega arith) (rounds_ok f E l n c' s' w hold hs hi (omega arith)))

  -- The run and the reading of a whole program, with any bound f on a loop's rounds that is at least the budget.
  pub whole : (f : ℕ) (l : Items) (t : Targets) (s : S)
      → budget ≤ f
      → WF op program l 0
      → Holds op (RowAt M M' T) t l
      → size l ≤ most_instructions
      → run M T budget 0 0 s ≡ read M' budget l (rounds M' budget f) 0 s
  unfolding go
  whole f l t s hf w hold hs =
      let m : Sim (exits program t (0 + size l)) 1 (go 0 0 s) (read M' budget l (rounds M' budget f) 0 s)
      = (sim f (rounds_ok f) program l 0 w t (0 + size l) refl hold hs).0 0 s (omega arith) (omega arith) in
      rw (sub-zero budget) at m.runs ∙ stays (read M' budget l (rounds M' budget f) 0 s)
    where
      stays : (r : Reading S) → resume (exits program t (0 + size l)) r ≡ r
      stays (out c s) = refl
      stays (brk c s) = refl
      stays (cont c s) = refl
      stays (ended c s) = refl
      stays (halted n c s) = refl
