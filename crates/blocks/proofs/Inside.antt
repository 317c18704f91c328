-- A reading stays inside its program: it halts only before an instruction of the lists that it reads, and what the effect of each
-- of these instructions keeps true of the state is true of the state that it leaves.
-- Assumes nothing.
use mathlib.Core.Path.{◌≡◌, refl}
use Prim.Native.Nat.{ℕ, zero, suc, ◌+◌, ◌<◌}
use mathlib.Core.Bool.{Bool, true, false, cond}
use borrow.Author.Tests.{ltb-true}
use lib.Dec.{eqb, ltb}
use Rattle.blocks.specs.Control.{Op, PLAIN, ELSE, ENDIF, BGNLOOP, ENDLOOP, BRK, CONT, DEFAULT, ENDSWITCH, END, UIF, SWITCH, CASE, is, Machine, op_at, case_of, default_at}
use Rattle.blocks.specs.Lists.{Items, nil, one, uif, loop, switch, size, item, list_from, nested_lists}
use Rattle.blocks.specs.Reading.{Reading, out, brk, cont, ended, halted, next, leave, round, charged, single, read, past, rounds, reading}

module _ (N : ℕ) where
  -- All instructions of a list have numbers below N.
  abbrev Below : Items → Type 0
  Below nil = Unit {0}
  Below (one n rest) = (n < N) × Below rest
  Below (uif n p q rest) = (n < N) × Below p × Below q × Below rest
  Below (loop n l rest) = (n < N) × Below l × Below rest
  Below (switch n l rest) = (n < N) × Below l × Below rest

  -- A reading that comes to a state as P says, and that halts before one of them where it halts.
  abbrev pub Stays : {S : Type 0} → (S → Type 0) → Reading S → Type 0
  Stays P (out c s) = P s
  Stays P (brk c s) = P s
  Stays P (cont c s) = P s
  Stays P (ended c s) = P s
  Stays P (halted n c s) = (n < N) × P s

  -- ---- The lists of a program

  module _ (op : ℕ → Op) where
    second_below : (t : Bool) (q : Items) → Below q → Below (cond t q nil)
    second_below true q h = h
    second_below false q h = tt

    item_below : (o : Op) (from : ℕ → Items) (n : ℕ) → n < N → ((m : ℕ) → Below (from m)) → Below (item op o from n)
    item_below PLAIN from n h f = (h, f _)
    item_below BRK from n h f = (h, f _)
    item_below CONT from n h f = (h, f _)
    item_below CASE from n h f = (h, f _)
    item_below DEFAULT from n h f = (h, f _)
    item_below ELSE from n h f = (h, tt)
    item_below ENDIF from n h f = (h, tt)
    item_below ENDLOOP from n h f = (h, tt)
    item_below ENDSWITCH from n h f = (h, tt)
    item_below END from n h f = (h, tt)
    item_below UIF from n h f = (h, f _, second_below (is ELSE (op (n + size (from (suc n))))) _ (f _), f _)
    item_below BGNLOOP from n h f = (h, f _, f _)
    item_below SWITCH from n h f = (h, f _, f _)

    list_below : (f n : ℕ) → Below (list_from op N f n)
    unfolding list_from
    list_below zero n = tt
    list_below (suc f) n = on (ltb n N) refl (λ m. list_below f m)
      where
        on : (t : Bool) → ltb n N ≡ t → ((m : ℕ) → Below (list_from op N f m)) → Below (cond t (item op (op n) (list_from op N f) n) nil)
        on true e later = item_below (op n) (list_from op N f) n (ltb-true n N e) later
        on false e later = tt

  -- ---- Their reading

  module _ {S : Type 0} (P : S → Type 0) where
    -- From every state as P says.
    abbrev Staying : (ℕ → S → Reading S) → Type 0
    Staying k = (c : ℕ) (s : S) → P s → Stays P (k c s)

    next_stays : (r : Reading S) → Stays P r → (k : ℕ → S → Reading S) → Staying k → Stays P (next r k)
    next_stays (out c s) h k f = f c s h
    next_stays (brk c s) h k f = h
    next_stays (cont c s) h k f = h
    next_stays (ended c s) h k f = h
    next_stays (halted n c s) h k f = h

    leave_stays : (r : Reading S) → Stays P r → Stays P (leave r)
    leave_stays (out c s) h = h
    leave_stays (brk c s) h = h
    leave_stays (cont c s) h = h
    leave_stays (ended c s) h = h
    leave_stays (halted n c s) h = h

    round_stays : (r : Reading S) → Stays P r → (k : ℕ → S → Reading S) → Staying k → Stays P (round r k)
    round_stays (out c s) h k f = f c s h
    round_stays (brk c s) h k f = h
    round_stays (cont c s) h k f = f c s h
    round_stays (ended c s) h k f = h
    round_stays (halted n c s) h k f = h

    chosen_stays : (t : Bool) (f g : ℕ → S → Reading S) → Staying f → Staying g → Staying (cond t f g)
    chosen_stays true f g hf hg c s h = hf c s h
    chosen_stays false f g hf hg c s h = hg c s h

    module _ (M : Machine S) (budget : ℕ) where
      charged_stays : (n : ℕ) → n < N → (k : ℕ → S → Reading S) → Staying k → Staying (charged M budget n k)
      charged_stays n h k f c s p = on (eqb c budget)
        where
          on : (t : Bool) → Stays P (cond {A = ℕ → S → Reading S} t (halted n) (λ c s. k (suc c) s) c s)
          on true = (h, p)
          on false = f (suc c) s p

      single_stays : (o : Op) → Staying (single M budget o)
      single_stays PLAIN c s h = h
      single_stays BRK c s h = h
      single_stays CONT c s h = h
      single_stays END c s h = h
      single_stays ELSE c s h = h
      single_stays ENDIF c s h = h
      single_stays BGNLOOP c s h = h
      single_stays ENDLOOP c s h = h
      single_stays DEFAULT c s h = h
      single_stays ENDSWITCH c s h = h
      single_stays UIF c s h = h
      single_stays SWITCH c s h = h
      single_stays CASE c s h = h

      -- The effect of each of the instructions keeps P.
      module _ (keeps : (n : ℕ) (s : S) → n < N → P s → P (M.effect n s)) where
        -- Both a list and the part of it past a label.
        module _ (again : Items → ℕ → S → Reading S) (ha : (l : Items) → Below l → Staying (again l)) where
          abbrev reads : Items → ℕ → S → Reading S
          reads l = read M budget l again

          -- A SWITCH's list from just past the label that its x comes to.
          abbrev labelled : ℕ → Items → ℕ → S → Reading S
          labelled n l c s = past M budget l again (case_of (op_at M) M.value (M.test n s)) (λ c s. past M budget l again (default_at (op_at M)) out c s) c (M.effect n s)

          abbrev Fine : Items → Type 0
          Fine l =
              Staying (read M budget l again)
              × ((fits : ℕ → Bool) (other : ℕ → S → Reading S) → Staying other → Staying (past M budget l again fits other))

          read_stays : (l : Items) → Below l → Fine l
          unfolding read past
          read_stays nil h = ((λ c s p. p), (λ fits other ho c s p. ho c s p))
          read_stays (one n rest) h =
              let f : Fine rest = read_stays rest h.1 in (
                charged_stays n h.0 (λ c s. next (single M budget (op_at M n) c (M.effect n s)) (reads rest))
                    (λ c s p. next_stays (single M budget (op_at M n) c (M.effect n s))
                    (single_stays (op_at M n) c (M.effect n s) (keeps n s h.0 p)) (reads rest) f.0),
                (λ fits other ho c s p. chosen_stays (fits n) (λ c s. reads rest c s) (past M budget rest again fits other) f.0 (f.1 fits other ho) c s p),
              )
          read_stays (uif n p q rest) h =
              let fp : Fine p = read_stays p h.1 in
              let fq : Fine q = read_stays q h.2 in
              let f : Fine rest = read_stays rest h.3 in (
                charged_stays n h.0 (λ c s. next (cond (eqb (M.test n s) 0) (reads q) (reads p) c (M.effect n s)) (reads rest))
                    (λ c s i. next_stays (cond (eqb (M.test n s) 0) (reads q) (reads p) c (M.effect n s))
                    (chosen_stays (eqb (M.test n s) 0) (reads q) (reads p) fq.0 fp.0 c (M.effect n s) (keeps n s h.0 i)) (reads rest) f.0),
                f.1,
              )
          read_stays (loop n l rest) h =
              let f : Fine rest = read_stays rest h.2 in (
                charged_stays n h.0 (λ c s. next (again l c (M.effect n s)) (reads rest))
                    (λ c s p. next_stays (again l c (M.effect n s)) (ha l h.1 c (M.effect n s) (keeps n s h.0 p)) (reads rest) f.0),
                f.1,
              )
          read_stays (switch n l rest) h =
              let fl : Fine l = read_stays l h.1 in
              let f : Fine rest = read_stays rest h.2 in (
                charged_stays n h.0 (λ c s. next (leave (labelled n l c s)) (reads rest))
                    (λ c s p. next_stays (leave (labelled n l c s)) (leave_stays (labelled n l c s)
                    (fl.1 (case_of (op_at M) M.value (M.test n s)) (λ c s. past M budget l again (default_at (op_at M)) out c s) (fl.1 (default_at (op_at M)) out (λ c s p. p)) c (M.effect n s)
                    (keeps n s h.0 p)))
                    (reads rest) f.0),
                f.1,
              )

        rounds_stay : (f : ℕ) (l : Items) → Below l → Staying (rounds M budget f l)
        unfolding rounds
        rounds_stay zero l h c s p = p
        rounds_stay (suc f) l h c s p =
            round_stays (read M budget l (rounds M budget f) c s) ((read_stays (rounds M budget f) (rounds_stay f) l h).0 c s p)
            (rounds M budget f l) (rounds_stay f l h)

        pub reading_stays : (op : ℕ → Op) (s : S) → P s → Stays P (reading M budget (nested_lists op N) s)
        unfolding reading
        reading_stays op s p = (read_stays (rounds M budget budget) (rounds_stay budget) (nested_lists op N) (list_below op N 0)).0 0 s p
