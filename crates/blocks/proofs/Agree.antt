-- The rows of a well nested list stand in its table at their instructions' numbers, and the list holds its instructions in
-- the order of the file.
-- Assumes nothing.
use mathlib.Core.Path.{◌≡◌, refl, ap, ap₂}
use Prim.Native.Nat.{ℕ, zero, suc, ◌+◌, ◌<◌}
use native.Mathlib.Omega.{arith}
use native.Mathlib.Nat.{add-zero, zero-add, suc-add, add-suc}
use mathlib.Core.List.{List, [], ◌∷◌, ◌++◌}
use lib.ListN.{length, length-append}
use Rattle.blocks.specs.Control.{Op}
use Rattle.blocks.specs.Lists.{Items, nil, one, uif, loop, switch, size}
use Rattle.blocks.specs.Table.{Row, Targets, in_uif, in_loop, in_switch, row_of, uif_row, loop_row, switch_row, rows, row_at, nowhere, table}
use Rattle.blocks.proofs.Nested.{Context, WF, w_one, w_close, w_uif, w_uif1, w_loop, w_switch}

-- ---- Numbers

-- The numbers of a list's instructions, a block's after the instruction that opens it.
abbrev pub numbers : Items → List ℕ
numbers nil = []
numbers (one n rest) = n ∷ numbers rest
numbers (uif n p q rest) = n ∷ (numbers p ++ (numbers q ++ numbers rest))
numbers (loop n l rest) = n ∷ (numbers l ++ numbers rest)
numbers (switch n l rest) = n ∷ (numbers l ++ numbers rest)

-- The m numbers from n on.
abbrev pub up_from : ℕ → ℕ → List ℕ
up_from n zero = []
up_from n (suc m) = n ∷ up_from (suc n) m

up_from_append : (n m k : ℕ) → up_from n (m + k) ≡ up_from n m ++ up_from (n + m) k
up_from_append n zero k = rw (zero-add k, add-zero n)
up_from_append n (suc m) k = rw (suc-add m k, add-suc n m, ← suc-add n m) (ap (λ r. n ∷ r) (up_from_append (suc n) m k))

module _ (op : ℕ → Op) where
  pub numbered : (C : Context) (l : Items) (a : ℕ) → WF op C l a → numbers l ≡ up_from a (size l)
  numbered C l a (w_one {rest = rest} n fine w) = ap (λ r. n ∷ r) (numbered _ rest (suc n) w)
  numbered C l a (w_close n o) = refl
  numbered C l a (w_uif {p = p} {q = q} {rest = rest} n o wp wq w) =
      ap (λ r. n ∷ r)
      (rw (up_from_append (suc n) (size p) (size q + size rest), up_from_append (suc n + size p) (size q) (size rest))
      (ap₂ (λ x y. x ++ y) (numbered _ p (suc n) wp)
      (ap₂ (λ x y. x ++ y) (numbered _ q (suc n + size p) wq) (numbered _ rest (suc n + size p + size q) w))))
  numbered C l a (w_uif1 {p = p} {rest = rest} n o wp w) =
      ap (λ r. n ∷ r)
      (rw (zero-add (size rest), up_from_append (suc n) (size p) (size rest))
      (ap₂ (λ x y. x ++ y) (numbered _ p (suc n) wp) (numbered _ rest (suc n + size p) w)))
  numbered C l a (w_loop {l = body} {rest = rest} n o wl w) =
      ap (λ r. n ∷ r)
      (rw (up_from_append (suc n) (size body) (size rest))
      (ap₂ (λ x y. x ++ y) (numbered _ body (suc n) wl) (numbered _ rest (suc n + size body) w)))
  numbered C l a (w_switch {l = body} {rest = rest} n o wl w) =
      ap (λ r. n ∷ r)
      (rw (up_from_append (suc n) (size body) (size rest))
      (ap₂ (λ x y. x ++ y) (numbered _ body (suc n) wl) (numbered _ rest (suc n + size body) w)))

  -- ---- Rows

  pub length_rows : (t : Targets) (l : Items) → length (rows op t l) ≡ size l
  unfolding rows
  length_rows t nil = refl
  length_rows t (one n rest) = ap suc (length_rows t rest)
  length_rows t (uif n p q rest) =
      let u : Targets = in_uif (suc n + size p + size q) t in
      simp (length-append) (omega (arith, length_rows u p, length_rows u q, length_rows t rest))
  length_rows t (loop n l rest) = simp (length-append) (omega (arith, length_rows (in_loop (suc n) (suc n + size l)) l, length_rows t rest))
  length_rows t (switch n l rest) = simp (length-append) (omega (arith, length_rows (in_switch (suc n + size l) t) l, length_rows t rest))

  -- `At n r` is to hold of each instruction n of a list and its row r.
  module _ (At : ℕ → Row → Type 0) where
    abbrev pub Holds : Targets → Items → Type 0
    Holds t nil = Unit {0}
    Holds t (one n rest) = At n (row_of op (op n) t rest) × Holds t rest
    Holds t (uif n p q rest) = At n (uif_row n p) × Holds (in_uif (suc n + size p + size q) t) p × Holds (in_uif (suc n + size p + size q) t) q × Holds t rest
    Holds t (loop n l rest) = At n loop_row × Holds (in_loop (suc n) (suc n + size l)) l × Holds t rest
    Holds t (switch n l rest) = At n (switch_row op n l) × Holds (in_switch (suc n + size l) t) l × Holds t rest

    -- The same of the rows R and the numbers from a on.
    abbrev Stand : ℕ → List Row → Type 0
    Stand a [] = Unit {0}
    Stand a (r ∷ R) = At a r × Stand (suc a) R

    stand_left : (a : ℕ) (R R' : List Row) → Stand a (R ++ R') → Stand a R
    stand_left a [] R' h = tt
    stand_left a (r ∷ R) R' h = (h.0, stand_left (suc a) R R' h.1)

    stand_right : (a : ℕ) (R R' : List Row) (e : ℕ) → a + length R ≡ e → Stand a (R ++ R') → Stand e R'
    stand_right a [] R' e he h = rw (← he, add-zero) h
    stand_right a (r ∷ R) R' e he h = stand_right (suc a) R R' e (omega arith) h.1

    stands : (a : ℕ) (R : List Row) → ((i : ℕ) → i < length R → At (a + i) (row_at R i)) → Stand a R
    stands a [] h = tt
    stands a (r ∷ R) h = (
      rw (add-zero a) at (h 0 (omega arith)),
      stands (suc a) R (λ i l. rw (suc-add a i, ← add-suc a i) (h (suc i) (omega arith))),
    )

    stand_after : (a : ℕ) (u : Targets) (l : Items) (R : List Row) → Stand a (rows op u l ++ R) → Stand (a + size l) R
    stand_after a u l R h = stand_right a (rows op u l) R (a + size l) (ap (λ m. a + m) (length_rows u l)) h

    holds : (C : Context) (l : Items) (a : ℕ) → WF op C l a → (t : Targets) → Stand a (rows op t l) → Holds t l
    unfolding rows
    holds C l a (w_one {rest = rest} n fine w) t h =
        (h.0, holds _ rest (suc n) w t h.1)
    holds C l a (w_close n o) t h = (h.0, tt)
    holds C l a (w_uif {p = p} {q = q} {rest = rest} n o wp wq w) t h =
        let u : Targets = in_uif (suc n + size p + size q) t in
        let R : List Row = rows op u q ++ rows op t rest in
        let h' : Stand (suc n + size p) R = stand_after (suc n) u p R h.1 in (
          h.0,
          holds _ p (suc n) wp u (stand_left (suc n) (rows op u p) R h.1),
          holds _ q (suc n + size p) wq u (stand_left (suc n + size p) (rows op u q) (rows op t rest) h'),
          holds _ rest (suc n + size p + size q) w t (stand_after (suc n + size p) u q (rows op t rest) h'),
        )
    holds C l a (w_uif1 {p = p} {rest = rest} n o wp w) t h =
        let u : Targets = in_uif (suc n + size p + size nil) t in (
          h.0,
          holds _ p (suc n) wp u (stand_left (suc n) (rows op u p) (rows op t rest) h.1),
          tt,
          holds _ rest (suc n + size p) w t (stand_after (suc n) u p (rows op t rest) h.1),
        )
    holds C l a (w_loop {l = body} {rest = rest} n o wl w) t h =
        let u : Targets = in_loop (suc n) (suc n + size body) in (
          h.0,
          holds _ body (suc n) wl u (stand_left (suc n) (rows op u body) (rows op t rest) h.1),
          holds _ rest (suc n + size body) w t (stand_after (suc n) u body (rows op t rest) h.1),
        )
    holds C l a (w_switch {l = body} {rest = rest} n o wl w) t h =
        let u : Targets = in_switch (suc n + size body) t in (
          h.0,
          holds _ body (suc n) wl u (stand_left (suc n) (rows op u body) (rows op t rest) h.1),
          holds _ rest (suc n + size body) w t (stand_after (suc n) u body (rows op t rest) h.1),
        )

    -- What holds of each number and the table's row there holds of each instruction and its row.
    pub table_holds : (C : Context) (l : Items)
        → WF op C l 0
        → ((n : ℕ) → n < size l → At n (row_at (table op l) n))
        → Holds nowhere l
    unfolding table
    table_holds C l w h =
        holds C l 0 w nowhere (stands 0 (rows op nowhere l) (λ i k. rw zero-add (h i (omega (arith, length_rows nowhere l)))))
