-- The rows that the readers write one after the other are the rows of the list.
-- Assumes nothing.
use mathlib.Core.Path.{◌≡◌, refl, sym}
use mathlib.Core.Bool.{true, false, cond}
use mathlib.Core.List.{List, [], ◌∷◌, ◌++◌, append-nil, append_assoc}
use Prim.Native.Nat.{ℕ, suc, ◌+◌, ◌*◌, ◌<◌, ◌≤◌}
use native.Mathlib.Omega.{arith}
use native.Mathlib.Numerals.{add-one}
use lib.ListN.{length, get_or}
use lib.Seq.{sets, length-sets}
use Rattle.blocks.specs.Control.{Op, PLAIN, ELSE, ENDIF, BGNLOOP, ENDLOOP, BRK, CONT, DEFAULT, ENDSWITCH, END, UIF, SWITCH, CASE, is, is_label, closes, op_of}
use Rattle.blocks.specs.Lists.{Items, nil, one, uif, loop, switch, size}
use Rattle.blocks.specs.Nesting.{opens}
use Rattle.blocks.specs.Run.{most_instructions}
use Rattle.blocks.specs.declared.Targets.{Targets}
use Rattle.blocks.specs.Table.{in_uif, in_loop, in_switch, jump_of, first_label, row_of, row, rows, row_words, words_of}
use Rattle.blocks.proofs.Agree.{length_rows}
use Rattle.lists.specs.Lists.{block_of, op_in, list_in, block_in}
use Rattle.rows.specs.Opened.{past_first, first_row, opened_by, inside_of}
use Rattle.rows.specs.declared.Opened.{Opened}
use Rattle.table.specs.Inner.Rows.{words_in, Near}
use Rattle.lists.proofs.Laid.{Laid, cond_cases, list_laid, laid_label}
use Rattle.lists.proofs.Readers.{list_within, past_end, at_none, at_last, at_plain, at_opening, at_loop, at_switch, at_uif, block_some}
use Rattle.lists.proofs.Tests.{uif_kind, loop_kind, switch_kind, opening_kind, last_no_label}
use Rattle.table.proofs.Words.{rows_then}

-- ---- Numbers that fit a row

module _ (kinds : List ℕ) (few : length kinds ≤ most_instructions) where
  pub label_within : (n : ℕ) → first_label (op_in kinds) (list_in kinds n) ≤ most_instructions
  label_within n =
      omega (arith, laid_label (op_in kinds) (length kinds) (list_in kinds n) n (list_laid (op_in kinds) (length kinds) n), few)

  pub next_near : (n : ℕ) → n < length kinds → n + 1 ≤ most_instructions
  next_near n h = omega (arith, few)

  -- The block that instruction n opens.
  module _ (n : ℕ) (o : Opened) (h : n < length kinds) (found : o ≡ opened_by (op_in kinds) n (block_in kinds n)) where
    block_near : n + size (block_in kinds n) ≤ most_instructions
    block_near = omega (arith, list_within kinds n (omega arith), block_most (list_in kinds n), few)
      where
        block_most : (l : Items) → size (block_of l) ≤ size l
        block_most nil = omega arith
        block_most (one n rest) = omega arith
        block_most (uif n p q rest) = omega arith
        block_most (loop n l rest) = omega arith
        block_most (switch n l rest) = omega arith

    pub end_near : o.end ≤ most_instructions
    end_near = rw found block_near

    pub opening_jump_near : o.jump ≤ most_instructions
    opening_jump_near = rw found (omega (arith, block_near, within (block_in kinds n)))
      where
        within : (l : Items) → (first_row (op_in kinds) n l).jump ≤ n + size l
        within nil = omega arith
        within (one m rest) = omega arith
        within (uif m p q rest) = omega arith
        within (loop m l rest) = omega arith
        within (switch m l rest) = omega arith

    pub opening_label_near : o.label ≤ most_instructions
    opening_label_near = rw found (omega (arith, within (list_in kinds n) (list_laid (op_in kinds) (length kinds) n), few))
      where
        within : (l : Items) → Laid (length kinds) l n → (first_row (op_in kinds) n (block_of l)).label ≤ length kinds
        within nil w = omega arith
        within (one m rest) w = omega arith
        within (uif m p q rest) w = omega arith
        within (loop m l rest) w = omega arith
        within (switch m l rest) w = laid_label (op_in kinds) (length kinds) l (suc n) w.2

pub inside_near : (t u : Targets) (k first end : ℕ)
    → Near t
    → u ≡ inside_of (op_of k) first end t
    → first ≤ most_instructions
    → end ≤ most_instructions
    → Near u
inside_near t u k first end near e hf he =
    rw e
    (cond_cases Near (is BGNLOOP (op_of k)) _ _ (λ _. record { brk = he; cont = hf; after = omega arith })
    (λ _.
    cond_cases Near (is SWITCH (op_of k)) _ _ (λ _. record { brk = he; cont = near.cont; after = omega arith })
    (λ _. record { brk = near.brk; cont = near.cont; after = he })))

pub jump_near : (o : Op) (t : Targets) → Near t → jump_of o t ≤ most_instructions
jump_near ELSE t near = near.after
jump_near ENDLOOP t near = near.cont
jump_near CONT t near = near.cont
jump_near BRK t near = near.brk
jump_near CASE t near = omega arith
jump_near DEFAULT t near = omega arith
jump_near PLAIN t near = omega arith
jump_near ENDIF t near = omega arith
jump_near BGNLOOP t near = omega arith
jump_near ENDSWITCH t near = omega arith
jump_near END t near = omega arith
jump_near UIF t near = omega arith
jump_near SWITCH t near = omega arith

-- ---- Rows one after the other

empty : (l : Items) → size l ≡ 0 → l ≡ nil
empty nil h = refl
empty (one n rest) h = absurd (omega arith)
empty (uif n p q rest) h = absurd (omega arith)
empty (loop n l rest) h = absurd (omega arith)
empty (switch n l rest) h = absurd (omega arith)

-- A second part starts after the instruction that opens the block.
pub second_later : (kinds : List ℕ) (n : ℕ) (o : Opened)
    → n < length kinds
    → opens (op_in kinds n) ≡ true
    → o ≡ opened_by (op_in kinds) n (block_in kinds n)
    → n < o.second
second_later kinds n o there opening found =
    rw found
    (at_opening kinds n there (λ l. n < past_first n (block_of l)) opening (λ q. omega arith) (omega arith) (omega arith))

module _ (kinds places : List ℕ) (t : Targets) where
  abbrev place : ℕ → ℕ
  place n = get_or places n 0

  abbrev op : ℕ → Op
  op = op_in kinds

  -- The rows of a list that begins with a block.
  rows_split : (m : ℕ)
      → m < length kinds
      → opens (op m) ≡ true
      → rows op t (list_in kinds m) ≡ rows op t (block_in kinds m) ++ rows op t (list_in kinds (m + size (block_in kinds m)))
  unfolding rows
  rows_split m h k =
      let p : Items = list_in kinds (suc m) in
      let j : m + suc (size p + 0) ≡ suc m + size p = omega arith in
      at_opening kinds m h (λ l. rows op t l ≡ rows op t (block_of l) ++ rows op t (list_in kinds (m + size (block_of l)))) k
      (λ q.
      let i : m + suc (size p + (size q + 0)) ≡ suc m + size p + size q = omega arith in
      let u : Targets = in_uif (suc m + size p + size q) t in
      rw (i, append-nil (rows op u q), append_assoc (rows op u p) (rows op u q)))
      (rw (j, append-nil (rows op (in_loop (suc m) (suc m + size p)) p)))
      (rw (j, append-nil (rows op (in_switch (suc m + size p) t) p)))

  -- The words of a list's rows, written from instruction n on over the words w.
  module _ (n : ℕ) (w : List ℕ) where
    pub words_end : length kinds ≤ n → sets w (row_words * n) (words_in kinds places t n (list_in kinds n)) ≡ w
    unfolding words_in words_of rows
    words_end h = rw (past_end kinds n h)

    module _ (h : n < length kinds) where
      pub words_last : closes (op n) ≡ true
          → sets w (row_words * n) (words_in kinds places t n (list_in kinds n))
          ≡ sets w (row_words * n) (place n ∷ jump_of (op n) t ∷ cond (is_label (op n)) (first_label op (list_in kinds (n + 1))) 0 ∷ [])
      unfolding words_in words_of rows first_label
      words_last k = rw (at_last kinds n h k, last_no_label (op n) k)

      pub words_plain : closes (op n) ≡ false
          → opens (op n) ≡ false
          → sets w (row_words * n) (words_in kinds places t n (list_in kinds n))
          ≡ sets
          (sets w (row_words * n) (place n ∷ jump_of (op n) t ∷ cond (is_label (op n)) (first_label op (list_in kinds (n + 1))) 0 ∷ []))
          (row_words * (n + 1)) (words_in kinds places t (n + 1) (list_in kinds (n + 1)))
      unfolding words_in words_of rows
      words_plain k l =
          rw (add-one n, at_plain kinds n h k l)
          (sym (rows_then place n (suc n) (row_of op (op n) t (list_in kinds (suc n)) ∷ []) (rows op t (list_in kinds (suc n))) w _ _ refl (omega arith) refl))

      pub words_opening : opens (op n) ≡ true
          → sets w (row_words * n) (words_in kinds places t n (list_in kinds n))
          ≡ sets (sets w (row_words * n) (words_in kinds places t n (block_in kinds n)))
          (row_words * (n + size (block_in kinds n)))
          (words_in kinds places t (n + size (block_in kinds n)) (list_in kinds (n + size (block_in kinds n))))
      unfolding words_in
      words_opening k =
          let r : ℕ = n + size (block_in kinds n) in
          rw (rows_split n h k)
          (sym (rows_then place n r (rows op t (block_in kinds n)) (rows op t (list_in kinds r)) w _ _ refl (omega (arith, length_rows op t (block_in kinds n))) refl))

  -- The block that instruction n opens, written over the words w: its row, its first list and its second one.
  module _ (n : ℕ) (w : List ℕ) (h : n < length kinds) where
    abbrev list : Items
    list = list_in kinds (suc n)

    abbrev first_part : ℕ → ℕ → Targets → List ℕ
    first_part j l u = sets (sets w (row_words * n) (place n ∷ j ∷ l ∷ [])) (row_words * suc n) (words_in kinds places u (suc n) list)

    row_then : (j l : ℕ) (u : Targets) → first_part j l u ≡ sets w (row_words * n) (words_of place n (row j l ∷ rows op u list))
    unfolding words_in words_of
    row_then j l u = rows_then place n (suc n) (row j l ∷ []) (rows op u list) w _ _ refl (omega arith) refl

    -- Of a block l of the kind o: what is written where it has no second part, and where it has one.
    abbrev first_of : Op → Items → List ℕ
    first_of o l = first_part (first_row op n l).jump (first_row op n l).label (inside_of o (suc n) (n + size l) t)

    abbrev Once : Op → Items → Type 0
    Once o l = n + size l ≤ past_first n l → first_of o l ≡ sets w (row_words * n) (words_of place n (rows op t l))

    abbrev Twice : Op → Items → Type 0
    Twice o l =
        past_first n l < n + size l
        → sets (first_of o l) (row_words * past_first n l)
        (words_in kinds places (inside_of o (suc n) (n + size l) t) (past_first n l) (list_in kinds (past_first n l)))
        ≡ sets w (row_words * n) (words_of place n (rows op t l))

    body_end : n + suc (size list + 0) ≡ suc n + size list
    body_end = omega arith

    by_loop : get_or kinds n 0 ≡ 0x83 → Once (op n) (block_in kinds n) × Twice (op n) (block_in kinds n)
    unfolding rows
    by_loop k =
        let u : Targets = in_loop (suc n) (suc n + size list) in
        rw (at_loop kinds n h k, loop_kind (get_or kinds n 0) k)
        (λ le. rw (body_end, append-nil (rows op u list)) (row_then 0 0 u), λ lt. absurd (omega arith))

    by_switch : get_or kinds n 0 ≡ 0x91 → Once (op n) (block_in kinds n) × Twice (op n) (block_in kinds n)
    unfolding rows
    by_switch k =
        let u : Targets = in_switch (suc n + size list) t in
        rw (at_switch kinds n h k, switch_kind (get_or kinds n 0) k)
        (λ le. rw (body_end, append-nil (rows op u list)) (row_then (suc n + size list) (first_label op list) u), λ lt. absurd (omega arith))

    by_uif : get_or kinds n 0 ≡ 0x90 → Once (op n) (block_in kinds n) × Twice (op n) (block_in kinds n)
    unfolding rows words_in
    by_uif k =
        rw (uif_kind (get_or kinds n 0) k)
        (at_uif kinds n h (λ l. Once UIF l × Twice UIF l) k
        (λ q second.
        let p : ℕ = suc n + size list in
        let u : Targets = in_uif (p + size q) t in
        let fin : n + suc (size list + (size q + 0)) ≡ p + size q = omega arith in (
          λ le.
              let none : q ≡ nil = empty q (omega arith) in
              rw (fin, none, append-nil (rows op (in_uif (p + 0) t) list)) (row_then p 0 (in_uif (p + 0) t)),
          λ lt.
              let same : list_in kinds p ≡ q = sym (second (omega arith)) in
              rw (fin, append-nil (rows op u q))
              (rows_then place n p (row p 0 ∷ rows op u list) (rows op u q) w _ _ (row_then p 0 u) (omega (arith, length_rows op u list)) (rw same)),
        )))

    written_block : opens (op n) ≡ true → Once (op n) (block_in kinds n) × Twice (op n) (block_in kinds n)
    written_block k = opening_kind (get_or kinds n 0) k _ by_loop by_uif by_switch

  -- The same by what was found of the block.
  module _ (n : ℕ) (o : Opened) (w w1 : List ℕ)
      (h : n < length kinds)
      (opening : opens (op n) ≡ true)
      (found : o ≡ opened_by (op_in kinds) n (block_in kinds n))
      (wrote : w1 ≡ sets w (row_words * n) (get_or places n 0 ∷ o.jump ∷ o.label ∷ []))
      (u : Targets) (goes : u ≡ inside_of (op_of (get_or kinds n 0)) (n + 1) o.end t)
      (w2 : List ℕ) (inside : w2 ≡ sets w1 (row_words * (n + 1)) (words_in kinds places u (n + 1) (list_in kinds (n + 1))))
    where
      pub opens_once : o.end ≤ o.second → w2 ≡ sets w (row_words * n) (words_in kinds places t n (block_in kinds n))
      unfolding words_in
      opens_once le = rw (inside, wrote, goes, found, add-one n) ((written_block n w h opening).0 (rw found at le))

      pub opens_twice : o.second < o.end
          → (w3 : List ℕ)
          → w3 ≡ sets w2 (row_words * o.second) (words_in kinds places u o.second (list_in kinds o.second))
          → w3 ≡ sets w (row_words * n) (words_in kinds places t n (block_in kinds n))
      unfolding words_in
      opens_twice lt w3 more = rw (more, inside, wrote, goes, found, add-one n) ((written_block n w h opening).1 (rw found at lt))

pub ruleset written = (words_end, words_last, words_plain, words_opening, block_some, label_within, jump_near, length-sets)
