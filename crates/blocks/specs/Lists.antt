-- The nested lists of a program.
-- Assumes nothing.
use Rattle.std.specs.Prelude.{ℕ, zero, suc, ◌+◌, cond, ltb}
use Rattle.blocks.specs.Control.{Op, PLAIN, ELSE, ENDIF, BGNLOOP, ENDLOOP, BRK, CONT, DEFAULT, ENDSWITCH, END, UIF, SWITCH, CASE, is}

-- "A block holds instructions, and an instruction may open a block: UIF, BGNLOOP or SWITCH" (01, Blocks).
-- A list of instructions, each named by its number in file order: `nil` is the empty list; the others are an instruction, the
-- lists of the block that it opens (a UIF's first and second part) and, last, the list after it.
pub data Items : Type 0 where
  nil : Items
  one : ℕ → Items → Items
  uif : ℕ → Items → Items → Items → Items
  loop : ℕ → Items → Items → Items
  switch : ℕ → Items → Items → Items

-- How many instructions a list holds, those of its blocks too.
abbrev pub size : Items → ℕ
size nil = 0
size (one n rest) = suc (size rest)
size (uif n p q rest) = suc (size p + (size q + size rest))
size (loop n l rest) = suc (size l + size rest)
size (switch n l rest) = suc (size l + size rest)

module _ (op : ℕ → Op) where
  -- The list whose first instruction is number n; `from` gives the list from any later number on.
  -- "ELSE, ENDIF, ENDLOOP and ENDSWITCH are the last instruction of the list they close, so a UIF without ELSE has an empty
  -- second part." (01, Blocks) The last instruction of a UIF's first part is the one before its end, number n + size p.
  abbrev pub item : Op → (ℕ → Items) → ℕ → Items
  item PLAIN from n = one n (from (suc n))
  item BRK from n = one n (from (suc n))
  item CONT from n = one n (from (suc n))
  item CASE from n = one n (from (suc n))
  item DEFAULT from n = one n (from (suc n))
  item ELSE from n = one n nil
  item ENDIF from n = one n nil
  item ENDLOOP from n = one n nil
  item ENDSWITCH from n = one n nil
  item END from n = one n nil
  item UIF from n =
      let p : Items = from (suc n) in
      let q : Items = cond (is ELSE (op (n + size p))) (from (suc n + size p)) nil in
      uif n p q (from (suc n + size p + size q))
  item BGNLOOP from n =
      let l : Items = from (suc n) in
      loop n l (from (suc n + size l))
  item SWITCH from n =
      let l : Items = from (suc n) in
      switch n l (from (suc n + size l))

  module _ (N : ℕ) where
    -- The list from number n on in a program of N instructions: up to the mark that closes it, and at the latest to the
    -- program's last. The first number only makes the definition total: as many as instructions are left are enough.
    unfoldable pub list_from : ℕ → ℕ → Items
    list_from zero n = nil
    list_from (suc f) n = cond (ltb n N) (item (op n) (list_from f) n) nil

    abbrev pub list_at : ℕ → Items
    list_at n = list_from N n

  -- The nested lists of a program of N instructions: its outermost list.
  abbrev pub nested_lists : ℕ → Items
  nested_lists N = list_at N 0
