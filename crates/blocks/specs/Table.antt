-- The prepared table.
-- Assumes nothing.
use Rattle.std.specs.Prelude.{ℕ, suc, ◌+◌, ◌*◌, cond, List, [], ◌∷◌, ◌++◌, get_or}
use Rattle.blocks.specs.Control.{Op, PLAIN, ELSE, ENDIF, BGNLOOP, ENDLOOP, BRK, CONT, DEFAULT, ENDSWITCH, END, UIF, SWITCH, CASE, is_label}
pub use Rattle.blocks.specs.declared.Targets.{Targets}
use Rattle.blocks.specs.Lists.{Items, nil, one, uif, loop, switch, size}

-- The words of an instruction's row that steer, as instruction numbers.
pub record Row : Type 0 where
  pub jump : ℕ
  pub label : ℕ

abbrev pub row : ℕ → ℕ → Row
row jump label = record { jump = jump; label = label }

-- `Targets`, a struct of src/lib.rt: where BRK, CONT or ENDLOOP, and ELSE in a list go, as numbers `brk`, `cont`, `after`.
-- "BRK goes after the end of the innermost enclosing loop or SWITCH." "ENDLOOP and CONT go after BGNLOOP, CONT that of the
-- innermost enclosing loop." "ELSE, reached from above, goes after ENDIF." (01, Blocks) Nowhere in the outermost list.
abbrev pub nowhere : Targets
nowhere = record { brk = 0; cont = 0; after = 0 }

-- In the lists of a UIF, a loop and a SWITCH, by the instruction after the block and the first one of the loop's list.
abbrev pub in_uif : ℕ → Targets → Targets
in_uif after t = record { brk = t.brk; cont = t.cont; after = after }

abbrev pub in_loop : ℕ → ℕ → Targets
in_loop first after = record { brk = after; cont = first; after = 0 }

abbrev pub in_switch : ℕ → Targets → Targets
in_switch after t = record { brk = after; cont = t.cont; after = 0 }

-- "Jump, as instruction numbers: UIF its false case; ELSE, ENDLOOP, CONT, BRK as above; SWITCH the one after ENDSWITCH. Label:
-- SWITCH its first label; CASE and DEFAULT the next label of their SWITCH, 0 for none. All else 0." (01, Blocks)
abbrev pub jump_of : Op → Targets → ℕ
jump_of ELSE t = t.after
jump_of ENDLOOP t = t.cont
jump_of CONT t = t.cont
jump_of BRK t = t.brk
jump_of CASE t = 0
jump_of DEFAULT t = 0
jump_of PLAIN t = 0
jump_of ENDIF t = 0
jump_of BGNLOOP t = 0
jump_of ENDSWITCH t = 0
jump_of END t = 0
jump_of UIF t = 0
jump_of SWITCH t = 0

-- Of a UIF at n with the first part p: "UIF with x = 0 goes after its ELSE, or after ENDIF if none", which is the last of p.
abbrev pub uif_row : ℕ → Items → Row
uif_row n p = row (suc n + size p) 0

abbrev pub loop_row : Row
loop_row = row 0 0

module _ (op : ℕ → Op) where
  -- The number of a list's first own label, 0 for none.
  unfoldable pub first_label : Items → ℕ
  first_label nil = 0
  first_label (one n rest) = cond (is_label (op n)) n (first_label rest)
  first_label (uif n p q rest) = first_label rest
  first_label (loop n l rest) = first_label rest
  first_label (switch n l rest) = first_label rest

  -- Of an instruction that opens no block, before the list `rest`.
  abbrev pub row_of : Op → Targets → Items → Row
  row_of o t rest = row (jump_of o t) (cond (is_label o) (first_label rest) 0)

  -- Of a SWITCH at n with the list l.
  abbrev pub switch_row : ℕ → Items → Row
  switch_row n l = row (suc n + size l) (first_label l)

  -- The rows of a list's instructions, in file order.
  unfoldable pub rows : Targets → Items → List Row
  rows t nil = []
  rows t (one n rest) = row_of (op n) t rest ∷ rows t rest
  rows t (uif n p q rest) = uif_row n p ∷ (rows (in_uif (suc n + size p + size q) t) p ++ (rows (in_uif (suc n + size p + size q) t) q ++ rows t rest))
  rows t (loop n l rest) = loop_row ∷ (rows (in_loop (suc n) (suc n + size l)) l ++ rows t rest)
  rows t (switch n l rest) = switch_row n l ∷ (rows (in_switch (suc n + size l) t) l ++ rows t rest)

  unfoldable pub table : Items → List Row
  table l = rows nowhere l

abbrev pub row_at : List Row → ℕ → Row
row_at T n = get_or T n (row 0 0)

-- "The prepared table has three words an instruction: byte place, jump, label." (01, Blocks)
abbrev pub row_words : ℕ
row_words = 3

abbrev pub place_in : List ℕ → ℕ → ℕ
place_in words n = get_or words (row_words * n) 0

abbrev pub row_in : List ℕ → ℕ → Row
row_in words n = row (get_or words (row_words * n + 1) 0) (get_or words (row_words * n + 2) 0)

-- The words of the rows from instruction n on; `place` gives an instruction's byte place.
unfoldable pub words_of : (ℕ → ℕ) → ℕ → List Row → List ℕ
words_of place n [] = []
words_of place n (r ∷ R) = place n ∷ r.jump ∷ r.label ∷ words_of place (suc n) R
