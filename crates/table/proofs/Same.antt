-- The nested lists and the table of a program depend on its own instructions alone.
-- Assumes nothing.
use mathlib.Core.Path.{◌≡◌, refl, ap, ◌∙◌}
use mathlib.Core.Bool.{Bool, true, false, cond}
use mathlib.Core.List.{List, [], ◌∷◌}
use Prim.Native.Nat.{ℕ, zero, suc, ◌+◌, ◌≤◌, ◌<◌}
use native.Mathlib.Omega.{arith}
use lib.Dec.{ltb}
use lib.ListN.{length}
use borrow.Author.Tests.{ltb-true, ltb-false}
use Rattle.blocks.specs.Control.{Op, PLAIN, ELSE, ENDIF, BGNLOOP, ENDLOOP, BRK, CONT, DEFAULT, ENDSWITCH, END, UIF, SWITCH, CASE, is}
use Rattle.blocks.specs.Lists.{Items, nil, one, uif, loop, switch, size, item, list_from, nested_lists}
use Rattle.blocks.specs.declared.Targets.{Targets}
use Rattle.blocks.specs.Table.{Row, in_uif, in_loop, in_switch, nowhere, first_label, rows, table, words_of}
use Rattle.blocks.proofs.Bound.{item_cong, from_end}
use Rattle.lists.proofs.Laid.{Laid, list_laid}

cond_same : {A : Type 0} (t : Bool) (x : A) → cond t x x ≡ x
cond_same true x = refl
cond_same false x = refl

module _ (op op' : ℕ → Op) (N : ℕ) (same : (n : ℕ) → n < N → op n ≡ op' n) where
  -- Whether a first part ends with ELSE is looked at by number; past the last instruction no list is left to choose.
  second_same : (n : ℕ) (l : Items)
      → (N ≤ n → l ≡ nil)
      → cond (is ELSE (op n)) l nil ≡ cond (is ELSE (op' n)) l nil
  second_same n l past = on (ltb n N) refl
    where
      on : (t : Bool) → ltb n N ≡ t → cond (is ELSE (op n)) l nil ≡ cond (is ELSE (op' n)) l nil
      on true e = rw (same n (ltb-true n N e))
      on false e = rw (past (ltb-false n N e), cond_same (is ELSE (op n)) nil, cond_same (is ELSE (op' n)) nil)

  item_same : (o : Op) (n : ℕ) (from : ℕ → Items) → ((m : ℕ) → N ≤ m → from m ≡ nil) → item op o from n ≡ item op' o from n
  item_same UIF n from past =
      let p : Items = from (suc n) in
      rw (second_same (n + size p) (from (suc n + size p)) (λ h. past (suc n + size p) (omega arith)))
  item_same PLAIN n from past = refl
  item_same BRK n from past = refl
  item_same CONT n from past = refl
  item_same CASE n from past = refl
  item_same DEFAULT n from past = refl
  item_same ELSE n from past = refl
  item_same ENDIF n from past = refl
  item_same ENDLOOP n from past = refl
  item_same ENDSWITCH n from past = refl
  item_same END n from past = refl
  item_same BGNLOOP n from past = refl
  item_same SWITCH n from past = refl

  from_same : (f n : ℕ) → list_from op N f n ≡ list_from op' N f n
  unfolding list_from
  from_same zero n = refl
  from_same (suc f) n = on (ltb n N) refl (λ m. from_same f m)
    where
      on : (t : Bool)
          → ltb n N ≡ t
          → ((m : ℕ) → list_from op N f m ≡ list_from op' N f m)
          → cond t (item op (op n) (list_from op N f) n) nil ≡ cond t (item op' (op' n) (list_from op' N f) n) nil
      on true e ih =
          item_cong op (op n) n (list_from op N f) (list_from op' N f) (λ m h. ih m)
          ∙ item_same (op n) n (list_from op' N f) (λ m h. from_end op' N f m h)
          ∙ ap (λ o. item op' o (list_from op' N f) n) (same n (ltb-true n N e))
      on false e ih = refl

  label_same : (l : Items) (a : ℕ) → Laid N l a → first_label op l ≡ first_label op' l
  unfolding first_label
  label_same nil a w = refl
  label_same (one n rest) a w = rw (same n (omega (arith, w.0, w.1)), label_same rest (suc a) w.2)
  label_same (uif n p q rest) a w = label_same rest (suc a + size p + size q) w.4
  label_same (loop n l rest) a w = label_same rest (suc a + size l) w.3
  label_same (switch n l rest) a w = label_same rest (suc a + size l) w.3

  rows_same : (l : Items) (a : ℕ) (t : Targets) → Laid N l a → rows op t l ≡ rows op' t l
  unfolding rows
  rows_same nil a t w = refl
  rows_same (one n rest) a t w =
      rw (same n (omega (arith, w.0, w.1)), label_same rest (suc a) w.2, rows_same rest (suc a) t w.2)
  rows_same (uif n p q rest) a t w =
      let u : Targets = in_uif (suc n + size p + size q) t in
      rw (
        rows_same p (suc a) u w.2,
        rows_same q (suc a + size p) u w.3,
        rows_same rest (suc a + size p + size q) t w.4,
      )
  rows_same (loop n l rest) a t w =
      rw (rows_same l (suc a) (in_loop (suc n) (suc n + size l)) w.2, rows_same rest (suc a + size l) t w.3)
  rows_same (switch n l rest) a t w =
      rw (
        label_same l (suc a) w.2,
        rows_same l (suc a) (in_switch (suc n + size l) t) w.2,
        rows_same rest (suc a + size l) t w.3,
      )

  pub lists_same : nested_lists op N ≡ nested_lists op' N
  lists_same = from_same N 0

  pub table_same : table op (nested_lists op N) ≡ table op' (nested_lists op' N)
  unfolding table
  table_same = rows_same (nested_lists op N) 0 nowhere (list_laid op N 0) ∙ ap (rows op' nowhere) lists_same

-- The words of rows depend on the places of their own instructions alone.
pub words_same : (place place' : ℕ → ℕ) (n : ℕ) (R : List Row)
    → ((m : ℕ) → m < n + length R → place m ≡ place' m)
    → words_of place n R ≡ words_of place' n R
unfolding words_of
words_same place place' n [] h = refl
words_same place place' n (r ∷ R) h = rw (h n (omega arith), words_same place place' (suc n) R (λ m k. h m (omega arith)))
