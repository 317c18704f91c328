-- The list at an instruction is made of the lists at later ones, whatever the bound.
-- Assumes nothing.
use mathlib.Core.Path.{◌≡◌, refl, sym, ap, ◌∙◌}
use mathlib.Core.Bool.{cond}
use Prim.Native.Nat.{ℕ, zero, suc, ◌+◌, ◌≤◌, ◌<◌}
use native.Mathlib.Omega.{arith}
use lib.Dec.{ltb}
use borrow.Author.Tests.{lt-ltb, le-ltb}
use Rattle.blocks.specs.Control.{Op, PLAIN, ELSE, ENDIF, BGNLOOP, ENDLOOP, BRK, CONT, DEFAULT, ENDSWITCH, END, UIF, SWITCH, CASE, is}
use Rattle.blocks.specs.Lists.{Items, nil, one, size, item, list_from, list_at}

module _ (op : ℕ → Op) where
  pub item_cong : (o : Op) (n : ℕ) (u v : ℕ → Items) → ((m : ℕ) → n < m → u m ≡ v m) → item op o u n ≡ item op o v n
  item_cong PLAIN n u v h = ap (one n) (h (suc n) (omega arith))
  item_cong BRK n u v h = ap (one n) (h (suc n) (omega arith))
  item_cong CONT n u v h = ap (one n) (h (suc n) (omega arith))
  item_cong CASE n u v h = ap (one n) (h (suc n) (omega arith))
  item_cong DEFAULT n u v h = ap (one n) (h (suc n) (omega arith))
  item_cong ELSE n u v h = refl
  item_cong ENDIF n u v h = refl
  item_cong ENDLOOP n u v h = refl
  item_cong ENDSWITCH n u v h = refl
  item_cong END n u v h = refl
  item_cong UIF n u v h =
      let p : Items = v (suc n) in
      let q : Items = cond (is ELSE (op (n + size p))) (v (suc n + size p)) nil in
      rw (h (suc n) (omega arith), h (suc n + size p) (omega arith), h (suc n + size p + size q) (omega arith))
  item_cong BGNLOOP n u v h = rw (h (suc n) (omega arith), h (suc n + size (v (suc n))) (omega arith))
  item_cong SWITCH n u v h = rw (h (suc n) (omega arith), h (suc n + size (v (suc n))) (omega arith))

  module _ (N : ℕ) where
    pub from_end : (f n : ℕ) → N ≤ n → list_from op N f n ≡ nil
    unfolding list_from
    from_end zero n h = refl
    from_end (suc f) n h = rw (le-ltb n N h)

    -- Any bound that covers the instructions left gives the same list.
    from_enough : (f g n : ℕ) → N ≤ n + f → N ≤ n + g → list_from op N f n ≡ list_from op N g n
    unfolding list_from
    from_enough zero g n h l = sym (from_end g n (omega arith))
    from_enough (suc f) zero n h l = from_end (suc f) n (omega arith)
    from_enough (suc f) (suc g) n h l =
        ap (λ (t : Items). cond (ltb n N) t nil)
        (item_cong (op n) n (list_from op N f) (list_from op N g) (λ m k. from_enough f g m (omega arith) (omega arith)))

    pub list_end : (n : ℕ) → N ≤ n → list_at op N n ≡ nil
    list_end n h = from_end N n h

    pub list_item : (n : ℕ) → n < N → list_at op N n ≡ item op (op n) (list_at op N) n
    unfolding list_from
    list_item n h =
        from_enough N (suc N) n (omega arith) (omega arith) ∙ rw (lt-ltb n N h)
