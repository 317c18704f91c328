-- What the readers of blocks find: the list at an instruction by what the instruction is, and where lists and blocks end.
-- Assumes nothing.
use mathlib.Core.Path.{◌≡◌, refl, sym, ap, ◌∙◌}
use mathlib.Core.Bool.{true, false, false≢true}
use mathlib.Core.List.{List}
use mathlib.Core.Logic.{⊎_elim}
use Prim.Native.Nat.{ℕ, suc, ◌+◌, ◌-◌, ◌<◌, ◌≤◌}
use native.Mathlib.Omega.{arith}
use native.Mathlib.Numerals.{add-one}
use lib.ListN.{length, get_or}
use Rattle.blocks.specs.Control.{Op, PLAIN, ELSE, ENDIF, BGNLOOP, ENDLOOP, BRK, CONT, DEFAULT, ENDSWITCH, END, UIF, SWITCH, CASE, is, is_label, closes}
use Rattle.blocks.specs.Lists.{Items, nil, one, uif, loop, switch, size, item}
use Rattle.blocks.specs.Nesting.{opens}
use Rattle.blocks.specs.Table.{first_label}
use Rattle.blocks.proofs.Bound.{list_item, list_end}
use Rattle.lists.specs.Lists.{block_of, op_in, list_in, block_in}
use Rattle.lists.proofs.Laid.{cond_cases, list_fits}
use Rattle.lists.proofs.Tests.{uif_kind, loop_kind, switch_kind, else_kind, loop_or_switch, not_else, closing_cases, last_no_label}

-- ---- By the instruction

module _ (op : ℕ → Op) (from : ℕ → Items) (n : ℕ) where
  item_last : (o : Op) → closes o ≡ true → item op o from n ≡ one n nil
  item_last o h = closing_cases (λ o. item op o from n ≡ one n nil) o h refl refl refl refl refl

  item_plain : (o : Op) → closes o ≡ false → opens o ≡ false → item op o from n ≡ one n (from (suc n))
  item_plain PLAIN h k = refl
  item_plain BRK h k = refl
  item_plain CONT h k = refl
  item_plain CASE h k = refl
  item_plain DEFAULT h k = refl
  item_plain ELSE h k = absurd (false≢true (sym h))
  item_plain ENDIF h k = absurd (false≢true (sym h))
  item_plain ENDLOOP h k = absurd (false≢true (sym h))
  item_plain ENDSWITCH h k = absurd (false≢true (sym h))
  item_plain END h k = absurd (false≢true (sym h))
  item_plain UIF h k = absurd (false≢true (sym k))
  item_plain BGNLOOP h k = absurd (false≢true (sym k))
  item_plain SWITCH h k = absurd (false≢true (sym k))

  item_label : (o : Op) → is_label o ≡ true → item op o from n ≡ one n (from (suc n))
  item_label CASE h = refl
  item_label DEFAULT h = refl
  item_label PLAIN h = absurd (false≢true h)
  item_label BRK h = absurd (false≢true h)
  item_label CONT h = absurd (false≢true h)
  item_label ELSE h = absurd (false≢true h)
  item_label ENDIF h = absurd (false≢true h)
  item_label ENDLOOP h = absurd (false≢true h)
  item_label ENDSWITCH h = absurd (false≢true h)
  item_label END h = absurd (false≢true h)
  item_label UIF h = absurd (false≢true h)
  item_label BGNLOOP h = absurd (false≢true h)
  item_label SWITCH h = absurd (false≢true h)

  -- What holds of each form of a block.
  item_opening : (P : Items → Type 0) (o : Op)
      → opens o ≡ true
      → ((q : Items) → P (uif n (from (suc n)) q (from (suc n + size (from (suc n)) + size q))))
      → P (loop n (from (suc n)) (from (suc n + size (from (suc n)))))
      → P (switch n (from (suc n)) (from (suc n + size (from (suc n)))))
      → P (item op o from n)
  item_opening P UIF h u l s = u _
  item_opening P BGNLOOP h u l s = l
  item_opening P SWITCH h u l s = s
  item_opening P PLAIN h u l s = absurd (false≢true h)
  item_opening P BRK h u l s = absurd (false≢true h)
  item_opening P CONT h u l s = absurd (false≢true h)
  item_opening P CASE h u l s = absurd (false≢true h)
  item_opening P DEFAULT h u l s = absurd (false≢true h)
  item_opening P ELSE h u l s = absurd (false≢true h)
  item_opening P ENDIF h u l s = absurd (false≢true h)
  item_opening P ENDLOOP h u l s = absurd (false≢true h)
  item_opening P ENDSWITCH h u l s = absurd (false≢true h)
  item_opening P END h u l s = absurd (false≢true h)

  no_block : (o : Op) → opens o ≡ false → block_of (item op o from n) ≡ nil
  no_block PLAIN h = refl
  no_block BRK h = refl
  no_block CONT h = refl
  no_block CASE h = refl
  no_block DEFAULT h = refl
  no_block ELSE h = refl
  no_block ENDIF h = refl
  no_block ENDLOOP h = refl
  no_block ENDSWITCH h = refl
  no_block END h = refl
  no_block UIF h = absurd (false≢true (sym h))
  no_block BGNLOOP h = absurd (false≢true (sym h))
  no_block SWITCH h = absurd (false≢true (sym h))

module _ (kinds : List ℕ) (n : ℕ) (h : n < length kinds) where
  at_item : list_in kinds n ≡ item (op_in kinds) (op_in kinds n) (list_in kinds) n
  at_item = list_item (op_in kinds) (length kinds) n h

  pub at_last : closes (op_in kinds n) ≡ true → list_in kinds n ≡ one n nil
  at_last k = at_item ∙ item_last (op_in kinds) (list_in kinds) n (op_in kinds n) k

  pub at_plain : closes (op_in kinds n) ≡ false → opens (op_in kinds n) ≡ false → list_in kinds n ≡ one n (list_in kinds (suc n))
  at_plain k l = at_item ∙ item_plain (op_in kinds) (list_in kinds) n (op_in kinds n) k l

  at_label : is_label (op_in kinds n) ≡ true → list_in kinds n ≡ one n (list_in kinds (suc n))
  at_label k = at_item ∙ item_label (op_in kinds) (list_in kinds) n (op_in kinds n) k

  -- What holds of each form of a block holds of the list at an instruction that opens one.
  pub at_opening : (P : Items → Type 0)
      → opens (op_in kinds n) ≡ true
      → ((q : Items) → P (uif n (list_in kinds (suc n)) q (list_in kinds (suc n + size (list_in kinds (suc n)) + size q))))
      → P (loop n (list_in kinds (suc n)) (list_in kinds (suc n + size (list_in kinds (suc n)))))
      → P (switch n (list_in kinds (suc n)) (list_in kinds (suc n + size (list_in kinds (suc n)))))
      → P (list_in kinds n)
  at_opening P k u l s = rw at_item (item_opening (op_in kinds) (list_in kinds) n P (op_in kinds n) k u l s)

  pub at_none : opens (op_in kinds n) ≡ false → block_in kinds n ≡ nil
  at_none k = rw at_item (no_block (op_in kinds) (list_in kinds) n (op_in kinds n) k)

  pub at_loop : get_or kinds n 0 ≡ 0x83 → block_in kinds n ≡ loop n (list_in kinds (suc n)) nil
  at_loop k = rw (at_item, loop_kind (get_or kinds n 0) k)

  pub at_switch : get_or kinds n 0 ≡ 0x91 → block_in kinds n ≡ switch n (list_in kinds (suc n)) nil
  at_switch k = rw (at_item, switch_kind (get_or kinds n 0) k)

  -- A UIF's second part is the list after its first, or empty.
  pub at_uif : (P : Items → Type 0)
      → get_or kinds n 0 ≡ 0x90
      → ((q : Items)
      → (0 < size q → q ≡ list_in kinds (suc n + size (list_in kinds (suc n))))
      → P (uif n (list_in kinds (suc n)) q nil))
      → P (block_in kinds n)
  at_uif P k f =
      let p : Items = list_in kinds (suc n) in
      let e : ℕ = suc n + size p in
      rw (at_item, uif_kind (get_or kinds n 0) k)
      (cond_cases (λ q. P (uif n p q nil)) (is ELSE (op_in kinds (n + size p))) (list_in kinds e) nil
      (λ c. f (list_in kinds e) (λ some. refl))
      (λ c. f nil (λ some. absurd (omega arith))))

  -- A UIF whose first part ends with the instruction before number p.
  module _ (p : ℕ) (k : get_or kinds n 0 ≡ 0x90) (e : p ≡ suc n + size (list_in kinds (suc n))) where
    last : n + size (list_in kinds (suc n)) ≡ p - 1
    last = omega arith

    at_else : get_or kinds (p - 1) 0 ≡ 0x81 → block_in kinds n ≡ uif n (list_in kinds (suc n)) (list_in kinds p) nil
    at_else l = rw (at_item, uif_kind (get_or kinds n 0) k, last, else_kind (get_or kinds (p - 1) 0) l, ← e)

    at_if : (get_or kinds (p - 1) 0 ≡ 0x81 → ⊥) → block_in kinds n ≡ uif n (list_in kinds (suc n)) nil nil
    at_if l = rw (at_item, uif_kind (get_or kinds n 0) k, last, not_else (get_or kinds (p - 1) 0) l)

-- ---- Where lists and blocks end

module _ (kinds : List ℕ) where
  pub list_within : (n : ℕ) → n ≤ length kinds → n + size (list_in kinds n) ≤ length kinds
  list_within n h = list_fits (op_in kinds) (length kinds) n h

  pub past_end : (n : ℕ) → length kinds ≤ n → list_in kinds n ≡ nil
  past_end n h = list_end (op_in kinds) (length kinds) n h

module _ (kinds : List ℕ) (n : ℕ) (h : n < length kinds) where
  pub size_last : closes (op_in kinds n) ≡ true → size (list_in kinds n) ≡ 1
  size_last k = ap size (at_last kinds n h k)

  pub size_plain : closes (op_in kinds n) ≡ false → opens (op_in kinds n) ≡ false → size (list_in kinds n) ≡ 1 + size (list_in kinds (n + 1))
  size_plain k l = rw (add-one n) (omega (arith, ap size (at_plain kinds n h k l)))

  -- A list that begins with a block goes on past it.
  pub size_opening : opens (op_in kinds n) ≡ true → size (list_in kinds n) ≡ size (block_in kinds n) + size (list_in kinds (n + size (block_in kinds n)))
  size_opening k =
      let p : Items = list_in kinds (suc n) in
      let j : n + suc (size p + 0) ≡ suc n + size p = omega arith in
      at_opening kinds n h
      (λ l. size l ≡ size (block_of l) + size (list_in kinds (n + size (block_of l)))) k
      (λ q.
      let i : n + suc (size p + (size q + 0)) ≡ suc n + size p + size q = omega arith in
      rw i (omega arith))
      (rw j (omega arith))
      (rw j (omega arith))

  pub block_some : opens (op_in kinds n) ≡ true → 0 < size (block_in kinds n)
  block_some k = at_opening kinds n h (λ l. 0 < size (block_of l)) k (λ q. omega arith) (omega arith) (omega arith)

  pub size_none : opens (op_in kinds n) ≡ false → size (block_in kinds n) ≡ 0
  size_none k = ap size (at_none kinds n h k)

  -- A loop or a SWITCH.
  pub size_body : opens (op_in kinds n) ≡ true → (get_or kinds n 0 ≡ 0x90 → ⊥) → size (block_in kinds n) ≡ 1 + size (list_in kinds (n + 1))
  size_body k u =
      rw (add-one n)
      (⊎_elim (λ v. rw (at_loop kinds n h v) (omega arith)) (λ v. rw (at_switch kinds n h v) (omega arith)) (loop_or_switch (get_or kinds n 0) k u))

  module _ (u : get_or kinds n 0 ≡ 0x90) where
    first : n + 1 + size (list_in kinds (n + 1)) ≡ suc n + size (list_in kinds (suc n))
    first = rw (add-one n)

    pub size_if : (get_or kinds (n + 1 + size (list_in kinds (n + 1)) - 1) 0 ≡ 0x81 → ⊥) → size (block_in kinds n) ≡ 1 + size (list_in kinds (n + 1))
    size_if l = rw (at_if kinds n h _ u first l) (omega (arith, first))

    pub size_else : get_or kinds (n + 1 + size (list_in kinds (n + 1)) - 1) 0 ≡ 0x81
        → size (block_in kinds n) ≡ 1 + size (list_in kinds (n + 1)) + size (list_in kinds (n + 1 + size (list_in kinds (n + 1))))
    size_else l = rw (at_else kinds n h _ u first l) (omega (arith, first))

pub ruleset sizes = (list_within, past_end, size_last, size_plain, size_opening, block_some, size_none, size_body, size_if, size_else)

-- ---- Labels

module _ (kinds : List ℕ) (n : ℕ) where
  pub label_end : length kinds ≤ n → first_label (op_in kinds) (list_in kinds n) ≡ 0
  unfolding first_label
  label_end h = ap (first_label (op_in kinds)) (past_end kinds n h)

  module _ (h : n < length kinds) where
    pub label_last : closes (op_in kinds n) ≡ true → first_label (op_in kinds) (list_in kinds n) ≡ 0
    unfolding first_label
    label_last k = rw (at_last kinds n h k, last_no_label (op_in kinds n) k)

    pub label_here : is_label (op_in kinds n) ≡ true → first_label (op_in kinds) (list_in kinds n) ≡ n
    unfolding first_label
    label_here k = rw (at_label kinds n h k, k)

    pub label_plain : closes (op_in kinds n) ≡ false
        → opens (op_in kinds n) ≡ false
        → is_label (op_in kinds n) ≡ false
        → first_label (op_in kinds) (list_in kinds n) ≡ first_label (op_in kinds) (list_in kinds (n + 1))
    unfolding first_label
    label_plain k l i = rw (add-one n, at_plain kinds n h k l, i)

    pub label_opening : opens (op_in kinds n) ≡ true
        → first_label (op_in kinds) (list_in kinds n) ≡ first_label (op_in kinds) (list_in kinds (n + size (block_in kinds n)))
    unfolding first_label
    label_opening k =
        let p : Items = list_in kinds (suc n) in
        let j : n + suc (size p + 0) ≡ suc n + size p = omega arith in
        at_opening kinds n h
        (λ l. first_label (op_in kinds) l ≡ first_label (op_in kinds) (list_in kinds (n + size (block_of l)))) k
        (λ q.
        let i : n + suc (size p + (size q + 0)) ≡ suc n + size p + size q = omega arith in
        rw i)
        (rw j)
        (rw j)

pub ruleset labels = (label_end, label_last, label_here, label_plain, label_opening, block_some)
