-- The lists of a program lie within it, instruction after instruction.
-- Assumes nothing.
use mathlib.Core.Path.{◌≡◌, refl}
use mathlib.Core.Bool.{Bool, true, false, cond}
use Prim.Native.Nat.{ℕ, zero, suc, ◌+◌, ◌≤◌, ◌<◌}
use native.Mathlib.Omega.{arith}
use lib.Dec.{ltb}
use borrow.Author.Tests.{ltb-true}
use Rattle.blocks.specs.Control.{Op, PLAIN, ELSE, ENDIF, BGNLOOP, ENDLOOP, BRK, CONT, DEFAULT, ENDSWITCH, END, UIF, SWITCH, CASE, is, is_label}
use Rattle.blocks.specs.Lists.{Items, nil, one, uif, loop, switch, size, item, list_from, list_at}
use Rattle.blocks.specs.Table.{first_label}

pub cond_cases : {A : Type 0} (P : A → Type 0) (t : Bool) (x y : A) → (t ≡ true → P x) → (t ≡ false → P y) → P (cond t x y)
cond_cases P true x y a b = a refl
cond_cases P false x y a b = b refl

module _ (N : ℕ) where
  -- The list l is laid out from number a on: each instruction has the number after the one before it, and is one of N.
  abbrev pub Laid : Items → ℕ → Type 0
  Laid nil a = Unit {0}
  Laid (one n rest) a = (n ≡ a) × (a < N) × Laid rest (suc a)
  Laid (uif n p q rest) a = (n ≡ a) × (a < N) × Laid p (suc a) × Laid q (suc a + size p) × Laid rest (suc a + size p + size q)
  Laid (loop n l rest) a = (n ≡ a) × (a < N) × Laid l (suc a) × Laid rest (suc a + size l)
  Laid (switch n l rest) a = (n ≡ a) × (a < N) × Laid l (suc a) × Laid rest (suc a + size l)

module _ (op : ℕ → Op) (N : ℕ) where
  item_laid : (o : Op) (n : ℕ) (from : ℕ → Items) → ((m : ℕ) → Laid N (from m) m) → n < N → Laid N (item op o from n) n
  item_laid PLAIN n from h l = (refl, l, h (suc n))
  item_laid BRK n from h l = (refl, l, h (suc n))
  item_laid CONT n from h l = (refl, l, h (suc n))
  item_laid CASE n from h l = (refl, l, h (suc n))
  item_laid DEFAULT n from h l = (refl, l, h (suc n))
  item_laid ELSE n from h l = (refl, l, tt)
  item_laid ENDIF n from h l = (refl, l, tt)
  item_laid ENDLOOP n from h l = (refl, l, tt)
  item_laid ENDSWITCH n from h l = (refl, l, tt)
  item_laid END n from h l = (refl, l, tt)
  item_laid UIF n from h l =
      let e : ℕ = suc n + size (from (suc n)) in (
        refl,
        l,
        h (suc n),
        cond_cases (λ (x : Items). Laid N x e) (is ELSE (op (n + size (from (suc n))))) (from e) nil (λ c. h e) (λ c. tt),
        h _,
      )
  item_laid BGNLOOP n from h l = (refl, l, h (suc n), h _)
  item_laid SWITCH n from h l = (refl, l, h (suc n), h _)

  from_laid : (f n : ℕ) → Laid N (list_from op N f n) n
  unfolding list_from
  from_laid zero n = tt
  from_laid (suc f) n =
      cond_cases (λ (x : Items). Laid N x n) (ltb n N) (item op (op n) (list_from op N f) n) nil
      (λ e. item_laid (op n) n (list_from op N f) (from_laid f) (ltb-true n N e)) (λ e. tt)

  pub list_laid : (n : ℕ) → Laid N (list_at op N n) n
  list_laid n = from_laid N n

  pub laid_fits : (l : Items) (a : ℕ) → Laid N l a → a ≤ N → a + size l ≤ N
  laid_fits nil a w h = omega arith
  laid_fits (one n rest) a w h = omega (arith, laid_fits rest (suc a) w.2 w.1)
  laid_fits (uif n p q rest) a w h =
      let hp = laid_fits p (suc a) w.2 w.1 in
      let hq = laid_fits q (suc a + size p) w.3 hp in
      omega (arith, laid_fits rest (suc a + size p + size q) w.4 hq)
  laid_fits (loop n l rest) a w h =
      let hl = laid_fits l (suc a) w.2 w.1 in
      omega (arith, laid_fits rest (suc a + size l) w.3 hl)
  laid_fits (switch n l rest) a w h =
      let hl = laid_fits l (suc a) w.2 w.1 in
      omega (arith, laid_fits rest (suc a + size l) w.3 hl)

  -- A label is one of the instructions.
  pub laid_label : (l : Items) (a : ℕ) → Laid N l a → first_label op l ≤ N
  unfolding first_label
  laid_label nil a w = omega arith
  laid_label (one n rest) a w =
      cond_cases (λ (x : ℕ). x ≤ N) (is_label (op n)) n (first_label op rest) (λ e. omega (arith, w.0, w.1))
      (λ e. laid_label rest (suc a) w.2)
  laid_label (uif n p q rest) a w = laid_label rest (suc a + size p + size q) w.4
  laid_label (loop n l rest) a w = laid_label rest (suc a + size l) w.3
  laid_label (switch n l rest) a w = laid_label rest (suc a + size l) w.3

  pub list_fits : (n : ℕ) → n ≤ N → n + size (list_at op N n) ≤ N
  list_fits n h = laid_fits (list_at op N n) n (list_laid n) h
