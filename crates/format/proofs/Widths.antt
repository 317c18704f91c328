-- The widths of a record's fields together: what they add up to, how many there are, and that each is 1, 2 or 4.
-- Assumes nothing.
use borrow.Author.Tests.{ltb-true, ltb-false}
use mathlib.Core.Path.{◌≡◌, refl, sym, ◌∙◌}
use mathlib.Core.Bool.{Bool, true, false, cond}
use mathlib.Core.List.{List, [], ◌∷◌, ◌++◌}
use mathlib.Core.Logic.{◌⊎◌, inl, inr}
use Prim.Native.Nat.{ℕ, zero, suc, ◌+◌, ◌*◌, ◌<◌, ◌≤◌}
use native.Mathlib.Omega.{arith}
use native.Mathlib.Nat.{mul-suc, mul-zero, zero-add}
use lib.Dec.{eqb, ltb}
use lib.ListN.{length, get_or, get_or-eq_default}
use Rattle.format.specs.Kinds.{Form, declaration, immediate, instruction, unknown, form_of, body_of, length_of, times, widths, within}

-- Those of one destination and of one source.
abbrev pub of_destination : List ℕ
of_destination = 1 ∷ 2 ∷ 1 ∷ []

abbrev pub of_source : List ℕ
of_source = 1 ∷ 2 ∷ 1 ∷ 1 ∷ []

-- They add up to the length of the body.
abbrev pub sum : List ℕ → ℕ
sum [] = 0
sum (w ∷ ws) = w + sum ws

sum_append : (a b : List ℕ) → sum (a ++ b) ≡ sum a + sum b
sum_append [] b = sym (zero-add (sum b))
sum_append (w ∷ a) b = omega (arith, sum_append a b)

sum_times : (p : List ℕ) (n : ℕ) → sum (times n p) ≡ sum p * n
sum_times p zero = sym (mul-zero (sum p))
sum_times p (suc n) = sum_append p (times n p) ∙ omega (arith, sum_times p n, mul-suc (sum p) n)

sum_is : (f : Form) → body_of f < 255 → sum (widths f) ≡ body_of f
sum_is declaration h = refl
sum_is immediate h = refl
sum_is (instruction d s) h =
    sum_append (times d of_destination) (times s of_source) ∙ omega (arith, sum_times of_destination d, sum_times of_source s)
sum_is unknown h = absurd (omega arith)

pub widths_sum : (k : ℕ) → length_of k < 255 → sum (widths (form_of k)) ≡ length_of k
unfolding length_of
widths_sum k h = sum_is (form_of k) h

-- They are few: the table's tests in its order, each with the widths of its form.
pub few_widths : (k : ℕ) → length (widths (form_of k)) ≤ 19
few_widths k =
    few (eqb k 0x01) _ _ (omega arith)
    (few (eqb k 0x02) _ _ (omega arith)
    (few (within 0x10 0x1E k) _ _ (omega arith)
    (few (within 0x20 0x37 k) _ _ (omega arith)
    (few (within 0x40 0x52 k) _ _ (omega arith)
    (few (within 0x56 0x5F k) _ _ (omega arith)
    (few (within 0x60 0x64 k) _ _ (omega arith)
    (few (eqb k 0x70) _ _ (omega arith)
    (few (within 0x80 0x89 k) _ _ (omega arith)
    (few (within 0x90 0x92 k) _ _ (omega arith) (omega arith))))))))))
  where
    few : (b : Bool) (f g : Form) → length (widths f) ≤ 19 → length (widths g) ≤ 19 → length (widths (cond b f g)) ≤ 19
    few true f g p q = p
    few false f g p q = q

-- Each is 1, 2 or 4.
abbrev pub Width : ℕ → Type 0
Width w = (w ≡ 1) ⊎ (w ≡ 2) ⊎ (w ≡ 4)

abbrev pub Known : List ℕ → Type 0
Known [] = Unit {0}
Known (w ∷ ws) = Width w × Known ws

known_append : (a b : List ℕ) → Known a → Known b → Known (a ++ b)
known_append [] b h g = g
known_append (w ∷ a) b h g = (h.0, known_append a b h.1 g)

known_times : (p : List ℕ) → Known p → (n : ℕ) → Known (times n p)
known_times p h zero = tt
known_times p h (suc n) = known_append p (times n p) h (known_times p h n)

one : Width 1
one = inl refl

two : Width 2
two = inr (inl refl)

four : Width 4
four = inr (inr refl)

known_form : (f : Form) → Known (widths f)
known_form declaration = (one, (two, (two, tt)))
known_form immediate = (four, (four, (four, (four, tt))))
known_form (instruction d s) =
    known_append (times d of_destination) (times s of_source)
    (known_times of_destination (one, (two, (one, tt))) d) (known_times of_source (one, (two, (one, (one, tt)))) s)
known_form unknown = tt

pub widths_known : (k : ℕ) → Known (widths (form_of k))
widths_known k = known_form (form_of k)

-- None is 0, so a 0 stands past their end.
no_zero : (w : ℕ) → Width w → w ≡ 0 → ⊥
no_zero w (inl e) z = omega arith
no_zero w (inr (inl e)) z = omega arith
no_zero w (inr (inr e)) z = omega arith

known_end : (ws : List ℕ) → Known ws → (i : ℕ) → get_or ws i 0 ≡ 0 → length ws ≤ i
known_end [] h i e = omega arith
known_end (w ∷ ws) h zero e = absurd (no_zero w h.0 e)
known_end (w ∷ ws) h (suc i) e = omega (arith, known_end ws h.1 i e)

pub widths_end : (k i : ℕ) → get_or (widths (form_of k)) i 0 ≡ 0 → length (widths (form_of k)) ≤ i
widths_end k i e = known_end (widths (form_of k)) (widths_known k) i e

-- No field has more than four bytes.
pub known_small : (ws : List ℕ) → Known ws → (i : ℕ) → get_or ws i 0 ≤ 4
known_small [] k i = omega arith
known_small (w ∷ ws) (inl e, k) zero = omega (arith, e)
known_small (w ∷ ws) (inr (inl e), k) zero = omega (arith, e)
known_small (w ∷ ws) (inr (inr e), k) zero = omega (arith, e)
known_small (w ∷ ws) (h, k) (suc i) = known_small ws k i

pub known_sum : (ws : List ℕ) → Known ws → sum ws ≤ 4 * length ws
known_sum [] k = omega arith
known_sum (w ∷ ws) (inl e, k) = omega (arith, e, known_sum ws k)
known_sum (w ∷ ws) (inr (inl e), k) = omega (arith, e, known_sum ws k)
known_sum (w ∷ ws) (inr (inr e), k) = omega (arith, e, known_sum ws k)

-- A width that is not 0 is one of them.
pub inside_by : (ws : List ℕ) (i w : ℕ) → w ≡ get_or ws i 0 → (w ≡ 0 → ⊥) → i < length ws
inside_by ws i w e h = on (ltb i (length ws)) refl
  where
    on : (t : Bool) → ltb i (length ws) ≡ t → i < length ws
    on true p = ltb-true i (length ws) p
    on false p = absurd (h (e ∙ get_or-eq_default ws 0 (ltb-false i (length ws) p)))
