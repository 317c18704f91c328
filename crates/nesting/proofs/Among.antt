-- The search for a word says whether it is one of a SWITCH's, as the list of them does.
-- Assumes nothing.
use mathlib.Core.Path.{◌≡◌, refl, sym, ◌∙◌, subst}
use mathlib.Core.Bool.{true, false, or-true}
use mathlib.Core.List.{List}
use mathlib.Core.Logic.{⊎_elim}
use Prim.Native.Nat.{ℕ, zero, suc, ◌+◌, ◌-◌, ◌^◌, ◌<◌, ◌≤◌}
use native.Mathlib.Omega.{arith}
use native.Mathlib.Nat.{eq-or-lt_of_le}
use lib.Dec.{eqb}
use lib.ListN.{get_or}
use borrow.Author.Tests.{eq-eqb, ne_eqb}
use Rattle.blocks.specs.Nesting.{some}
use Rattle.tree.specs.Search.{ending, most_nodes, place_in, is_here}
use Rattle.tree.specs.Inner.Tree.{Tree}
use Rattle.tree.specs.declared.Place.{Place}
use Rattle.tree.specs.declared.Place.TheVariants.{Here, Root, Missing}
use Rattle.tree.proofs.Search.{Found, missing_not_here, never_root, found_first}
use Rattle.nesting.specs.Inner.Held.{newest_first}

some_at : (x from j : ℕ) (values : List ℕ) (n : ℕ) → j < n → x ≡ get_or values (from + j) 0 → some (eqb x) (newest_first values from n) ≡ true
some_at x from j values zero h e = absurd (omega arith)
some_at x from j values (suc n) h e =
    ⊎_elim (λ q. let p : j ≡ n = omega arith in rw (eq-eqb x (get_or values (from + n) 0) (rw p at e)))
    (λ l. rw (some_at x from j values n (omega arith) e) (or-true (eqb x (get_or values (from + n) 0)))) (eq-or-lt_of_le h)

some_none : (x from : ℕ) (values : List ℕ) (n : ℕ) → ((j : ℕ) → j < n → x ≡ get_or values (from + j) 0 → ⊥) → some (eqb x) (newest_first values from n) ≡ false
some_none x from values zero h = refl
some_none x from values (suc n) h = rw (ne_eqb x _ (h n (omega arith)), some_none x from values n (λ j l. h j (omega arith)))

-- The search ends at the word's node where the word is one of those from a place to `end`.
module _ (values links : List ℕ) (from end x : ℕ) (t : Tree values links from end) (small : x < 2 ^ 32) (ordered : from ≤ end) where
  pub here_among : is_here (place_in values links from end x) ≡ some (eqb x) (newest_first values from (end - from))
  here_among = ⊎_elim none (λ l. rw (ne_eqb from end (λ e. omega arith)) (by l (ending values links x most_nodes from 0) refl)) (eq-or-lt_of_le ordered) where
    none : from ≡ end → is_here (place_in values links from end x) ≡ some (eqb x) (newest_first values from (end - from))
    none e = let z : end - from ≡ 0 = omega arith in rw (eq-eqb from end e, z)

    found : Found values from end x → true ≡ some (eqb x) (newest_first values from (end - from))
    found f =
        let a = f.after in
        let b = f.before in
        let q : from + (f.place - from) ≡ f.place = omega arith in
        sym (some_at x from (f.place - from) values (end - from) (omega arith) (rw q f.word))

    here : (j : ℕ) → j < end - from → x ≡ get_or values (from + j) 0 → ending values links x most_nodes from 0 ≡ Here
    here j l q = subst (λ (y : ℕ). ending values links y most_nodes from 0 ≡ Here) (sym q) (t.all (from + j) (omega arith) (omega arith))

    by : from < end → (p : Place) → ending values links x most_nodes from 0 ≡ p → is_here p ≡ some (eqb x) (newest_first values from (end - from))
    by l Here e = found (found_first values links from end t x small l e)
    by l Root e = absurd (never_root values links x most_nodes from 0 e)
    by l (Missing slot) e = sym (some_none x from values (end - from) (λ j u q. missing_not_here slot (sym e ∙ here j u q)))
