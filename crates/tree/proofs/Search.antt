-- A search in the tree of a SWITCH's words: the word and the node's have the same bits up to the node's depth, so at depth 33 they are
-- the same, and a search that looks at 33 nodes finds each word that is there and no other.
-- Assumes nothing.
use mathlib.Core.Path.{◌≡◌, refl, sym, ap, ◌∙◌}
use mathlib.Core.Bool.{Bool, true, false}
use mathlib.Core.List.{List}
use Prim.Native.Nat.{ℕ, zero, suc, ◌+◌, ◌/◌, ◌%◌, ◌^◌, ◌<◌, ◌≤◌}
use native.Mathlib.Omega.{arith}
use native.Mathlib.Nat.{mod-lt, mod-one, mod-eq_of_lt}
use lib.Dec.{eqb}
use lib.ListN.{get_or}
use lib.Pow.{mod-pow-add}
use borrow.Author.Count.{below_more}
use borrow.Author.Tests.{eq-eqb, ne_eqb, eqb-true, eqb-false}
use Rattle.words.specs.Word.{bit}
use Rattle.tree.specs.Search.{slot_of, ending, most_nodes}
use Rattle.tree.specs.Inner.Tree.{Tree}
use Rattle.tree.specs.declared.Place.{Place}
use Rattle.tree.specs.declared.Place.TheVariants.{Here, Root, Missing}

-- ---- Bits

pub bit_small : (x d : ℕ) → bit x d < 2
bit_small x d = mod-lt (x / 2 ^ d) (omega arith)

-- Words whose first d bits are the same are the same modulo 2 ^ d.
same_bits : (x y d : ℕ) → ((k : ℕ) → k < d → bit x k ≡ bit y k) → x % 2 ^ d ≡ y % 2 ^ d
same_bits x y zero h = mod-one x ∙ sym (mod-one y)
same_bits x y (suc d) h =
    let e : suc d ≡ 1 + d = omega arith in
    rw e (mod-pow-add x 1 d ∙ rw (h d (omega arith), same_bits x y d (λ k l. h k (omega arith))) (sym (mod-pow-add y 1 d)))

same_words : (x y : ℕ) → x < 2 ^ 32 → y < 2 ^ 32 → ((k : ℕ) → k < 32 → bit x k ≡ bit y k) → x ≡ y
same_words x y a b h = sym (mod-eq_of_lt a) ∙ same_bits x y 32 h ∙ mod-eq_of_lt b

-- ---- A search

pub missing_not_here : {A : Type 0} (slot : ℕ) → Missing slot ≡ Here → A
missing_not_here slot e = let z : ◌≡◌ {A = ℕ} 0 1 = cc in absurd (omega arith)

here_not_root : {A : Type 0} → Here ≡ Root → A
here_not_root e = let z : ◌≡◌ {A = ℕ} 0 1 = cc in absurd (omega arith)

pub root_not_missing : {A : Type 0} (slot : ℕ) → Root ≡ Missing slot → A
root_not_missing slot e = let z : ◌≡◌ {A = ℕ} 0 1 = cc in absurd (omega arith)

module _ (values links : List ℕ) (x : ℕ) where
  -- The three ways of a search that may look at one node more.
  pub ends_here : (m node d : ℕ) → x ≡ get_or values node 0 → ending values links x (suc m) node d ≡ Here
  unfolding ending
  ends_here m node d e = rw (eq-eqb _ _ e)

  pub ends_at : (m node d : ℕ) → x ≡ get_or values node 0 → ending values links x m node d ≡ Here
  unfolding ending
  ends_at zero node d e = refl
  ends_at (suc m) node d e = ends_here m node d e

  pub ends_missing : (m node d : ℕ) → (x ≡ get_or values node 0 → ⊥) → get_or links (slot_of node d x) 0 ≡ 0 → ending values links x (suc m) node d ≡ Missing (slot_of node d x)
  unfolding ending
  ends_missing m node d n z = rw (ne_eqb _ _ n, eq-eqb _ _ z)

  pub goes_on : (m node d : ℕ) → (x ≡ get_or values node 0 → ⊥) → (get_or links (slot_of node d x) 0 ≡ 0 → ⊥)
      → ending values links x (suc m) node d ≡ ending values links x m (get_or links (slot_of node d x) 0) (d + 1)
  unfolding ending
  goes_on m node d n z = rw (ne_eqb _ _ n, ne_eqb _ _ z)

  -- By them.
  pub ways : (P : Place → Type 0) (m node d : ℕ)
      → (x ≡ get_or values node 0 → P Here)
      → ((x ≡ get_or values node 0 → ⊥) → get_or links (slot_of node d x) 0 ≡ 0 → P (Missing (slot_of node d x)))
      → ((x ≡ get_or values node 0 → ⊥) → (get_or links (slot_of node d x) 0 ≡ 0 → ⊥) → P (ending values links x m (get_or links (slot_of node d x) 0) (d + 1)))
      → P (ending values links x (suc m) node d)
  ways P m node d here missing on = at_node (eqb x (get_or values node 0)) refl where
    at_link : (x ≡ get_or values node 0 → ⊥) → (t : Bool) → eqb (get_or links (slot_of node d x) 0) 0 ≡ t → P (ending values links x (suc m) node d)
    at_link n true e = rw (ends_missing m node d n (eqb-true _ _ e)) (missing n (eqb-true _ _ e))
    at_link n false e = rw (goes_on m node d n (eqb-false _ _ e)) (on n (eqb-false _ _ e))

    at_node : (t : Bool) → eqb x (get_or values node 0) ≡ t → P (ending values links x (suc m) node d)
    at_node true e = rw (ends_here m node d (eqb-true _ _ e)) (here (eqb-true _ _ e))
    at_node false e = at_link (eqb-false _ _ e) (eqb (get_or links (slot_of node d x) 0) 0) refl

  pub never_root : (m node d : ℕ) → ending values links x m node d ≡ Root → ⊥
  unfolding ending
  never_root zero node d e = here_not_root e
  never_root (suc m) node d e =
      ways (λ (p : Place). p ≡ Root → ⊥) m node d (λ _ q. here_not_root q) (λ _ _ q. root_not_missing _ (sym q))
      (λ _ _ q. never_root m (get_or links (slot_of node d x) 0) (d + 1) q) e

-- ---- A search stands at a node, the bits of x up to whose depth are the node's

pub record Standing (values links : List ℕ) (from end : ℕ) (t : Tree values links from end) (x node depth : ℕ) : Type 0 where
  pub after : from ≤ node
  pub before : node < end
  pub level : t.level node ≡ depth
  pub agrees : (k : ℕ) → k < depth → bit x k ≡ bit (get_or values node 0) k

module _ (values links : List ℕ) (from end : ℕ) (t : Tree values links from end) (x : ℕ) where
  pub stands_first : from < end → Standing values links from end t x from 0
  stands_first h = record { after = omega arith; before = h; level = t.top; agrees = λ k l. absurd (omega arith) }

  module _ (node depth : ℕ) (s : Standing values links from end t x node depth) where
    pub stands_next : (get_or links (slot_of node depth x) 0 ≡ 0 → ⊥) → Standing values links from end t x (get_or links (slot_of node depth x) 0) (depth + 1)
    stands_next z =
        let c = t.below node (bit x depth) s.after s.before (bit_small x depth) z in
        let a = s.after in
        let e : t.level node ≡ depth = s.level in
        record {
          after = omega (arith, c.later);
          before = c.inside;
          level = c.deeper ∙ ap (λ (n : ℕ). n + 1) e;
          agrees =
              below_more (λ (k : ℕ). bit x k ≡ bit (get_or values (get_or links (slot_of node depth x) 0) 0) k) depth
              (λ k l. s.agrees k l ∙ sym (c.shares k (rw e l)))
              (sym (rw e at c.turns));
        }

    -- A node that lies so deep has the word itself.
    stands_deep : x < 2 ^ 32 → 32 ≤ depth → x ≡ get_or values node 0
    stands_deep a h = same_words x (get_or values node 0) a (t.words node s.after s.before) (λ k l. s.agrees k (omega arith))

-- ---- What the search says

-- What was found is a word from a place to `end`.
pub record Found (values : List ℕ) (from end x : ℕ) : Type 0 where
  pub place : ℕ
  pub after : from ≤ place
  pub before : place < end
  pub word : x ≡ get_or values place 0

module _ (values links : List ℕ) (from end : ℕ) (t : Tree values links from end) (x : ℕ) (small : x < 2 ^ 32) where
  at_node : (node d : ℕ) → Standing values links from end t x node d → x ≡ get_or values node 0 → Found values from end x
  at_node node d s e = record { place = node; after = s.after; before = s.before; word = e }

  found_from : (m node d : ℕ) → Standing values links from end t x node d → d + m ≡ most_nodes → ending values links x m node d ≡ Here → Found values from end x
  unfolding ending
  found_from zero node d s c e = at_node node d s (stands_deep values links from end t x node d s small (omega arith))
  found_from (suc m) node d s c e =
      ways values links x (λ (p : Place). p ≡ Here → Found values from end x) m node d
      (λ q _. at_node node d s q)
      (λ _ _ q. missing_not_here _ q)
      (λ _ z q. found_from m (get_or links (slot_of node d x) 0) (d + 1) (stands_next values links from end t x node d s z) (omega arith) q)
      e

  pub found_first : from < end → ending values links x most_nodes from 0 ≡ Here → Found values from end x
  found_first h e = found_from most_nodes from 0 (stands_first values links from end t x h) refl e
