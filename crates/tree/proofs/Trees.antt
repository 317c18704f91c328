-- One node more leaves the tree of a SWITCH's words a tree: a link that is set was 0, so each search that found its word finds it
-- as before, and the search for the new word goes on to the new node.
-- Assumes nothing.
use mathlib.Core.Path.{◌≡◌, refl, sym, ap, ◌∙◌}
use mathlib.Core.Bool.{Bool, true, false, cond}
use mathlib.Core.List.{List}
use mathlib.Core.Logic.{◌⊎◌, inl, inr, ⊎_elim}
use Prim.Native.Nat.{ℕ, zero, suc, ◌+◌, ◌*◌, ◌^◌, ◌<◌, ◌≤◌}
use native.Mathlib.Omega.{arith}
use native.Mathlib.Nat.{eq-or-lt_of_le}
use lib.Dec.{eqb}
use lib.ListN.{length, get_or, set, length-set}
use lib.Seq.{get_or-set_same, get_or-set_other}
use borrow.Author.Tests.{eq-eqb, ne_eqb, eqb-true, eqb-false}
use Rattle.words.specs.Word.{bit}
use Rattle.tree.specs.Search.{slot_of, ending, most_nodes, place_in, cleared, hung}
use Rattle.tree.specs.Inner.Tree.{Child, Tree}
use Rattle.tree.specs.declared.Place.{Place}
use Rattle.tree.specs.declared.Place.TheVariants.{Here, Root, Missing}
use Rattle.tree.proofs.Search.{bit_small, missing_not_here, root_not_missing, ends_here, ends_at, goes_on, ways, never_root, Standing, stands_first, stands_next}

-- ---- Where a new node hangs

-- Where a search for x has ended at a link: at a node that x agrees with up to its depth, and turns from at that bit.
record Spot (values links : List ℕ) (from end : ℕ) (level : ℕ → ℕ) (x slot : ℕ) : Type 0 where
  node : ℕ
  after : from ≤ node
  before : node < end
  link : slot ≡ slot_of node (level node) x
  free : get_or links slot 0 ≡ 0
  agrees : (k : ℕ) → k < level node → bit x k ≡ bit (get_or values node 0) k

module _ (values links : List ℕ) (from end : ℕ) (t : Tree values links from end) (x slot : ℕ) where
  spot_from : (m node d : ℕ) → Standing values links from end t x node d → ending values links x m node d ≡ Missing slot → Spot values links from end t.level x slot
  unfolding ending
  spot_from zero node d s e = missing_not_here slot (sym e)
  spot_from (suc m) node d s e =
      ways values links x (λ (p : Place). p ≡ Missing slot → Spot values links from end t.level x slot) m node d
      (λ _ q. missing_not_here slot (sym q))
      (λ _ z q.
      let h : slot_of node d x ≡ slot = cc in
      record {
        node = node;
        after = s.after;
        before = s.before;
        link = rw s.level (sym h);
        free = rw h at z;
        agrees = λ k l. s.agrees k (rw s.level at l);
      })
      (λ _ z q. spot_from m (get_or links (slot_of node d x) 0) (d + 1) (stands_next values links from end t x node d s z) q)
      e

-- ---- What a write leaves

-- Lists that agree with the tree's on its words, and on each link of its nodes that is not 0.
module _ (values links values' links' : List ℕ) (from end : ℕ) (t : Tree values links from end)
    (words : (k : ℕ) → k < end → get_or values' k 0 ≡ get_or values k 0)
    (kept : (p b : ℕ) → from ≤ p → p < end → b < 2 → (get_or links (2 * p + b) 0 ≡ 0 → ⊥) → get_or links' (2 * p + b) 0 ≡ get_or links (2 * p + b) 0)
  where
    -- What a search found it finds.
    finds_still : (x m node d : ℕ) → from ≤ node → node < end → ending values links x m node d ≡ Here → ending values' links' x m node d ≡ Here
    unfolding ending
    finds_still x zero node d a l e = refl
    finds_still x (suc m) node d a l e =
        ways values links x (λ (p : Place). p ≡ Here → ending values' links' x (suc m) node d ≡ Here) m node d
        (λ h _. ends_here values' links' x m node d (h ∙ sym (words node l)))
        (λ _ _ q. missing_not_here _ q)
        (λ n z q.
        let c = t.below node (bit x d) a l (bit_small x d) z in
        let k : get_or links' (slot_of node d x) 0 ≡ get_or links (slot_of node d x) 0 = kept node (bit x d) a l (bit_small x d) z in
        goes_on values' links' x m node d (λ h. n (h ∙ words node l)) (λ h. z (sym k ∙ h))
        ∙ rw k (finds_still x m (get_or links (slot_of node d x) 0) (d + 1) (omega (arith, c.later)) c.inside q))
        e

    -- And what it missed it finds where the link leads to it.
    finds_new : (x slot m node d : ℕ) → from ≤ node → node < end → get_or values' end 0 ≡ x → get_or links' slot 0 ≡ end
        → ending values links x m node d ≡ Missing slot → ending values' links' x m node d ≡ Here
    unfolding ending
    finds_new x slot zero node d a l v w e = refl
    finds_new x slot (suc m) node d a l v w e =
        ways values links x (λ (p : Place). p ≡ Missing slot → ending values' links' x (suc m) node d ≡ Here) m node d
        (λ _ q. missing_not_here slot (sym q))
        (λ n z q.
        let h : slot_of node d x ≡ slot = cc in
        let g : get_or links' (slot_of node d x) 0 ≡ end = rw h w in
        goes_on values' links' x m node d (λ u. n (u ∙ words node l)) (λ u. omega arith) ∙ rw g (ends_at values' links' x m end (d + 1) (sym v)))
        (λ n z q.
        let c = t.below node (bit x d) a l (bit_small x d) z in
        let k : get_or links' (slot_of node d x) 0 ≡ get_or links (slot_of node d x) 0 = kept node (bit x d) a l (bit_small x d) z in
        goes_on values' links' x m node d (λ h. n (h ∙ words node l)) (λ h. z (sym k ∙ h))
        ∙ rw k (finds_new x slot m (get_or links (slot_of node d x) 0) (d + 1) (omega (arith, c.later)) c.inside v w q))
        e

    -- A child is one still, in a tree that may have more nodes.
    module _ (level : ℕ → ℕ) (same : (k : ℕ) → from ≤ k → k < end → level k ≡ t.level k) where
      child_still : (e p b c : ℕ) → end ≤ e → from ≤ p → p < end → Child values end t.level p b c → Child values' e level p b c
      child_still e p b c h a l q =
          let i = q.inside in
          let lp : level p ≡ t.level p = same p a l in
          let lc : level c ≡ t.level c = same c (omega (arith, q.later)) i in
          record {
            later = q.later;
            inside = omega arith;
            deeper = rw (lp, lc) q.deeper;
            shares = λ k u. rw (words c i, words p l) (q.shares k (rw lp at u));
            turns = rw (lp, words c i) q.turns;
          }

      -- The tree with one node more, which has no links, and hangs where a link is another than before.
      grown : level from ≡ 0 → ((b : ℕ) → b < 2 → get_or links' (2 * end + b) 0 ≡ 0)
          → ((p b : ℕ) → from ≤ p → p < end → b < 2 → (get_or links' (2 * p + b) 0 ≡ get_or links (2 * p + b) 0) ⊎ Child values' (end + 1) level p b (get_or links' (2 * p + b) 0))
          → ending values' links' (get_or values' end 0) most_nodes from 0 ≡ Here → get_or values' end 0 < 2 ^ 32
          → Tree values' links' from (end + 1)
      grown top new hangs found small =
          record {
            level = level;
            top = top;
            words = λ j a l. ⊎_elim (λ e. rw e small) (λ u. rw (words j u) (t.words j a u)) (eq-or-lt_of_le (at_most j l));
            below =
                λ p b a l h z.
                ⊎_elim (λ e. absurd (z (rw e (new b h))))
                (λ u.
                ⊎_elim (λ k. rw k (child_still (end + 1) p b (get_or links (2 * p + b) 0) (omega arith) a u (t.below p b a u h (λ y. z (k ∙ y)))))
                (λ c. c) (hangs p b a u h))
                (eq-or-lt_of_le (at_most p l));
            all =
                λ j a l.
                ⊎_elim (λ e. rw e found)
                (λ u. rw (words j u) (finds_still (get_or values j 0) most_nodes from 0 (omega arith) (omega arith) (t.all j a u)))
                (eq-or-lt_of_le (at_most j l));
          }
        where
          at_most : (k : ℕ) → k < end + 1 → k ≤ end
          at_most k l = omega arith

-- ---- Words and links of others are written

pub tree_same : (values links values' links' : List ℕ) (from end : ℕ) → Tree values links from end → ((k : ℕ) → k < end → get_or values' k 0 ≡ get_or values k 0)
    → ((k : ℕ) → k < 2 * end → get_or links' k 0 ≡ get_or links k 0) → Tree values' links' from end
tree_same values links values' links' from end t words same =
    record {
      level = t.level;
      top = t.top;
      words = λ j a l. rw (words j l) (t.words j a l);
      below =
          λ p b a l h z.
          let k : get_or links' (2 * p + b) 0 ≡ get_or links (2 * p + b) 0 = same (2 * p + b) (omega arith) in
          rw k (child_still values links values' links' from end t words kept t.level (λ k g l. refl) end p b (get_or links (2 * p + b) 0) (omega arith) a l (t.below p b a l h (λ y. z (k ∙ y))));
      all = λ j a l. rw (words j l) (finds_still values links values' links' from end t words kept (get_or values j 0) most_nodes from 0 (omega arith) (omega arith) (t.all j a l));
    }
  where
    kept : (p b : ℕ) → from ≤ p → p < end → b < 2 → (get_or links (2 * p + b) 0 ≡ 0 → ⊥) → get_or links' (2 * p + b) 0 ≡ get_or links (2 * p + b) 0
    kept p b a l h z = same (2 * p + b) (omega arith)

pub tree_none : (values links : List ℕ) (end : ℕ) → Tree values links end end
tree_none values links end = record { level = λ _. 0; top = refl; words = λ j a l. absurd (omega arith); below = λ p b a l. absurd (omega arith); all = λ j a l. absurd (omega arith) }

-- ---- A new word

-- The new node has no links.
module _ (links : List ℕ) (n : ℕ) (room : 2 * n + 1 < length links) where
  cleared_below : (k : ℕ) → k < 2 * n → get_or (cleared links n) k 0 ≡ get_or links k 0
  cleared_below k h = get_or-set_other (set links (2 * n) 0) (2 * n + 1) k 0 0 (λ q. omega arith) ∙ get_or-set_other links (2 * n) k 0 0 (λ q. omega arith)

  cleared_new : (b : ℕ) → b < 2 → get_or (cleared links n) (2 * n + b) 0 ≡ 0
  cleared_new zero h =
      let e : 2 * n + 0 ≡ 2 * n = omega arith in
      rw e (get_or-set_other (set links (2 * n) 0) (2 * n + 1) (2 * n) 0 0 (λ q. omega arith) ∙ get_or-set_same links (2 * n) 0 0 (omega arith))
  cleared_new (suc zero) h = get_or-set_same (set links (2 * n) 0) (2 * n + 1) 0 0 (simp length-set (omega arith))
  cleared_new (suc (suc b)) h = absurd (omega arith)

-- The new word stands behind the others, and its node hangs where the search for it ended.
module _ (values links : List ℕ) (from end x : ℕ) (t : Tree values links from end) (small : x < 2 ^ 32) (fits : end < length values) (room : 2 * end + 1 < length links) where
  words_below : (k : ℕ) → k < end → get_or (set values end x) k 0 ≡ get_or values k 0
  words_below k h = get_or-set_other values end k x 0 (λ q. omega arith)

  word_new : get_or (set values end x) end 0 ≡ x
  word_new = get_or-set_same values end x 0 fits

  small_new : get_or (set values end x) end 0 < 2 ^ 32
  small_new = rw word_new small

  links_cleared : (p b : ℕ) → p < end → b < 2 → get_or (cleared links end) (2 * p + b) 0 ≡ get_or links (2 * p + b) 0
  links_cleared p b l h = cleared_below links end room (2 * p + b) (omega arith)

  more_root : from ≡ end → Tree (set values end x) (cleared links end) from (end + 1)
  more_root e =
      grown values links (set values end x) (cleared links end) from end t words_below (λ p b a l h z. absurd (omega arith)) (λ _. 0) (λ k a l. absurd (omega arith)) refl
      (cleared_new links end room) (λ p b a l h. absurd (omega arith)) (rw e (ends_at (set values end x) (cleared links end) (get_or (set values end x) end 0) most_nodes end 0 refl)) small_new

  module _ (some-node : from < end) where
    more_here : ending values links x most_nodes from 0 ≡ Here → Tree (set values end x) (cleared links end) from (end + 1)
    more_here e =
        grown values links (set values end x) (cleared links end) from end t words_below kept t.level (λ k a l. refl) t.top
        (cleared_new links end room) (λ p b a l h. inl (links_cleared p b l h))
        (rw word_new (finds_still values links (set values end x) (cleared links end) from end t words_below kept x most_nodes from 0 (omega arith) some-node e)) small_new
      where
        kept : (p b : ℕ) → from ≤ p → p < end → b < 2 → (get_or links (2 * p + b) 0 ≡ 0 → ⊥) → get_or (cleared links end) (2 * p + b) 0 ≡ get_or links (2 * p + b) 0
        kept p b a l h z = links_cleared p b l h

    module _ (slot : ℕ) (missed : ending values links x most_nodes from 0 ≡ Missing slot) where
      spot : Spot values links from end t.level x slot
      spot = spot_from values links from end t x slot most_nodes from 0 (stands_first values links from end t x some-node) missed

      pub slot_after : 2 * from ≤ slot
      slot_after = let a = spot.after in omega (arith, spot.link)

      slot_before : slot < 2 * end
      slot_before = let b = spot.before in omega (arith, spot.link, bit_small x (t.level spot.node))

      links_after : List ℕ
      links_after = set (cleared links end) slot end

      link_set : get_or links_after slot 0 ≡ end
      unfolding links_after
      link_set = get_or-set_same (cleared links end) slot end 0 (simp length-set (omega (arith, slot_before)))

      links_kept : (p b : ℕ) → p < end → b < 2 → (2 * p + b ≡ slot → ⊥) → get_or links_after (2 * p + b) 0 ≡ get_or links (2 * p + b) 0
      unfolding links_after
      links_kept p b l h n = get_or-set_other (cleared links end) slot (2 * p + b) end 0 n ∙ links_cleared p b l h

      level_more : ℕ → ℕ
      level_more k = cond (eqb k end) (t.level spot.node + 1) (t.level k)

      level_same : (k : ℕ) → k < end → level_more k ≡ t.level k
      unfolding level_more
      level_same k l = rw (ne_eqb k end (λ q. omega arith))

      link_kept : (p b : ℕ) → from ≤ p → p < end → b < 2 → (get_or links (2 * p + b) 0 ≡ 0 → ⊥) → get_or links_after (2 * p + b) 0 ≡ get_or links (2 * p + b) 0
      link_kept p b a l h z = links_kept p b l h (λ q. z (rw q spot.free))

      links_new : (b : ℕ) → b < 2 → get_or links_after (2 * end + b) 0 ≡ 0
      unfolding links_after
      links_new b h = get_or-set_other (cleared links end) slot (2 * end + b) end 0 (λ q. omega (arith, slot_before)) ∙ cleared_new links end room b h

      new_child : Child (set values end x) (end + 1) level_more spot.node (bit x (t.level spot.node)) end
      unfolding level_more
      new_child =
          let l : spot.node < end = spot.before in
          let e : level_more spot.node ≡ t.level spot.node = level_same spot.node l in
          record {
            later = l;
            inside = omega arith;
            deeper = rw (eq-eqb end end refl) (ap (λ (n : ℕ). n + 1) (sym e));
            shares = λ k u. rw (word_new, words_below spot.node l) (spot.agrees k (rw e at u));
            turns = rw (word_new) (ap (bit x) e);
          }

      hangs : (p b : ℕ) → p < end → b < 2 → (o : Bool) → eqb (2 * p + b) slot ≡ o
          → (get_or links_after (2 * p + b) 0 ≡ get_or links (2 * p + b) 0) ⊎ Child (set values end x) (end + 1) level_more p b (get_or links_after (2 * p + b) 0)
      hangs p b l h true e =
          let q : 2 * p + b ≡ slot = eqb-true (2 * p + b) slot e in
          let i : p ≡ spot.node = omega (arith, spot.link, bit_small x (t.level spot.node)) in
          let j : b ≡ bit x (t.level spot.node) = omega (arith, spot.link, bit_small x (t.level spot.node)) in
          inr (rw (q, link_set, i, j) new_child)
      hangs p b l h false e = inl (links_kept p b l h (eqb-false _ _ e))

      more_missing : Tree (set values end x) links_after from (end + 1)
      more_missing =
          grown values links (set values end x) links_after from end t words_below link_kept level_more (λ k a l. level_same k l) (level_same from some-node ∙ t.top)
          links_new (λ p b a l h. hangs p b l h (eqb (2 * p + b) slot) refl)
          (rw word_new (finds_new values links (set values end x) links_after from end t words_below link_kept x slot most_nodes from 0 (omega arith) some-node word_new link_set missed)) small_new

  pub tree_more : from ≤ end → Tree (set values end x) (hung links (place_in values links from end x) end) from (end + 1)
  unfolding links_after
  tree_more h = ⊎_elim (λ e. rw (eq-eqb from end e) (more_root e)) (λ l. rw (ne_eqb from end (λ e. omega arith)) (by l (ending values links x most_nodes from 0) refl)) (eq-or-lt_of_le h) where
    by : from < end → (p : Place) → ending values links x most_nodes from 0 ≡ p → Tree (set values end x) (hung links p end) from (end + 1)
    by l Here e = more_here l e
    by l Root e = absurd (never_root values links x most_nodes from 0 e)
    by l (Missing slot) e = more_missing l slot e

  pub hung_below : from ≤ end → (k : ℕ) → k < 2 * from → get_or (hung links (place_in values links from end x) end) k 0 ≡ get_or links k 0
  hung_below h k u = by (place_in values links from end x) refl where
    plain : get_or (cleared links end) k 0 ≡ get_or links k 0
    plain = cleared_below links end room k (omega arith)

    by : (p : Place) → place_in values links from end x ≡ p → get_or (hung links p end) k 0 ≡ get_or links k 0
    by Here e = plain
    by Root e = plain
    by (Missing slot) e =
        ⊎_elim (λ q. root_not_missing slot (rw (eq-eqb from end q) at e))
        (λ l.
        let a : 2 * from ≤ slot = slot_after l slot (rw (ne_eqb from end (λ q. omega arith)) at e) in
        get_or-set_other (cleared links end) slot k end 0 (λ q. omega arith) ∙ plain)
        (eq-or-lt_of_le h)

pub length_hung : (links : List ℕ) (p : Place) (n : ℕ) → length (hung links p n) ≡ length links
length_hung links Here n = simp length-set
length_hung links Root n = simp length-set
length_hung links (Missing slot) n = simp length-set
