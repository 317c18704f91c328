-- A search, node by node.
-- Assumes nothing.
use mathlib.Core.Path.{◌≡◌}
use mathlib.Core.List.{List}
use Prim.Native.Nat.{ℕ, suc, ◌+◌, ◌-◌, ◌<◌, ◌≤◌}
use native.Mathlib.Omega.{arith}
use lib.ListN.{get_or}
use Rattle.tree.specs.Search.{slot_of, ending, most_nodes}
use Rattle.tree.specs.declared.Place.TheVariants.{Here, Missing}
use Rattle.tree.proofs.Search.{ends_at, ends_missing, goes_on}

-- A search that stands at a node of depth d.
module _ (values links : List ℕ) (x node d : ℕ) where
  pub ends_out : most_nodes ≤ d → ending values links x (most_nodes - d) node d ≡ Here
  unfolding ending
  ends_out h = let z : most_nodes - d ≡ 0 = omega arith in rw z

  module _ (h : d < most_nodes) (other : x ≡ get_or values node 0 → ⊥) where
    one_more : most_nodes - d ≡ suc (most_nodes - (d + 1))
    one_more = omega arith

    pub ends_at_link : get_or links (slot_of node d x) 0 ≡ 0 → ending values links x (most_nodes - d) node d ≡ Missing (slot_of node d x)
    ends_at_link z = rw (one_more, ends_missing values links x (most_nodes - (d + 1)) node d other z)

    pub goes_below : (get_or links (slot_of node d x) 0 ≡ 0 → ⊥)
        → ending values links x (most_nodes - d) node d
        ≡ ending values links x (most_nodes - (d + 1)) (get_or links (slot_of node d x) 0) (d + 1)
    goes_below z = rw (one_more, goes_on values links x (most_nodes - (d + 1)) node d other z)

pub ruleset ends = (ends_at, ends_out, ends_at_link, goes_below)
