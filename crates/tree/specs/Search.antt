-- The search for a word among those of a SWITCH's CASEs, a digital search tree. A word's node is its place among the words, the
-- first is the root. Each node has two links, which hold the place of a later word or 0, and a node of depth d parts the words
-- below it by their bit d.
-- Assumes nothing.
use Rattle.std.specs.Prelude.{ℕ, zero, suc, ◌+◌, ◌*◌, Bool, true, false, cond, List, eqb, get_or, set}
use Rattle.words.specs.Word.{bit}
use Rattle.tree.specs.declared.Place.{Place}
use Rattle.tree.specs.declared.Place.TheVariants.{Here, Root, Missing}

-- The link of a node of depth d below which x lies where the node holds another word.
abbrev pub slot_of : ℕ → ℕ → ℕ → ℕ
slot_of node d x = 2 * node + bit x d

-- Where the search for x ends that stands at a node of depth d and looks at no more than m nodes.
unfoldable pub ending : List ℕ → List ℕ → ℕ → ℕ → ℕ → ℕ → Place
ending values links x zero node d = Here
ending values links x (suc m) node d =
    cond (eqb x (get_or values node 0)) Here
    (cond (eqb (get_or links (slot_of node d x) 0) 0) (Missing (slot_of node d x))
    (ending values links x m (get_or links (slot_of node d x) 0) (d + 1)))

-- A word has 32 bits, so 33 nodes are enough.
abbrev pub most_nodes : ℕ
most_nodes = 33

-- Where x is, or would hang, in the tree of the words from a place to `end`.
abbrev pub place_in : List ℕ → List ℕ → ℕ → ℕ → ℕ → Place
place_in values links from end x = cond (eqb from end) Root (ending values links x most_nodes from 0)

abbrev pub is_here : Place → Bool
is_here Here = true
is_here Root = false
is_here (Missing slot) = false

-- The links with a new node, which has none of its own, hung where a search ended.
abbrev pub cleared : List ℕ → ℕ → List ℕ
cleared links node = set (set links (2 * node) 0) (2 * node + 1) 0

abbrev pub hung : List ℕ → Place → ℕ → List ℕ
hung links Here node = cleared links node
hung links Root node = cleared links node
hung links (Missing slot) node = set (cleared links node) slot node
