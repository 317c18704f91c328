-- The byte places of a program's instructions, by the walk over its records.
-- Assumes nothing.
use mathlib.Core.Path.{◌≡◌, refl, ◌∙◌}
use mathlib.Core.List.{List}
use mathlib.Core.Bool.{Bool, true, false}
use Prim.Native.Nat.{ℕ, ◌+◌, ◌≤◌, ◌<◌}
use native.Mathlib.Omega.{arith}
use native.Mathlib.Numerals.{add-one}
use lib.Dec.{eqb}
use lib.ListN.{length, get_or, set, length-set}
use lib.Seq.{get_or-set_same, get_or-set_other}
use borrow.Author.Tests.{eqb-true, eqb-false}
use Rattle.format.specs.Records.{next, place_from}
use Rattle.blocks.specs.Run.{most_instructions}
use Rattle.table.specs.Prepared.{kind_from}
use Rattle.table.specs.Inner.Rows.{Located}

-- One more element of a list whose first n are as f says.
stored : (l : List ℕ) (f : ℕ → ℕ) (n v : ℕ)
    → n < length l
    → v ≡ f n
    → ((m : ℕ) → m < n → get_or l m 0 ≡ f m)
    → (m : ℕ)
    → m < n + 1
    → get_or (set l n v) m 0 ≡ f m
stored l f n v h e each m k = on (eqb m n) refl
  where
    on : (t : Bool) → eqb m n ≡ t → get_or (set l n v) m 0 ≡ f m
    on true t = rw (eqb-true m n t) (get_or-set_same l n v 0 h ∙ e)
    on false t = get_or-set_other l n m v 0 (eqb-false m n t) ∙ each m (omega (arith, eqb-false m n t))

-- `locate`: the places and kinds of the first n instructions.
module _ (file : List ℕ) (start : ℕ) where
  pub located_none : (kinds places : List ℕ)
      → length kinds ≡ most_instructions
      → length places ≡ most_instructions
      → Located file start 0 kinds places
  located_none kinds places h k = record {
    kinds_length = h;
    places_length = k;
    kind = λ n h. absurd (omega arith);
    place = λ n h. absurd (omega arith);
  }

  pub place_start : start ≡ place_from file start 0
  unfolding place_from
  place_start = refl

  module _ (n at : ℕ) (e : at ≡ place_from file start n) where
    pub place_next : (r : ℕ) → r ≡ next file at → r ≡ place_from file start (n + 1)
    unfolding place_from
    place_next r f = rw (add-one n, ← e) f

    pub located_more : (kinds places : List ℕ) (k count : ℕ)
        → n < count
        → count ≤ most_instructions
        → k ≡ get_or file at 0
        → Located file start n kinds places
        → Located file start (n + 1) (set kinds n k) (set places n at)
    located_more kinds places k count h few f l = record {
      kinds_length = rw (length-set kinds n k) l.kinds_length;
      places_length = rw (length-set places n at) l.places_length;
      kind = stored kinds (kind_from file start) n k (omega (arith, l.kinds_length)) (rw (← e) f) l.kind;
      place = stored places (place_from file start) n at (omega (arith, l.places_length)) e l.place;
    }
