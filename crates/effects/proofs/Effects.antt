-- Effects: what is written is the result of the kind's family.
-- Assumes nothing.
use Rattle.effects.specs.Effect.{Family, WORDS, WIDE-UNARY, LOAD, WIDE, STORE, ATOMIC, ATOMCAS, NONE, effect_of, exchange, family_of, result, state, x_of}
use Rattle.destinations.specs.Destinations.{State, components, first_word, masked, placed}
use Rattle.words.specs.Word.{cas}
use Rattle.results.specs.Arithmetic.{atomic, wide_of, wide_unary_of}
use Rattle.memory.specs.Memory.{loaded, loaded_from, stored, stored_from}
use Rattle.format.specs.Kinds.{within}
use Rattle.format.proofs.Ranges.{every, in_range}
use Prim.Native.Nat.{◌-◌, ◌<◌, ◌≤◌, ℕ}
use mathlib.Core.Path.{◌∙◌, ◌≡◌, ap, refl, sym}
use mathlib.Core.Bool.{Bool, true, false, ◌&&◌, ◌||◌}
use mathlib.Core.List.{List, [], ◌∷◌}
use native.Mathlib.Omega.{arith}
use borrow.Author.Tests.{lt-leb, ne_eqb}
use lib.Dec.{T, eqb, eqb→eq, leb}
use Rattle.format.specs.declared.fields.Destination.{Destination}

-- what is written to the register of the destination
module _ (d : Destination) (r m l : List ℕ) (first : ℕ) (ef : first ≡ first_word d) where
  pub words_are : (v : List ℕ) → l ≡ masked d.mask (placed first v) r → state l m ≡ result d (state r m) v
  words_are v h = cc

  pub wide_unary_to : (k : ℕ) (a x v : List ℕ) → a ≡ x → v ≡ wide_unary_of k a → l ≡ masked d.mask (placed first v) r → state l m ≡ result d (state r m) (wide_unary_of k x)
  wide_unary_to k a x v ea ev h = cc

  pub wide_to : (k : ℕ) (a b x y v : List ℕ) → a ≡ x → b ≡ y → v ≡ wide_of k a b → l ≡ masked d.mask (placed first v) r → state l m ≡ result d (state r m) (wide_of k x y)
  wide_to k a b x y v ea eb ev h = cc

  pub loaded_to : (a x : ℕ) (v : List ℕ) → a ≡ x → v ≡ loaded_from m a → l ≡ masked d.mask (placed first v) r → state l m ≡ result d (state r m) (loaded_from m x)
  loaded_to a x v ea ev h = cc

  exchange_is : (a : ℕ) (f : ℕ → ℕ) (old : ℕ) (q : List ℕ)
      → old ≡ loaded m a → q ≡ stored m a (f old) → l ≡ masked d.mask (placed first (old ∷ old ∷ old ∷ old ∷ [])) r → state l q ≡ exchange d (state r m) a f
  unfolding components
  exchange_is a f old q eo eq el = cc

  -- an atomic of kind k, or ATOMCAS, on the x of the sources
  module _ (k : ℕ) (o : List (List ℕ)) (a b old : ℕ) (q : List ℕ) (ea : a ≡ x_of o 0) (eb : b ≡ x_of o 1) (eo : old ≡ loaded m a)
      (el : l ≡ masked d.mask (placed first (old ∷ old ∷ old ∷ old ∷ [])) r)
    where
      pub atomic_with : q ≡ stored m a (atomic k old b) → state l q ≡ effect_of ATOMIC k d o (state r m)
      atomic_with h = rw (← ea, ← eb) (exchange_is a (λ w. atomic k w b) old q eo h el)

      pub cas_with : (c : ℕ) → c ≡ x_of o 2 → q ≡ stored m a (cas old b c) → state l q ≡ effect_of ATOMCAS k d o (state r m)
      cas_with c ec h = rw (← ea, ← eb, ← ec) (exchange_is a (λ w. cas w b c) old q eo h el)

pub stored_to : (r m n : List ℕ) (a x mask : ℕ) (v y : List ℕ) → a ≡ x → v ≡ y → n ≡ stored_from m a mask v → state r n ≡ state r (stored_from m x mask y)
stored_to r m n a x mask v y ea ev h = cc

-- ---- the family of a kind

-- a kind of each family, by which two families are told apart
abbrev pub kind_in : Family → ℕ
kind_in WORDS = 0x10
kind_in WIDE-UNARY = 0x1B
kind_in LOAD = 0x1E
kind_in WIDE = 0x40
kind_in STORE = 0x58
kind_in ATOMIC = 0x56
kind_in ATOMCAS = 0x64
kind_in NONE = 0

kind_in_is : (f : Family) → family_of (kind_in f) ≡ f
unfolding family_of
kind_in_is WORDS = refl
kind_in_is WIDE-UNARY = refl
kind_in_is LOAD = refl
kind_in_is WIDE = refl
kind_in_is STORE = refl
kind_in_is ATOMIC = refl
kind_in_is ATOMCAS = refl
kind_in_is NONE = refl

pub same_family : (f g : Family) → T (eqb (kind_in f) (kind_in g)) → f ≡ g
same_family f g h = sym (kind_in_is f) ∙ (ap family_of (eqb→eq (kind_in f) (kind_in g) h) ∙ kind_in_is g)

-- whether a kind is of family f, or is one of the numbers that have an arm of their own
abbrev pub fits : Family → ℕ → Bool
fits f k = eqb k 0x1E || (eqb k 0x58 || (eqb k 0x64 || (eqb k 0x70 || eqb (kind_in (family_of k)) (kind_in f))))

pub effect_at : (f : Family) (n : ℕ) → family_of n ≡ f → (k : ℕ) (d : Destination) (o : List (List ℕ)) (s t : State)
    → k ≡ n → t ≡ effect_of f k d o s → t ≡ effect_of (family_of k) k d o s
effect_at f n e k d o s t h r = rw (h, e) (rw h at r)

pub effect_in : (f : Family) (lo hi : ℕ) → T (every (fits f) lo (hi - lo)) → (k : ℕ) (d : Destination) (o : List (List ℕ)) (s t : State)
    → (k ≡ 0x1E → ⊥) → (k ≡ 0x58 → ⊥) → (k ≡ 0x64 → ⊥) → (k ≡ 0x70 → ⊥)
    → lo ≤ k → k < hi → t ≡ effect_of f k d o s → t ≡ effect_of (family_of k) k d o s
effect_in f lo hi e k d o s t w x y z a b r = rw same r
  where
    told : T (eqb (kind_in (family_of k)) (kind_in f))
    told = simp (ne_eqb k 0x1E w, ne_eqb k 0x58 x, ne_eqb k 0x64 y, ne_eqb k 0x70 z) at (in_range (fits f) lo hi k e a b)

    same : family_of k ≡ f
    same = same_family (family_of k) f told

-- ---- kinds without an effect

-- A kind above a range is not in it.
above : (lo hi k : ℕ) → hi < k → within lo hi k ≡ false
above lo hi k h = by (leb lo k)
  where
    by : (t : Bool) → (t && leb k hi) ≡ false
    by true = lt-leb k hi h
    by false = refl

-- "Labels and closing marks only count." (01, Blocks) So do UIF, SWITCH and what opens a loop: no kind from 80 up has an effect.
pub only_counts : (k : ℕ) → 0x80 ≤ k → (d : Destination) (o : List (List ℕ)) (s : State) → effect_of (family_of k) k d o s ≡ s
unfolding family_of
only_counts k h d o s =
    rw (
      above 0x10 0x1A k (omega arith),
      above 0x1B 0x1D k (omega arith),
      ne_eqb k 0x1E (λ e. omega arith),
      above 0x20 0x37 k (omega arith),
      above 0x40 0x52 k (omega arith),
      ne_eqb k 0x58 (λ e. omega arith),
      above 0x56 0x5F k (omega arith),
      above 0x60 0x63 k (omega arith),
      ne_eqb k 0x64 (λ e. omega arith),
      ne_eqb k 0x70 (λ e. omega arith),
    )
