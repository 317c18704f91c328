-- Looking for the last separator from the end: what follows the place has none.
-- Assumes nothing.
use mathlib.Core.Path.{◌≡◌, refl, ap}
use mathlib.Core.Logic.{◌⊎◌, inl, inr, ⊎_elim}
use mathlib.Core.Bool.{Bool, true, false, ◌||◌}
use mathlib.Core.List.{List, [], ◌∷◌, ◌++◌}
use Prim.Native.Nat.{ℕ, zero, suc, ◌+◌, ◌<◌, ◌≤◌}
use native.Mathlib.Omega.{arith}
use lib.Dec.{eqb}
use lib.ListN.{length, get_or, length-append}
use borrow.Author.Tests.{eqb-true, eqb-false, eq-eqb, ne_eqb, lt-ltb}
use Rattle.text.specs.Parts.{ended_length}
use Rattle.text.proofs.Lines.{Without}

or_true : (b : Bool) → (b || true) ≡ true
or_true true = refl
or_true false = refl

-- ---- Where the last separator stands

module _ (c : ℕ) where
  -- It stands at no place.
  pub ended_never : (l : List ℕ) → ((k : ℕ) → k < length l → get_or l k 0 ≡ c → ⊥) → 0 ≡ ended_length c l
  unfolding ended_length
  ended_never [] none = refl
  ended_never (b ∷ bs) none = rw (ne_eqb b c (none 0 (omega arith)), ← ended_never bs (λ k h. none (suc k) (omega arith)))

  -- It stands at place i, and none behind it.
  pub ended_last : (l : List ℕ) (i : ℕ) → i < length l → get_or l i 0 ≡ c
      → ((k : ℕ) → i < k → k < length l → get_or l k 0 ≡ c → ⊥) → i + 1 ≡ ended_length c l
  unfolding ended_length
  ended_last [] i h e none = absurd (omega arith)
  ended_last (b ∷ bs) zero h e none = rw (eq-eqb b c e, ← ended_never bs (λ k h. none (suc k) (omega arith) (omega arith)))
  ended_last (b ∷ bs) (suc i) h e none =
      let rest : i + 1 ≡ ended_length c bs = ended_last bs i (omega arith) e (λ k f h. none (suc k) (omega arith) (omega arith)) in
      rw (← rest, lt-ltb 0 (i + 1) (omega arith), or_true (eqb b c)) (omega arith)

-- ---- What stands before the last separator, and after it

-- The last separator of a text, with what stands before and after it.
pub record Last (c : ℕ) (l : List ℕ) : Type 0 where
  pub front : List ℕ
  pub rest : List ℕ
  pub text_is : l ≡ front ++ (c ∷ rest)
  pub no_more : Without c rest
  pub ends : ended_length c l ≡ suc (length front)

module _ (c : ℕ) where
  pub ended : (l : List ℕ) → (Without c l × (ended_length c l ≡ 0)) ⊎ Last c l
  unfolding ended_length
  ended [] = inl (tt, refl)
  ended (b ∷ bs) = ⊎_elim (λ none. by none (eqb b c) refl) (λ last. inr (longer last)) (ended bs) where
    longer : Last c bs → Last c (b ∷ bs)
    longer last =
        record {
          front = b ∷ last.front;
          rest = last.rest;
          text_is = ap (λ (l : List ℕ). b ∷ l) last.text_is;
          no_more = last.no_more;
          ends = rw (last.ends, lt-ltb 0 (suc (length last.front)) (omega arith), or_true (eqb b c));
        }

    by : Without c bs × (ended_length c bs ≡ 0) → (t : Bool) → eqb b c ≡ t → (Without c (b ∷ bs) × (ended_length c (b ∷ bs) ≡ 0)) ⊎ Last c (b ∷ bs)
    by none true e =
        inr
        (record {
          front = [];
          rest = bs;
          text_is = ap (λ (x : ℕ). x ∷ bs) (eqb-true b c e);
          no_more = none.0;
          ends = rw (e, none.1);
        })
    by none false e = inl ((eqb-false b c e, none.0), rw (e, none.1))

  pub ended_within : (l : List ℕ) → ended_length c l ≤ length l
  ended_within l =
      ⊎_elim (λ none. omega (arith, none.1))
      (λ last. omega (arith, last.ends, ap length last.text_is, length-append last.front (c ∷ last.rest))) (ended l)
