-- The first part of a text, and what is left after its separator.
-- Assumes nothing.
use mathlib.Core.Path.{◌≡◌, refl, sym, ap, ap₂, ◌∙◌}
use mathlib.Core.Bool.{Bool, true, false}
use mathlib.Core.List.{List, [], ◌∷◌, ◌++◌}
use Prim.Native.Nat.{ℕ, suc, ◌+◌, ◌<◌, ◌≤◌}
use native.Mathlib.Omega.{arith}
use native.Mathlib.Numerals.{add-one}
use lib.Dec.{eqb}
use lib.ListN.{length, take, drop, get_or}
use lib.Seq.{take-length, length-take-le}
use borrow.Author.Tests.{eqb-true, eq-eqb, ne_eqb}
use Rattle.std.specs.List.{AllWithin, HoldsAt}
use Rattle.std.specs.Option.{MatchOption, unwrap_or}
use Rattle.std.proofs.Common.{Option}
use Rattle.std.proofs.lemmas.Iterator.{index_from_first}
use Rattle.text.specs.Parts.{split, first}
use Rattle.text.proofs.Lines.{Without}

-- A text's parts are p and those after it.
record Parted (c : ℕ) (l p : List ℕ) (ps : List (List ℕ)) : Type 0 where
  parts : split c l ≡ p ∷ ps
  fits : length p ≤ length l
  taken : p ≡ take (length p) l
  separator : length p < length l → get_or l (length p) 0 ≡ c
  others : length p < length l → ps ≡ split c (drop (suc (length p)) l)
  alone : length p ≡ length l → ps ≡ []

parted : (c : ℕ) (l : List ℕ) → (p : List ℕ) × (ps : List (List ℕ)) × Parted c l p ps
unfolding split
parted c [] = (
  [],
  [],
  record {
    parts = refl;
    fits = omega arith;
    taken = refl;
    separator = λ h. absurd (omega arith);
    others = λ h. absurd (omega arith);
    alone = λ h. refl;
  },
)
parted c (b ∷ bs) = on (eqb b c) refl (parted c bs)
  where
    on : (t : Bool)
        → eqb b c ≡ t
        → (p : List ℕ) × (ps : List (List ℕ)) × Parted c bs p ps
        → (p : List ℕ) × (ps : List (List ℕ)) × Parted c (b ∷ bs) p ps
    on true e rest = (
      [],
      split c bs,
      record {
        parts = rw e;
        fits = omega arith;
        taken = refl;
        separator = λ h. eqb-true b c e;
        others = λ h. refl;
        alone = λ h. absurd (omega arith);
      },
    )
    on false e (p, ps, r) = (
      b ∷ p,
      ps,
      record {
        parts = rw (e, r.parts);
        fits = omega (arith, r.fits);
        taken = ap (λ (q : List ℕ). b ∷ q) r.taken;
        separator = λ h. r.separator (omega arith);
        others = λ h. r.others (omega arith);
        alone = λ h. r.alone (omega arith);
      },
    )

module _ (c : ℕ) (l : List ℕ) where
  found : Parted c l (parted c l).0 (parted c l).1
  found = (parted c l).2

  -- ---- The first part has the length n

  module _ (n : ℕ) (e : n ≡ length (first (split c l))) where
    length_is : n ≡ length (parted c l).0
    length_is = e ∙ ap (λ (q : List (List ℕ)). length (first q)) found.parts

    pub split_within : n ≤ length l
    split_within = rw length_is found.fits

    pub split_length : n ≡ length (take n l)
    split_length = sym (length-take-le n l split_within)

    pub split_part : take n l ≡ first (split c l)
    split_part = rw (length_is, found.parts) (sym found.taken)

    -- A separator follows it.
    pub split_first : n < length l → split c l ≡ take n l ∷ split c (drop (n + 1) l)
    split_first h =
        found.parts
        ∙ ap₂ (λ (p : List ℕ) (ps : List (List ℕ)). p ∷ ps) found.taken (found.others (omega (arith, length_is)))
        ∙ rw (add-one, length_is)

    -- None follows it.
    pub split_last : n ≡ length l → split c l ≡ l ∷ []
    split_last h =
        let all : length (parted c l).0 ≡ length l = sym length_is ∙ h in
        found.parts ∙ ap₂ (λ (p : List ℕ) (ps : List (List ℕ)). p ∷ ps) found.taken (found.alone all) ∙ rw (all, take-length)

-- ---- Where the first separator stands

module _ (c : ℕ) where
  ends_here : (b : ℕ) (bs : List ℕ) → b ≡ c → length (first (split c (b ∷ bs))) ≡ 0
  unfolding split
  ends_here b bs e = rw (eq-eqb b c e)

  goes_on : (b : ℕ) (bs : List ℕ) → (b ≡ c → ⊥) → length (first (split c (b ∷ bs))) ≡ length (first (split c bs)) + 1
  unfolding split
  goes_on b bs d = rw (ne_eqb b c d, (found c bs).parts, add-one (length (parted c bs).0))

  -- A text without a separator lies in the first part.
  pub first_without : (p rest : List ℕ) → Without c p → length p ≤ length (first (split c (p ++ rest)))
  first_without [] rest w = omega arith
  first_without (b ∷ p) rest w = omega (arith, goes_on b (p ++ rest) w.0, first_without p rest w.1)

  -- The first part ends at the first separator, or with the text.
  pub part_found : (l : List ℕ) (r : Option ℕ)
      → MatchOption r (AllWithin (λ b. b ≡ c → ⊥) l 0 (length l)) (λ i. (i < length l) × HoldsAt (λ b. b ≡ c) l i × AllWithin (λ b. b ≡ c → ⊥) l 0 i)
      → length (first (split c l)) ≡ unwrap_or r (length l)
  unfolding split
  part_found = index_from_first (λ l. length (first (split c l))) (λ b. b ≡ c) (λ b. b ≡ c → ⊥) refl ends_here goes_on
