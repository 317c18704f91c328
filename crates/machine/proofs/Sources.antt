-- All sources of a record, one after the other.
-- Assumes nothing.
use Rattle.sources.specs.Operands.{Env, nth_source, source_of, sources_of}
use Rattle.destinations.specs.Destinations.{zeros}
use Rattle.format.specs.Kinds.{first_source, form_of, sources}
use Rattle.format.proofs.Ranges.{in_range}
use Rattle.format.specs.Fields.{source_at}
use Prim.Native.Nat.{◌*◌, ◌+◌, ◌<◌, ◌≤◌, suc, zero, ℕ}
use mathlib.Core.Path.{◌∙◌, ◌≡◌, ap, refl}
use mathlib.Core.Bool.{Bool, cond, false, true}
use mathlib.Core.List.{List, [], ◌∷◌}
use native.Mathlib.Omega.{arith}
use borrow.Author.Tests.{lt-ltb}
use lib.Dec.{leb, leb→le, ltb}
use lib.ListN.{get_or, set}
use Rattle.format.specs.declared.fields.Source.{Source}

-- ---- all sources of a record: no kind has more than four; after k of them have been read, those from k on are still 0

pub four_at_most : (k n : ℕ) → k < 256 → n ≡ sources (form_of k) → n ≤ 4
four_at_most k n h e = rw e (leb→le (sources (form_of k)) 4 (in_range (λ k. leb (sources (form_of k)) 4) 0 256 k tt (omega arith) h))

module _ (e : Env) (r bytes : List ℕ) where
  abbrev kept : ℕ → ℕ → List ℕ
  kept k i = cond (ltb i k) (nth_source e r bytes i) zeros

  abbrev pub so_far : ℕ → List (List ℕ)
  so_far k = kept k 0 ∷ kept k 1 ∷ kept k 2 ∷ kept k 3 ∷ []

  one_more : (k : ℕ) (v : List ℕ) → k < 4 → v ≡ nth_source e r bytes k → set (so_far k) k v ≡ so_far (k + 1)
  one_more zero v h ev = rw ev
  one_more (suc zero) v h ev = rw ev
  one_more (suc (suc zero)) v h ev = rw ev
  one_more (suc (suc (suc zero))) v h ev = rw ev
  one_more (suc (suc (suc (suc k)))) v h ev = absurd (omega arith)

  module _ (kind count first : ℕ) (ek : kind ≡ get_or bytes 0 0) (ec : count ≡ sources (form_of kind)) (ef : first ≡ first_source kind) where
    pub source_read : (k : ℕ) (l : List (List ℕ)) (s : Source) (v : List ℕ) → count ≤ 4 → k < count → l ≡ so_far k → s ≡ source_at bytes (first + 5 * k) → v ≡ source_of e r s
        → set l k v ≡ so_far (k + 1)
    unfolding nth_source
    source_read k l s v four h el es ev =
        let there : v ≡ nth_source e r bytes k = rw (← ek, ← ec, ← ef, lt-ltb k count h) (ev ∙ ap (source_of e r) es) in
        ap (λ (q : List (List ℕ)). set q k v) el ∙ one_more k v (omega arith) there

    all_kept : (i : ℕ) → kept count i ≡ nth_source e r bytes i
    unfolding nth_source
    all_kept i = on (ltb i count) refl
      where
        on : (t : Bool) → ltb i count ≡ t → kept count i ≡ nth_source e r bytes i
        on true h = rw h
        on false h = rw (h, ← ek, ← ec, h)

    pub sources_read : (k : ℕ) (l : List (List ℕ)) → l ≡ so_far k → k ≤ count → count ≤ k → l ≡ sources_of e r bytes
    unfolding sources_of
    sources_read k l el a b =
        let same : k ≡ count = omega arith in
        el ∙ ap so_far same ∙ cc (all_kept 0, all_kept 1, all_kept 2, all_kept 3)
