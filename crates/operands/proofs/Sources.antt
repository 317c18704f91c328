-- The operands of an instruction, one after the other.
-- Assumes nothing.
use mathlib.Core.Path.{◌≡◌, refl, sym}
use mathlib.Core.Bool.{Bool, true, false, ◌&&◌, ◌||◌}
use mathlib.Core.List.{List}
use Prim.Native.Nat.{ℕ, zero, suc, ◌+◌, ◌*◌, ◌<◌}
use native.Mathlib.Omega.{arith}
use native.Mathlib.Nat.{add-zero, zero-add, mul-zero}
use lib.ListN.{length}
use Rattle.std.specs.List.{AllWithin, HoldsAt, range_with_len}
use Rattle.std.specs.Bool.{MatchBool}
use Rattle.std.proofs.lemmas.List.FromFn.{get_or-range_with_len, length-range_with_len}
use Rattle.registers.proofs.Choices.{and_false}
use lib.Dec.{eqb}
use Rattle.format.specs.Kinds.{destinations, sources, form_of, first_source}
use Rattle.format.specs.Fields.{destination_at, source_at}
use Rattle.format.specs.declared.fields.Destination.{Destination}
use Rattle.format.specs.declared.fields.Source.{Source}
use Rattle.registers.specs.Rules.{destination_file, all_sources, all_operands}

-- ---- The sources by their numbers

module _ (rule : Source → Bool) (file : List ℕ) where
  all_kept : (n p : ℕ) → ((i : ℕ) → i < n → rule (source_at file (p + 5 * i)) ≡ true) → all_sources rule file p n ≡ true
  all_kept zero p each = refl
  all_kept (suc n) p each =
      let here : rule (source_at file p) ≡ true = rw (mul-zero 5, add-zero p) at (each 0 (omega arith)) in
      let later : all_sources rule file (p + 5) n ≡ true = all_kept n (p + 5) (λ i h. let e : p + 5 + 5 * i ≡ p + 5 * suc i = omega arith in rw e (each (suc i) (omega arith))) in
      rw (here, later)

  one_broken : (n p k : ℕ) → k < n → rule (source_at file (p + 5 * k)) ≡ false → all_sources rule file p n ≡ false
  one_broken zero p k h broken = absurd (omega arith)
  one_broken (suc n) p zero h broken = rw (rw (mul-zero 5, add-zero p) at broken)
  one_broken (suc n) p (suc k) h broken =
      let e : p + 5 + 5 * k ≡ p + 5 * suc k = omega arith in
      let later : all_sources rule file (p + 5) n ≡ false = one_broken n (p + 5) k (omega arith) (rw e broken) in
      rw (later, and_false)

  pub all_by : (p n : ℕ) (r : Bool)
      → MatchBool r (AllWithin (λ i. rule (source_at file (p + 5 * i)) ≡ true) (range_with_len 0 n) 0 (length (range_with_len 0 n)))
      ((k : ℕ) × (k < length (range_with_len 0 n)) × HoldsAt (λ i. rule (source_at file (p + 5 * i)) ≡ false) (range_with_len 0 n) k)
      → r ≡ all_sources rule file p n
  all_by p n true each = sym (all_kept n p (λ i h. rw (get_or-range_with_len, zero-add) at (each i 0 (omega arith) (omega (arith, length-range_with_len 0 n)))))
  all_by p n false (k, h, broken) =
      let l : k < n = omega (arith, length-range_with_len 0 n) in
      sym (one_broken n p k l (rw (get_or-range_with_len, zero-add) at (broken 0)))

-- ---- The destination, and the sources after it

pub all_operands_is : (kind d : ℕ) (askedD : Destination → Bool) (askedS : Source → Bool) (file : List ℕ) (at : ℕ) (r : Destination) (x y : Bool)
    → d ≡ destinations (form_of kind)
    → r ≡ destination_at file (at + 1)
    → x ≡ askedD r
    → y ≡ all_sources askedS file (at + first_source kind) (sources (form_of kind))
    → ((eqb d 0 || x) && y) ≡ all_operands kind askedD askedS file at
unfolding all_operands
all_operands_is kind d askedD askedS file at r x y ds here answer rest = rw (rest, answer, here, ds)

-- The side of the rule that a kind picks. It stands in the conclusion, computed: no other side fits.
pub written_by : (k kind f : ℕ) → kind ≡ k → destination_file k f ≡ destination_file kind f
written_by k kind f e = rw e
