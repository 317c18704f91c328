-- The width of one field of an instruction: three fields a destination, then four a source, and of each only the second has two bytes.
-- Assumes nothing.
use mathlib.Core.Path.{◌≡◌, refl, sym, ap, ◌∙◌}
use mathlib.Core.Bool.{Bool, true, false}
use mathlib.Core.List.{List, ◌++◌}
use Prim.Native.Nat.{ℕ, zero, suc, ◌+◌, ◌-◌, ◌*◌, ◌%◌, ◌<◌, ◌≤◌}
use native.Mathlib.Omega.{arith}
use native.Mathlib.Nat.{add-mod_left, mod-eq_of_lt, mod-lt, mul-suc, mul-zero}
use borrow.Author.Tests.{ltb-true, ltb-false}
use lib.Dec.{ltb}
use lib.ListN.{length, get_or, length-append, get_or-append}
use lib.Seq.{get_or-append-add}
use Rattle.format.specs.Kinds.{instruction, times, widths}
use Rattle.format.proofs.Ends.{past_end}
use Rattle.format.proofs.Ranges.{given_at, given_in}
use Rattle.format.proofs.Widths.{of_destination, of_source}

-- A pattern so many times over: its length, and what stands at each place.
module _ (p : List ℕ) where
  length_times : (n : ℕ) → length (times n p) ≡ length p * n
  length_times zero = sym (mul-zero (length p))
  length_times (suc n) = length-append p (times n p) ∙ omega (arith, length_times n, mul-suc (length p) n)

  times_at : (n i : ℕ) → i < length p * n → get_or (times n p) i 0 ≡ get_or p (i % length p) 0
  times_at zero i h = absurd (omega (arith, mul-zero (length p)))
  times_at (suc n) i h = on (ltb i (length p)) refl (λ l. times_at n (i - length p) l)
    where
      on : (v : Bool) → ltb i (length p) ≡ v
          → (i - length p < length p * n → get_or (times n p) (i - length p) 0 ≡ get_or p ((i - length p) % length p) 0)
          → get_or (p ++ times n p) i 0 ≡ get_or p (i % length p) 0
      on true e again =
          let l : i < length p = ltb-true i (length p) e in
          rw (mod-eq_of_lt l) (get_or-append p (times n p) 0 i l)
      on false e again =
          let l : length p ≤ i = ltb-false i (length p) e in
          let i-is : i ≡ length p + (i - length p) = omega arith in
          let later : get_or (times n p) (i - length p) 0 ≡ get_or p ((i - length p) % length p) 0 = again (omega (arith, mul-suc (length p) n)) in
          rw i-is (get_or-append-add p (times n p) (i - length p) 0 ∙ later ∙ rw (add-mod_left (length p) (i - length p)))

-- Operands.
module _ (d s i : ℕ) where
  module _ (h : i < 3 * d) where
    in_destination : get_or (widths (instruction d s)) i 0 ≡ get_or of_destination (i % 3) 0
    in_destination =
        get_or-append (times d of_destination) (times s of_source) 0 i (omega (arith, length_times of_destination d)) ∙ times_at of_destination d i h

    pub destination_index : i % 3 ≡ 1 → 2 ≡ get_or (widths (instruction d s)) i 0
    destination_index e = given_at (λ k. get_or of_destination k 0) 2 1 refl (i % 3) e ∙ sym in_destination

    pub destination_byte : (i % 3 ≡ 1 → ⊥) → 1 ≡ get_or (widths (instruction d s)) i 0
    destination_byte e = given_in (λ k. get_or of_destination k 0) 1 1 0 3 tt (i % 3) e (omega arith) (mod-lt i (omega arith)) ∙ sym in_destination

  module _ (h : 3 * d ≤ i) where
    after_destinations : get_or (widths (instruction d s)) i 0 ≡ get_or (times s of_source) (i - 3 * d) 0
    after_destinations =
        let i-is : i ≡ length (times d of_destination) + (i - 3 * d) = omega (arith, length_times of_destination d) in
        ap (λ (k : ℕ). get_or (widths (instruction d s)) k 0) i-is ∙ get_or-append-add (times d of_destination) (times s of_source) (i - 3 * d) 0

    module _ (l : i - 3 * d < 4 * s) where
      in_source : get_or (widths (instruction d s)) i 0 ≡ get_or of_source ((i - 3 * d) % 4) 0
      in_source = after_destinations ∙ times_at of_source s (i - 3 * d) l

      pub source_index : (i - 3 * d) % 4 ≡ 1 → 2 ≡ get_or (widths (instruction d s)) i 0
      source_index e = given_at (λ k. get_or of_source k 0) 2 1 refl ((i - 3 * d) % 4) e ∙ sym in_source

      pub source_byte : ((i - 3 * d) % 4 ≡ 1 → ⊥) → 1 ≡ get_or (widths (instruction d s)) i 0
      source_byte e = given_in (λ k. get_or of_source k 0) 1 1 0 4 tt ((i - 3 * d) % 4) e (omega arith) (mod-lt (i - 3 * d) (omega arith)) ∙ sym in_source

    pub past_sources : 4 * s ≤ i - 3 * d → 0 ≡ get_or (widths (instruction d s)) i 0
    past_sources l = past_end (times s of_source) (i - 3 * d) (omega (arith, length_times of_source s)) ∙ sym after_destinations

-- The width of a field of an operand, by where it stands.
pub ruleset operand_fields = (destination_index, destination_byte, source_index, source_byte, past_sources)
