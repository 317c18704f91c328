-- The fields of a record: their numbers give their bytes back, and are the same where the record stands elsewhere or before other bytes.
-- Assumes nothing.
use mathlib.Core.Path.{◌≡◌, refl, sym}
use mathlib.Core.Logic.{inl, inr}
use mathlib.Core.List.{List, [], ◌∷◌, ◌++◌}
use Prim.Native.Nat.{ℕ, ◌+◌, ◌*◌, ◌^◌, ◌≤◌, ◌<◌}
use native.Mathlib.Omega.{arith}
use native.Mathlib.Nat.{add_assoc}
use lib.ListN.{length, take, drop, length-append, length-drop}
use lib.Seq.{take-append-le, drop-append-le, drop-append-add, take-add, drop-drop}
use Rattle.format.specs.Fields.{number_at, little_endian, Bytes}
use Rattle.format.proofs.Widths.{sum, Width, Known}
use Rattle.format.proofs.Numbers.{bytes_append, bytes_none, little_bytes, number_same, number_back, number_fits}
use Rattle.text.specs.Decimal.{decimal}
use Rattle.text.specs.Parts.{spaced}
use Rattle.text.proofs.Decimals.{below_power}
use Rattle.lines.specs.Lines.{numbers_at}
use Rattle.spelling.specs.Spelling.{field_bytes}

-- ---- Numbers of a record r, before other bytes

module _ (r rest : List ℕ) where
  pub numbers_after : (q : ℕ) (ws : List ℕ) → Known ws → numbers_at (r ++ rest) (length r + q) ws ≡ numbers_at rest q ws
  unfolding numbers_at
  numbers_after q [] known = refl
  numbers_after q (w ∷ ws) known =
      let e : number_at (r ++ rest) (length r + q) w ≡ number_at rest q w =
      number_same (r ++ rest) rest (length r + q) q w known.0 (rw (drop-append-add r rest q)) in
      rw (e, add_assoc (length r) q w, numbers_after (q + w) ws known.1)

  pub numbers_before : (p : ℕ) (ws : List ℕ) → Known ws → p + sum ws ≤ length r → numbers_at (r ++ rest) p ws ≡ numbers_at r p ws
  unfolding numbers_at
  numbers_before p [] known fits = refl
  numbers_before p (w ∷ ws) known fits =
      let part : take w (drop p (r ++ rest)) ≡ take w (drop p r) =
      rw (drop-append-le p r rest (omega arith)) (take-append-le w (drop p r) rest (rw (length-drop p r) (omega arith))) in
      rw (number_same (r ++ rest) r p p w known.0 part, numbers_before (p + w) ws known.1 (omega arith))

-- ---- Numbers to bytes

pub field_bytes_is : (ws ns : List ℕ) → Bytes (field_bytes ws ns)
unfolding field_bytes
field_bytes_is [] ns = bytes_none
field_bytes_is (w ∷ ws) [] = bytes_append (little_endian w 0) (field_bytes ws []) (little_bytes w 0) (field_bytes_is ws [])
field_bytes_is (w ∷ ws) (n ∷ ns) = bytes_append (little_endian w n) (field_bytes ws ns) (little_bytes w n) (field_bytes_is ws ns)

-- A number of w bytes has at most 4w - 1 digits.
few_digits : (w n : ℕ) → Width w → n < 256 ^ w → 1 + length (decimal n) ≤ 4 * w
few_digits w n (inl e) h = let l : n < 256 ^ 1 = rw e at h in omega (arith, below_power 2 n (omega arith))
few_digits w n (inr (inl e)) h = let l : n < 256 ^ 2 = rw e at h in omega (arith, below_power 4 n (omega arith))
few_digits w n (inr (inr e)) h = let l : n < 256 ^ 4 = rw e at h in omega (arith, below_power 9 n (omega arith))

module _ (file : List ℕ) (all : Bytes file) where
  -- The numbers of fields give the fields' bytes back.
  pub fields_back : (p : ℕ) (ws : List ℕ) → Known ws → p + sum ws ≤ length file → field_bytes ws (numbers_at file p ws) ≡ take (sum ws) (drop p file)
  unfolding field_bytes numbers_at
  fields_back p [] known fits = refl
  fields_back p (w ∷ ws) known fits =
      rw (number_back file p w known.0 all (omega arith), fields_back (p + w) ws known.1 (omega arith), ← drop-drop w p file)
      (sym (take-add w (sum ws) (drop p file)))

  pub spaced_few : (p : ℕ) (ws : List ℕ) → Known ws → p + sum ws ≤ length file → length (spaced (numbers_at file p ws)) ≤ 4 * sum ws
  unfolding spaced numbers_at
  spaced_few p [] known fits = omega arith
  spaced_few p (w ∷ ws) known fits =
      let f = number_fits file p w known.0 all (omega arith) in
      simp length-append (omega (arith, few_digits w (number_at file p w) known.0 f, spaced_few (p + w) ws known.1 (omega arith)))
