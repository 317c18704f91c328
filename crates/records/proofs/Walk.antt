-- The walk over a file's records: a record lies within the file, a walk that meets none stays at the end, and what the code
-- finds step by step are the bounds of record n.
-- Assumes nothing.
use mathlib.Core.Path.{◌≡◌, refl, sym, ◌∙◌, ap}
use mathlib.Core.List.{List}
use mathlib.Core.Bool.{Bool, true, false, cond, ◌&&◌}
use Prim.Native.Nat.{ℕ, zero, suc, ◌+◌, ◌-◌, ◌^◌, ◌≤◌, ◌<◌}
use native.Mathlib.Omega.{arith}
use native.Mathlib.Numerals.{add-one}
use native.Mathlib.Nat.{add-zero, add-suc, add-sub_cancel_left}
use lib.Dec.{leb, ltb, eqb}
use lib.ListN.{length, get_or, take, drop}
use borrow.Author.Tests.{ltb-true, leb-true, eqb-true, eqb-false, eq-eqb, ne_eqb, le-ltb, lt-ltb, le-leb}
use Rattle.format.specs.Kinds.{length_of}
use Rattle.format.specs.declared.records.Bounds.{Bounds}
use Rattle.format.specs.Records.{longest, size_at, next, place_from, size_of, start_of, record_of, bounds_of}

chosen_within : (t : Bool) (l k : ℕ) → k ≤ l → cond t l k ≤ l
chosen_within true l k h = omega arith
chosen_within false l k h = h

module _ (file : List ℕ) where
  -- ---- The size of a record

  pub size_whole : (at k : ℕ) → k ≡ length_of (get_or file at 0) → at < length file → k < 255 → k + 1 ≤ length file - at → k + 1 ≡ size_at file at
  unfolding size_at
  size_whole at k e h l f = rw (← e) (rw (lt-ltb at (length file) h, lt-ltb k 255 l, le-leb (k + 1) (length file - at) f))

  pub size_past : (at : ℕ) → length file ≤ at → 0 ≡ size_at file at
  unfolding size_at
  size_past at h = rw (le-ltb at (length file) h)

  -- A place with a size has a whole record: its kind is known, and it lies within the file.
  module _ (at : ℕ) where
    pub record Whole : Type 0 where
      pub known : length_of (get_or file at 0) < 255
      pub fits : at + size_at file at ≤ length file
      pub size : size_at file at ≡ 1 + length_of (get_or file at 0)

    pub sized_whole : (size_at file at ≡ 0 → ⊥) → Whole
    unfolding size_at
    sized_whole some =
        by (ltb at (length file)) refl (ltb (length_of (get_or file at 0)) 255) refl (leb (length_of (get_or file at 0) + 1) (length file - at)) refl some where
          by : (a : Bool) → ltb at (length file) ≡ a
              → (b : Bool) → ltb (length_of (get_or file at 0)) 255 ≡ b
              → (c : Bool) → leb (length_of (get_or file at 0) + 1) (length file - at) ≡ c
              → (cond (a && b && c) (length_of (get_or file at 0) + 1) 0 ≡ 0 → ⊥) → Whole
          by true p true q true r s =
              let e : size_at file at ≡ length_of (get_or file at 0) + 1 = rw (p, q, r) in
              let h = ltb-true at (length file) p in
              let f = leb-true (length_of (get_or file at 0) + 1) (length file - at) r in
              record { known = ltb-true (length_of (get_or file at 0)) 255 q; fits = omega arith; size = omega arith }
          by true p true q false r s = absurd (s refl)
          by true p false q c r s = absurd (s refl)
          by false p b q c r s = absurd (s refl)

  -- Past a record, or where there is none, the walk is within the file still.
  pub size_fits : (at : ℕ) → at ≤ length file → at + size_at file at ≤ length file
  size_fits at h = by (eqb (size_at file at) 0) refl where
    by : (b : Bool) → eqb (size_at file at) 0 ≡ b → at + size_at file at ≤ length file
    by true e = omega (arith, eqb-true (size_at file at) 0 e)
    by false e = (sized_whole at (eqb-false (size_at file at) 0 e)).fits

  -- The same of a size that the code has found.
  pub size_fits_by : (at k : ℕ) → at ≤ length file → k ≡ size_at file at → at + k ≤ length file
  size_fits_by at k h e = omega (arith, size_fits at h)

  pub walk_fits : (at k : ℕ) → at ≤ length file → length file ≤ longest → k ≡ size_at file at → at + k < 2 ^ 64
  walk_fits at k h l e = omega (arith, size_fits at h)

  -- ---- The walk

  pub start_place : (from : ℕ) → from ≡ place_from file from 0
  unfolding place_from
  start_place from = refl

  pub next_size : (at : ℕ) → (size_at file at ≡ 0 → ⊥) → next file at ≡ at + size_at file at
  unfolding next
  next_size at h = rw (ne_eqb _ _ h)

  next_none : (at : ℕ) → size_at file at ≡ 0 → next file at ≡ length file
  unfolding next
  next_none at h = rw (eq-eqb _ _ h)

  -- One record on.
  pub place_step : (from i at k : ℕ)
      → at ≡ place_from file from i
      → k ≡ size_at file at
      → (k ≡ 0 → ⊥)
      → at + k ≡ place_from file from (i + 1)
  unfolding place_from
  place_step from i at k e f h = rw (add-one, ← e) (rw f (sym (next_size at (λ q. h (f ∙ q)))))

  -- Where the walk meets no record it is at the end ever after, and finds none there.
  stuck : (i : ℕ) → size_at file (place_from file 0 i) ≡ 0 → (k : ℕ) → size_at file (place_from file 0 (i + k)) ≡ 0
  unfolding place_from
  stuck i h zero = rw (add-zero i) h
  stuck i h (suc k) = rw (add-suc i k) (rw (next_none _ (stuck i h k)) (sym (size_past (length file) (omega arith))))

  -- The walk stays within the file.
  next_fits : (at : ℕ) → at ≤ length file → next file at ≤ length file
  unfolding next
  next_fits at h = chosen_within (eqb (size_at file at) 0) (length file) (at + size_at file at) (size_fits at h)

  pub place_fits : (from n : ℕ) → from ≤ length file → place_from file from n ≤ length file
  unfolding place_from
  place_fits from zero h = h
  place_fits from (suc n) h = next_fits (place_from file from n) (place_fits from n h)

  within_file : (long : Bool) (k p : ℕ) → p + k ≤ length file → cond (eqb (cond long 0 k) 0) (length file) p + cond long 0 k ≤ length file
  within_file true k p h = omega arith
  within_file false zero p h = omega arith
  within_file false (suc k) p h = rw (ne_eqb (suc k) 0 (λ e. omega arith)) h

  -- ---- Record n

  module _ (n : ℕ) where
    start_none : size_of file n ≡ 0 → record { start = length file; length = 0 } ≡ bounds_of file n
    unfolding bounds_of start_of
    start_none h = simp (h)

    pub bounds_long : longest < length file → record { start = length file; length = 0 } ≡ bounds_of file n
    unfolding size_of
    bounds_long h = start_none (rw (lt-ltb longest (length file) h))

    size_short : length file ≤ longest → size_of file n ≡ size_at file (place_from file 0 n)
    unfolding size_of
    size_short h = rw (le-ltb longest (length file) h)

    -- The walk is at record i, at or before n.
    module _ (i at k : ℕ) (short : length file ≤ longest) (e : at ≡ place_from file 0 i) (f : k ≡ size_at file at) (le : i ≤ n) where
      pub bounds_none : k ≡ 0 → record { start = length file; length = 0 } ≡ bounds_of file n
      bounds_none z =
          let s : n ≡ i + (n - i) = omega arith in
          let none : size_at file (place_from file 0 i) ≡ 0 = cc in
          start_none (size_short short ∙ ap (λ m. size_at file (place_from file 0 m)) s ∙ stuck i none (n - i))

      pub bounds_found : n ≤ i → (k ≡ 0 → ⊥) → record { start = at; length = k } ≡ bounds_of file n
      unfolding bounds_of start_of
      bounds_found ge h =
          let s : i ≡ n = omega arith in
          let size : size_of file n ≡ k = cc (size_short short) in
          rw (size, ne_eqb k 0 h) (rw (e, s))

    -- Record n lies within the file.
    bounds_fit : start_of file n + size_of file n ≤ length file
    unfolding start_of size_of
    bounds_fit =
        within_file (ltb longest (length file)) (size_at file (place_from file 0 n)) (place_from file 0 n)
        (size_fits (place_from file 0 n) (place_fits 0 n (omega arith)))

    -- The part between the bounds is the record, and stands where the record starts.
    module _ (b : Bounds) (e : b ≡ bounds_of file n) where
      pub part_fits : b.start + b.length ≤ length file
      unfolding bounds_of
      part_fits = rw e bounds_fit

      pub part_bytes : take (b.start + b.length - b.start) (drop b.start file) ≡ record_of file n
      unfolding bounds_of record_of
      part_bytes = rw e (rw add-sub_cancel_left)

      pub part_place : (offset : ℕ) → b.start + offset ≡ offset + start_of file n
      unfolding bounds_of
      part_place offset = rw e (omega arith)
