-- Printing: what has been put and what is left to put make the whole, at every turn.
-- Assumes nothing.
use Rattle.lines.specs.Lines.{numbers_at, record_line}
use Rattle.format.specs.Kinds.{form_of, widths}
use Rattle.format.specs.Fields.{number_at}
use Rattle.format.proofs.Widths.{few_widths, widths_end, inside_by}
use Rattle.text.specs.Parts.{space, line_feed, spaced}
use Rattle.text.specs.Decimal.{decimal}
use Rattle.text.proofs.Stores.{sets_append, sets_snoc}
use Prim.Native.Nat.{◌+◌, ◌<◌, ◌≤◌, ℕ}
use mathlib.Core.Path.{◌∙◌, ◌≡◌, ap, sym}
use mathlib.Core.List.{List, [], ◌++◌, ◌∷◌}
use native.Mathlib.Omega.{arith}
use native.Mathlib.Numerals.{add-one}
use lib.ListN.{drop, drop_of_length-le, get_or, length, length-append, set}
use lib.Seq.{drop-cons, sets}

-- ---- The fields of a record

-- The text of the fields from field i on, which stand from a place on.
abbrev pub left : ℕ → List ℕ → ℕ → ℕ → List ℕ
left kind file place i = spaced (numbers_at file place (drop i (widths (form_of kind))))

module _ (kind : ℕ) (file : List ℕ) (place i w : ℕ) (e : w ≡ get_or (widths (form_of kind)) i 0) where
  -- The text of a field, and that of those after it.
  one_more : (w ≡ 0 → ⊥) → left kind file place i ≡ (space ∷ decimal (number_at file place w)) ++ left kind file (place + w) (i + 1)
  unfolding spaced numbers_at
  one_more h =
      let ws : List ℕ = widths (form_of kind) in
      let inside : i < length ws = inside_by ws i w e h in
      let d : drop i ws ≡ w ∷ drop (i + 1) ws = drop-cons ws i 0 inside ∙ rw (← e, add-one i) in
      rw d

  no_more : w ≡ 0 → left kind file place i ≡ []
  unfolding spaced numbers_at
  no_more h = rw (drop_of_length-le (widths (form_of kind)) (widths_end kind i (sym e ∙ h)))

all_left : (kind : ℕ) (file : List ℕ) (place i : ℕ) → 19 ≤ i → left kind file place i ≡ []
unfolding spaced numbers_at
all_left kind file place i h =
    let few : length (widths (form_of kind)) ≤ i = omega (arith, few_widths kind, h) in
    rw (drop_of_length-le (widths (form_of kind)) few)

module _ (kind : ℕ) (file : List ℕ) (at place count i : ℕ) where
  module _ (out whole : List ℕ) (e : sets out (at + count) (left kind file place i) ≡ whole) where
    pub fields_next : (w n r : ℕ) (after : List ℕ)
        → w ≡ get_or (widths (form_of kind)) i 0
        → (w ≡ 0 → ⊥)
        → after ≡ sets out (at + count) (space ∷ decimal n)
        → r ≡ length (space ∷ decimal n)
        → n ≡ number_at file place w
        → sets after (at + (count + r)) (left kind file (place + w) (i + 1)) ≡ whole
    fields_next w n r after ew h ea er en =
        let S : List ℕ = space ∷ decimal n in
        let T : List ℕ = left kind file (place + w) (i + 1) in
        let m : left kind file place i ≡ S ++ T = one_more kind file place i w ew h ∙ rw (← en) in
        let a : at + (count + r) ≡ at + count + length S = omega (arith, er) in
        rw (a, ea) (sym (sets_append out (at + count) S T) ∙ ap (λ (t : List ℕ). sets out (at + count) t) (sym m) ∙ e)

    pub fields_put : (w : ℕ) → w ≡ get_or (widths (form_of kind)) i 0 → w ≡ 0 → out ≡ whole
    fields_put w ew z = rw (← e, no_more kind file place i w ew z)

    pub fields_all_put : 19 ≤ i → out ≡ whole
    fields_all_put h = rw (← e, all_left kind file place i h)

  module _ (total : ℕ) (e : count + length (left kind file place i) ≡ total) where
    pub count_next : (w n r : ℕ)
        → w ≡ get_or (widths (form_of kind)) i 0
        → (w ≡ 0 → ⊥)
        → r ≡ length (space ∷ decimal n)
        → n ≡ number_at file place w
        → count + r + length (left kind file (place + w) (i + 1)) ≡ total
    count_next w n r ew h er en =
        let S : List ℕ = space ∷ decimal n in
        let T : List ℕ = left kind file (place + w) (i + 1) in
        let m : left kind file place i ≡ S ++ T = one_more kind file place i w ew h ∙ rw (← en) in
        let l : length (left kind file place i) ≡ length S + length T = rw m (length-append S T) in
        omega (arith, l, er, e)

    pub fields_length : (w : ℕ) → w ≡ get_or (widths (form_of kind)) i 0 → w ≡ 0 → count ≡ total
    fields_length w ew z = omega (arith, e, ap length (no_more kind file place i w ew z))

    pub fields_all_length : 19 ≤ i → count ≡ total
    fields_all_length h = omega (arith, e, ap length (all_left kind file place i h))

-- ---- The line of a record

module _ (file : List ℕ) (at kind : ℕ) (e : kind ≡ get_or file at 0) where
  pub line_put : (entry one after : List ℕ) (to n : ℕ)
      → one ≡ sets entry to (decimal kind)
      → n ≡ length (decimal kind)
      → after ≡ sets one (to + n) (spaced (numbers_at file (at + 1) (widths (form_of kind))))
      → after ≡ sets entry to (record_line file at)
  unfolding record_line
  line_put entry one after to n eo en ea =
      ea ∙ rw (eo, en, ← e) (sym (sets_append entry to (decimal kind) (spaced (numbers_at file (at + 1) (widths (form_of kind))))))

  pub line_length : (n m : ℕ)
      → n ≡ length (decimal kind)
      → m ≡ length (spaced (numbers_at file (at + 1) (widths (form_of kind))))
      → n + m ≡ length (record_line file at)
  unfolding record_line
  line_length n m en em = rw (en, em, ← e) (sym (length-append (decimal kind) (spaced (numbers_at file (at + 1) (widths (form_of kind))))))

pub ended_put : (entry one after l : List ℕ) (to n : ℕ)
    → one ≡ sets entry to l
    → n ≡ length l
    → after ≡ set one (to + n) line_feed
    → after ≡ sets entry to (l ++ (line_feed ∷ []))
ended_put entry one after l to n eo en ea = ea ∙ rw (eo, en) (sym (sets_snoc entry to l line_feed))
