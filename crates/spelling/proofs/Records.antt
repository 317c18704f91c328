-- The record of a line: what has been put and what the rest of the line gives make the whole, at every turn.
-- Assumes nothing.
use Rattle.format.proofs.Numbers.{little_length}
use mathlib.Core.Path.{◌≡◌, refl, sym, ap, ◌∙◌}
use mathlib.Core.Bool.{Bool, true, false, not, ◌&&◌}
use mathlib.Core.List.{List, [], ◌∷◌, ◌++◌, map}
use Prim.Native.Nat.{ℕ, zero, suc, ◌+◌, ◌-◌, ◌*◌, ◌/◌, ◌%◌, ◌^◌, ◌≤◌, ◌<◌}
use native.Mathlib.Omega.{arith}
use native.Mathlib.Numerals.{add-one}
use borrow.Author.Tests.{ltb-true, ltb-false, not-true, not-false}
use lib.Dec.{ltb}
use lib.ListN.{length, get_or, take, drop, set, length-append, drop_of_length-le}
use lib.Pow.{field, mod-mod-pow}
use lib.Seq.{sets, take-length, drop-cons}
use Rattle.format.specs.Kinds.{form_of, is_known, widths}
use Rattle.format.specs.Fields.{little_endian}
use Rattle.format.proofs.Widths.{sum, few_widths, widths_end, widths_known, known_small, known_sum, inside_by}
use Rattle.text.specs.Decimal.{value_of, value_from}
use Rattle.text.specs.Parts.{space, split, first, same}
use Rattle.text.proofs.Stores.{sets_append, front}
use Rattle.text.proofs.Splitting.{split_within, split_part, split_first, split_last}
use Rattle.lines.specs.Lines.{record_line}
use Rattle.spelling.specs.Spelling.{numbers_in, field_bytes, kind_in, line_record, is_line_of}

-- ---- The bytes of a number

module _ (at width : ℕ) where
  module _ (out whole : List ℕ) (rest i : ℕ) (e : sets out (at + i) (little_endian (width - i) rest) ≡ whole) where
    pub bytes_next : (after : List ℕ) → i < width → after ≡ set out (at + i) (rest % 256) → sets after (at + (i + 1)) (little_endian (width - (i + 1)) (rest / 256)) ≡ whole
    unfolding little_endian
    bytes_next after h ea =
        let m : width - i ≡ suc (width - (i + 1)) = omega arith in
        let a : at + (i + 1) ≡ suc (at + i) = omega arith in
        rw (ea, a) (rw m at e)

    pub bytes_put : width ≤ i → out ≡ whole
    unfolding little_endian
    bytes_put h =
        let z : width - i ≡ 0 = omega arith in
        rw z at e

-- A number's lowest bytes are those of the number modulo a power that has them all.
pub little_cut : (width k v : ℕ) → 8 * width ≤ k → little_endian width (v % 2 ^ k) ≡ little_endian width v
unfolding little_endian
little_cut zero k v h = refl
little_cut (suc w) k v h =
    let e : k ≡ (k - 8) + 8 = omega arith in
    rw (e, field v (k - 8) 8, mod-mod-pow v (k - 8) 8, little_cut w (k - 8) (v / 256) (omega arith))

-- ---- The record of a line

-- A number that is missing is 0, as the empty part is.
no_number : (ws : List ℕ) → field_bytes ws (0 ∷ []) ≡ field_bytes ws []
unfolding field_bytes
no_number [] = refl
no_number (w ∷ ws) = refl

first_value : (ps : List (List ℕ)) → get_or (map value_of ps) 0 0 ≡ value_of (first ps)
unfolding value_from
first_value [] = refl
first_value (p ∷ ps) = refl

module _ (l : List ℕ) (n : ℕ) (e : n ≡ length (first (split space l))) where
  first_number : (w : ℕ) (ws rest : List ℕ) → rest ≡ drop (n + 1) l
      → field_bytes (w ∷ ws) (numbers_in l) ≡ little_endian w (value_of (take n l)) ++ field_bytes ws (numbers_in rest)
  unfolding field_bytes split value_from
  first_number w ws rest er = on (ltb n (length l)) refl
    where
      on : (t : Bool) → ltb n (length l) ≡ t → field_bytes (w ∷ ws) (numbers_in l) ≡ little_endian w (value_of (take n l)) ++ field_bytes ws (numbers_in rest)
      on true p = rw (split_first space l n e (ltb-true n (length l) p), er)
      on false p =
          let all : n ≡ length l = omega (arith, split_within space l n e, ltb-false n (length l) p) in
          let gone : drop (n + 1) l ≡ [] = drop_of_length-le l {i = n + 1} (omega (arith, all)) in
          let none : numbers_in rest ≡ 0 ∷ [] = rw (er, gone) in
          rw (split_last space l n e all, none, no_number ws, all, take-length l)

pub kind_is : (l : List ℕ) (v : ℕ) → v ≡ value_of (first (split space (drop 0 l))) % 2 ^ 32 → v % 256 ≡ kind_in l
unfolding kind_in
kind_is l v ev =
    ap (λ (x : ℕ). x % 2 ^ 8) ev ∙ mod-mod-pow (value_of (first (split space l))) 24 8
    ∙ ap (λ (x : ℕ). x % 256) (sym (first_value (split space l)))

-- The widths of the fields after the kind.
abbrev fields : ℕ → List ℕ
fields kind = widths (form_of kind)

pub bytes_length : (ws ns : List ℕ) → length (field_bytes ws ns) ≡ sum ws
unfolding field_bytes
bytes_length [] ns = refl
bytes_length (w ∷ ws) [] = length-append (little_endian w 0) (field_bytes ws []) ∙ rw (little_length w 0, bytes_length ws [])
bytes_length (w ∷ ws) (n ∷ ns) = length-append (little_endian w n) (field_bytes ws ns) ∙ rw (little_length w n, bytes_length ws ns)

pub record_size : (l : List ℕ) → length (line_record l) ≡ 1 + sum (fields (kind_in l))
unfolding line_record
record_size l = bytes_length (1 ∷ fields (kind_in l)) (numbers_in l)

pub record_short : (l : List ℕ) → length (line_record l) ≤ 128
record_short l = omega (arith, record_size l, known_sum (fields (kind_in l)) (widths_known (kind_in l)), few_widths (kind_in l))

-- The bytes that the numbers from a place of a line on give to the fields from field i on.
abbrev pub bytes_left : ℕ → List ℕ → ℕ → ℕ → List ℕ
bytes_left kind l from i = field_bytes (drop i (fields kind)) (numbers_in (drop from l))

-- A number that a line has at a place gives one field, and what follows it the others.
module _ (l : List ℕ) (from v next : ℕ)
    (ev : v ≡ value_of (first (split space (drop from l))) % 2 ^ 32)
    (ed : drop next l ≡ drop (length (first (split space (drop from l))) + 1) (drop from l)) where
  one_number : (w : ℕ) (ws : List ℕ) → w ≤ 4
      → field_bytes (w ∷ ws) (numbers_in (drop from l)) ≡ little_endian w v ++ field_bytes ws (numbers_in (drop next l))
  one_number w ws small =
      let n : ℕ = length (first (split space (drop from l))) in
      first_number (drop from l) n refl w ws (drop next l) ed
      ∙ rw (split_part space (drop from l) n refl, ev, little_cut w 32 (value_of (first (split space (drop from l)))) (omega arith))

  module _ (kind i w : ℕ) (ew : w ≡ get_or (fields kind) i 0) (some : w ≡ 0 → ⊥) where
    one_field : bytes_left kind l from i ≡ little_endian w v ++ bytes_left kind l next (i + 1)
    one_field =
        let inside : i < length (fields kind) = inside_by (fields kind) i w ew some in
        let d : drop i (fields kind) ≡ w ∷ drop (i + 1) (fields kind) = drop-cons (fields kind) i 0 inside ∙ rw (← ew, add-one i) in
        ap (λ (ws : List ℕ). field_bytes ws (numbers_in (drop from l))) d
        ∙ one_number w (drop (i + 1) (fields kind)) (omega (arith, ew, known_small (fields kind) (widths_known kind) i))

-- A number's bytes are put, and more after them.
put_then : (out after : List ℕ) (at w v : ℕ) (more : List ℕ)
    → after ≡ sets out at (little_endian w v) → sets after (at + w) more ≡ sets out at (little_endian w v ++ more)
put_then out after at w v more ea =
    let a : at + w ≡ at + length (little_endian w v) = rw (little_length w v) in
    rw (a, ea) (sym (sets_append out at (little_endian w v) more))

count_then : (at w v : ℕ) (more : List ℕ) → at + w + length more ≡ at + length (little_endian w v ++ more)
count_then at w v more = omega (arith, length-append (little_endian w v) more, little_length w v)

-- The first number gives the kind.
module _ (l : List ℕ) (v next kind : ℕ)
    (ev : v ≡ value_of (first (split space (drop 0 l))) % 2 ^ 32)
    (ed : drop next l ≡ drop (length (first (split space (drop 0 l))) + 1) (drop 0 l))
    (ek : kind ≡ v % 256) where
  record_parts : line_record l ≡ little_endian 1 v ++ bytes_left kind l next 0
  unfolding line_record
  record_parts =
      let k : kind_in l ≡ kind = sym (ek ∙ kind_is l v ev) in
      rw k (one_number l 0 v next ev ed 1 (fields kind) (omega arith))

  pub record_put : (entry after out : List ℕ) → after ≡ sets entry 0 (little_endian 1 v)
      → out ≡ sets after 1 (bytes_left kind l next 0) → out ≡ sets entry 0 (line_record l)
  record_put entry after out ea eo = eo ∙ rw record_parts (put_then entry after 0 1 v (bytes_left kind l next 0) ea)

  module _ (size : ℕ) (es : size ≡ 1 + length (bytes_left kind l next 0)) where
    pub record_length : size ≡ length (line_record l)
    record_length = omega (arith, es, ap length record_parts, count_then 0 1 v (bytes_left kind l next 0))

    pub record_few : size ≤ 128
    record_few = omega (arith, record_length, record_short l)

-- No field is left: the width past the last is 0, and no record has a twentieth field.
module _ (l : List ℕ) (kind from i : ℕ) where
  left_none : length (fields kind) ≤ i → bytes_left kind l from i ≡ []
  unfolding field_bytes
  left_none h = rw (drop_of_length-le (fields kind) h)

  no_field : (w : ℕ) → w ≡ get_or (fields kind) i 0 → w ≡ 0 → bytes_left kind l from i ≡ []
  no_field w ew z = left_none (widths_end kind i (sym ew ∙ z))

  all_done : 19 ≤ i → bytes_left kind l from i ≡ []
  all_done h = left_none (omega (arith, few_widths kind, h))

module _ (l : List ℕ) (kind from size i : ℕ) where
  module _ (out whole : List ℕ) (e : sets out size (bytes_left kind l from i) ≡ whole) where
    pub fields_next : (w v next : ℕ) (after : List ℕ)
        → w ≡ get_or (fields kind) i 0
        → (w ≡ 0 → ⊥)
        → v ≡ value_of (first (split space (drop from l))) % 2 ^ 32
        → drop next l ≡ drop (length (first (split space (drop from l))) + 1) (drop from l)
        → after ≡ sets out size (little_endian w v)
        → sets after (size + w) (bytes_left kind l next (i + 1)) ≡ whole
    fields_next w v next after ew h ev ed ea =
        put_then out after size w v (bytes_left kind l next (i + 1)) ea
        ∙ ap (λ (t : List ℕ). sets out size t) (sym (one_field l from v next ev ed kind i w ew h))
        ∙ e

    pub fields_put : (w : ℕ) → w ≡ get_or (fields kind) i 0 → w ≡ 0 → out ≡ whole
    fields_put w ew z = rw (← e, no_field l kind from i w ew z)

    pub fields_all_put : 19 ≤ i → out ≡ whole
    fields_all_put h = rw (← e, all_done l kind from i h)

  module _ (total : ℕ) (e : size + length (bytes_left kind l from i) ≡ total) where
    pub length_next : (w next : ℕ)
        → w ≡ get_or (fields kind) i 0
        → (w ≡ 0 → ⊥)
        → drop next l ≡ drop (length (first (split space (drop from l))) + 1) (drop from l)
        → size + w + length (bytes_left kind l next (i + 1)) ≡ total
    length_next w next ew h ed =
        let v : ℕ = value_of (first (split space (drop from l))) % 2 ^ 32 in
        count_then size w v (bytes_left kind l next (i + 1))
        ∙ ap (λ (t : List ℕ). size + length t) (sym (one_field l from v next refl ed kind i w ew h))
        ∙ e

    pub fields_length : (w : ℕ) → w ≡ get_or (fields kind) i 0 → w ≡ 0 → size ≡ total
    fields_length w ew z = omega (arith, e, ap length (no_field l kind from i w ew z))

    pub fields_all_length : 19 ≤ i → size ≡ total
    fields_all_length h = omega (arith, e, ap length (all_done l kind from i h))

-- ---- Whether a line is that of a record

-- A record has its kind's byte.
pub record_some : (l : List ℕ) → 0 < length (line_record l)
record_some l = omega (arith, record_size l)

module _ (r l : List ℕ) (kind : ℕ) (known : Bool) (ek : kind ≡ get_or r 0 0) (e : known ≡ is_known kind) where
  asked : is_line_of r l ≡ (known && same (record_line r 0) l)
  unfolding is_line_of
  asked = ap (λ (b : Bool). b && same (record_line r 0) l) (sym (e ∙ ap is_known ek))

  pub unknown_line : not known ≡ true → false ≡ is_line_of r l
  unknown_line h = sym (asked ∙ rw (not-true known h))

  pub line_same : (b : Bool) (zeros out : List ℕ) (n : ℕ)
      → not known ≡ false
      → out ≡ sets zeros 0 (record_line r 0)
      → n ≡ length (record_line r 0)
      → n ≤ 230
      → length zeros ≡ 256
      → b ≡ same (take n out) l
      → b ≡ is_line_of r l
  line_same b zeros out n h eo en few room eb =
      eb ∙ ap (λ (t : List ℕ). same t l) (front zeros out (record_line r 0) n eo en (omega (arith, en, few, room))) ∙ sym (asked ∙ rw (not-false known h))
