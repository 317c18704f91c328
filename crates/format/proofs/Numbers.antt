-- "Numbers are little-endian": the bytes of a field are those of its number, and a number that its field can hold is the number of
-- its bytes.
-- Assumes nothing.
use mathlib.Core.Path.{◌≡◌, refl, sym, ap, ◌∙◌}
use mathlib.Core.Logic.{inl, inr}
use mathlib.Core.List.{List, [], ◌∷◌, ◌++◌}
use Prim.Native.Nat.{ℕ, zero, suc, ◌+◌, ◌*◌, ◌/◌, ◌%◌, ◌^◌, ◌≤◌, ◌<◌}
use native.Mathlib.Omega.{arith}
use native.Mathlib.Nat.{add-zero, pow-succ'}
use lib.ListN.{length, get_or, take, drop, length-drop}
use lib.Seq.{length-take-le, get_or-drop, take_at, drop-append_seam}
use Rattle.format.specs.Fields.{word16, word32, number_at, little_endian, Bytes}
use Rattle.format.proofs.Widths.{Width}

-- The number of bytes, the lowest first.
unfoldable number_of : List ℕ → ℕ
number_of [] = 0
number_of (b ∷ bs) = b + 256 * number_of bs

-- ---- Bytes

bytes_tail : (b : ℕ) (bs : List ℕ) → Bytes (b ∷ bs) → Bytes bs
bytes_tail b bs all i h = all (suc i) (omega arith)

bytes_cons : (b : ℕ) (bs : List ℕ) → b < 256 → Bytes bs → Bytes (b ∷ bs)
bytes_cons b bs l all zero h = l
bytes_cons b bs l all (suc i) h = all i (omega arith)

pub bytes_none : Bytes []
bytes_none i h = absurd (omega arith)

pub bytes_append : (a b : List ℕ) → Bytes a → Bytes b → Bytes (a ++ b)
bytes_append [] b x y = y
bytes_append (e ∷ a) b x y = bytes_cons e (a ++ b) (x 0 (omega arith)) (bytes_append a b (bytes_tail e a x) y)

pub bytes_take : (n : ℕ) (l : List ℕ) → Bytes l → Bytes (take n l)
bytes_take zero l all = bytes_none
bytes_take (suc n) [] all = bytes_none
bytes_take (suc n) (b ∷ l) all = bytes_cons b (take n l) (all 0 (omega arith)) (bytes_take n l (bytes_tail b l all))

pub bytes_drop : (n : ℕ) (l : List ℕ) → Bytes l → Bytes (drop n l)
bytes_drop zero l all = all
bytes_drop (suc n) [] all = bytes_none
bytes_drop (suc n) (b ∷ l) all = bytes_drop n l (bytes_tail b l all)

-- ---- The bytes of a number

pub little_length : (w n : ℕ) → length (little_endian w n) ≡ w
unfolding little_endian
little_length zero n = refl
little_length (suc w) n = ap suc (little_length w (n / 256))

pub little_bytes : (w n : ℕ) → Bytes (little_endian w n)
unfolding little_endian
little_bytes zero n = bytes_none
little_bytes (suc w) n = bytes_cons (n % 256) (little_endian w (n / 256)) (omega arith) (little_bytes w (n / 256))

number_little : (w n : ℕ) → n < 256 ^ w → number_of (little_endian w n) ≡ n
unfolding little_endian number_of
number_little zero n h = omega arith
number_little (suc w) n h =
    let e : 256 ^ suc w ≡ 256 * 256 ^ w = pow-succ' 256 w in
    rw (number_little w (n / 256) (omega arith)) (omega arith)

little_number : (bs : List ℕ) → Bytes bs → little_endian (length bs) (number_of bs) ≡ bs
unfolding little_endian number_of
little_number [] all = refl
little_number (b ∷ bs) all =
    let l : b < 256 = all 0 (omega arith) in
    let r : (b + 256 * number_of bs) % 256 ≡ b = omega arith in
    let q : (b + 256 * number_of bs) / 256 ≡ number_of bs = omega arith in
    rw (r, q, little_number bs (bytes_tail b bs all))

number_less : (bs : List ℕ) → Bytes bs → number_of bs < 256 ^ length bs
unfolding number_of
number_less [] all = omega arith
number_less (b ∷ bs) all =
    let l : b < 256 = all 0 (omega arith) in
    let r = number_less bs (bytes_tail b bs all) in
    let e : 256 ^ suc (length bs) ≡ 256 * 256 ^ length bs = pow-succ' 256 (length bs) in
    omega arith

-- ---- The number at a place

one_byte : (l : List ℕ) → get_or l 0 0 ≡ number_of (take 1 l)
unfolding number_of
one_byte [] = refl
one_byte (a ∷ l) = omega arith

two_bytes : (l : List ℕ) → get_or l 0 0 + 256 * get_or l 1 0 ≡ number_of (take 2 l)
unfolding number_of
two_bytes [] = refl
two_bytes (a ∷ []) = omega arith
two_bytes (a ∷ b ∷ l) = omega arith

four_bytes : (l : List ℕ) → get_or l 0 0 + 256 * get_or l 1 0 + 65536 * get_or l 2 0 + 16777216 * get_or l 3 0 ≡ number_of (take 4 l)
unfolding number_of
four_bytes [] = refl
four_bytes (a ∷ []) = omega arith
four_bytes (a ∷ b ∷ []) = omega arith
four_bytes (a ∷ b ∷ c ∷ []) = omega arith
four_bytes (a ∷ b ∷ c ∷ d ∷ l) = omega arith

-- Only the bytes of the field are looked at.
number_at_is : (file : List ℕ) (p w : ℕ) → Width w → number_at file p w ≡ number_of (take w (drop p file))
unfolding number_at word16 word32
number_at_is file p w (inl e) = rw (e, ← one_byte (drop p file), get_or-drop p file 0 0, add-zero p)
number_at_is file p w (inr (inl e)) = rw (e, ← two_bytes (drop p file), get_or-drop p file 0 0, get_or-drop p file 1 0, add-zero p)
number_at_is file p w (inr (inr e)) =
    rw (e, ← four_bytes (drop p file), get_or-drop p file 0 0, get_or-drop p file 1 0, get_or-drop p file 2 0, get_or-drop p file 3 0, add-zero p)

pub number_same : (file other : List ℕ) (p q w : ℕ) → Width w → take w (drop p file) ≡ take w (drop q other) → number_at file p w ≡ number_at other q w
number_same file other p q w k e = number_at_is file p w k ∙ ap number_of e ∙ sym (number_at_is other q w k)

module _ (file : List ℕ) (p w : ℕ) (width : Width w) (all : Bytes file) (fits : p + w ≤ length file) where
  part : Bytes (take w (drop p file))
  part = bytes_take w (drop p file) (bytes_drop p file all)

  part_length : length (take w (drop p file)) ≡ w
  part_length = length-take-le w (drop p file) (rw (length-drop p file) (omega arith))

  -- The number of a field gives the field's bytes back.
  pub number_back : little_endian w (number_at file p w) ≡ take w (drop p file)
  number_back = rw (number_at_is file p w width) (rw part_length at (little_number (take w (drop p file)) part))

  pub number_fits : number_at file p w < 256 ^ w
  number_fits = rw (number_at_is file p w width) (rw part_length at (number_less (take w (drop p file)) part))

-- A number that its field can hold is the number of the field's bytes.
pub number_there : (before after : List ℕ) (w n : ℕ) → Width w → n < 256 ^ w → number_at (before ++ (little_endian w n ++ after)) (length before) w ≡ n
number_there before after w n width h =
    number_at_is (before ++ (little_endian w n ++ after)) (length before) w width
    ∙ rw (drop-append_seam before (little_endian w n ++ after), take_at (little_endian w n) after w (little_length w n)) (number_little w n h)
