-- The words of a table's rows, by the instruction's number.
-- Assumes nothing.
use mathlib.Core.Path.{◌≡◌, refl, ap, ◌∙◌}
use Prim.Native.Nat.{ℕ, zero, suc, ◌+◌, ◌*◌, ◌<◌, ◌≤◌}
use native.Mathlib.Omega.{arith}
use native.Mathlib.Nat.{add-zero, add-suc, suc-add}
use mathlib.Core.List.{List, [], ◌∷◌, ◌++◌}
use lib.ListN.{length, get_or, set, drop, get_or-append}
use lib.Seq.{sets, sets-eq}
use Rattle.blocks.specs.Table.{Row, row_at, row_words, place_in, row_in, words_of}

three : (i k : ℕ) → row_words * suc i + k ≡ suc (suc (suc (row_words * i + k)))
three i k = omega arith

pub length_words : (place : ℕ → ℕ) (n : ℕ) (R : List Row) → length (words_of place n R) ≡ row_words * length R
unfolding words_of
length_words place n [] = refl
length_words place n (r ∷ R) = omega (arith, length_words place (suc n) R)

pub words_place : (place : ℕ → ℕ) (n : ℕ) (R : List Row) (i : ℕ) → i < length R → place_in (words_of place n R) i ≡ place (n + i)
unfolding words_of
words_place place n [] i h = absurd (omega arith)
words_place place n (r ∷ R) zero h = ap place (omega arith)
words_place place n (r ∷ R) (suc i) h =
    let e : row_words * suc i ≡ suc (suc (suc (row_words * i))) = omega arith in
    let e' : n + suc i ≡ suc n + i = omega arith in
    rw (e, e') (words_place place (suc n) R i (omega arith))

pub words_row : (place : ℕ → ℕ) (n : ℕ) (R : List Row) (i : ℕ) → row_in (words_of place n R) i ≡ row_at R i
unfolding words_of
words_row place n [] i = refl
words_row place n (r ∷ R) zero = refl
words_row place n (r ∷ R) (suc i) = rw (three i 1, three i 2) (words_row place (suc n) R i)

sets_append : (l : List ℕ) (i : ℕ) (vs ws : List ℕ) → sets (sets l i vs) (i + length vs) ws ≡ sets l i (vs ++ ws)
sets_append l i [] ws = rw (add-zero i)
sets_append l i (v ∷ vs) ws = rw (add-suc i (length vs), ← suc-add i (length vs)) (sets_append (set l i v) (suc i) vs ws)

words_append : (place : ℕ → ℕ) (n : ℕ) (R R' : List Row) → words_of place n (R ++ R') ≡ words_of place n R ++ words_of place (n + length R) R'
unfolding words_of
words_append place n [] R' = rw (add-zero n)
words_append place n (r ∷ R) R' =
    let e : n + suc (length R) ≡ suc n + length R = omega arith in
    rw (e, words_append place (suc n) R R')

-- Rows written one after the other.
pub rows_then : (place : ℕ → ℕ) (n m : ℕ) (R R' : List Row) (w w1 w2 : List ℕ)
    → w1 ≡ sets w (row_words * n) (words_of place n R)
    → m ≡ n + length R
    → w2 ≡ sets w1 (row_words * m) (words_of place m R')
    → w2 ≡ sets w (row_words * n) (words_of place n (R ++ R'))
rows_then place n m R R' w w1 w2 a e b =
    let i : row_words * m ≡ row_words * n + length (words_of place n R) = omega (arith, length_words place n R) in
    b ∙ rw (a, i, e, words_append place n R R') (sets_append w (row_words * n) (words_of place n R) (words_of place (n + length R) R'))

-- Words stored from the front.
pub get_or_stored : (l vs : List ℕ) (i : ℕ) → length vs ≤ length l → i < length vs → get_or (sets l 0 vs) i 0 ≡ get_or vs i 0
get_or_stored l vs i h k = rw (sets-eq vs l 0 (omega arith)) (get_or-append vs (drop (0 + length vs) l) 0 i k)
