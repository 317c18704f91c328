-- Words put one by one are a run of stores: what is left to put, from word i on, makes up the whole.
-- Assumes nothing.
use Prim.Native.Nat.{ℕ, suc, ◌+◌, ◌-◌, ◌*◌, ◌<◌, ◌≤◌}
use mathlib.Core.Path.{◌≡◌}
use mathlib.Core.List.{List}
use native.Mathlib.Numerals.{add-one}
use native.Mathlib.Omega.{arith}
use lib.ListN.{set}
use lib.Seq.{sets}
use Rattle.format.specs.Fields.{word32}
use Rattle.tgsi_run.specs.Values.{words_in}

-- What is left to put, from word i to word n, put after the words so far.
abbrev pub left : List ℕ → List ℕ → ℕ → ℕ → List ℕ
left words bytes i n = sets words i (words_in bytes (4 * i) (n - i))

abbrev pub whole : List ℕ → List ℕ → ℕ → List ℕ
whole words bytes n = sets words 0 (words_in bytes 0 n)

-- A turn of the loop.
pub put_next :
    (before words bytes : List ℕ) (i n word : ℕ) → i < n → word ≡ word32 bytes (4 * i)
    → left words bytes i n ≡ whole before bytes n → left (set words i word) bytes (i + 1) n ≡ whole before bytes n
unfolding words_in
put_next before words bytes i n word h e inv =
    let d : n - i ≡ suc (n - (i + 1)) = omega arith in
    let f : 4 * (i + 1) ≡ 4 * i + 4 = omega arith in
    rw (e, f, add-one) (rw (d, add-one) at inv)

-- After the loop nothing is left.
pub put_all :
    (before words bytes : List ℕ) (i n : ℕ) → n ≤ i → left words bytes i n ≡ whole before bytes n
    → words ≡ whole before bytes n
unfolding words_in
put_all before words bytes i n h inv = let d : n - i ≡ 0 = omega arith in rw d at inv
