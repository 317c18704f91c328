-- Whether the code of some block is within bounds, going over the blocks from the outermost on.
-- Assumes nothing.
use mathlib.Core.Path.{◌≡◌}
use mathlib.Core.Bool.{true, false, or-true}
use mathlib.Core.Logic.{⊎_elim}
use mathlib.Core.List.{List}
use Prim.Native.Nat.{ℕ, zero, suc, ◌+◌, ◌<◌}
use native.Mathlib.Nat.{eq-or-lt_of_le}
use native.Mathlib.Numerals.{add-one}
use native.Mathlib.Omega.{arith}
use lib.ListN.{get_or}
use Rattle.format.specs.Kinds.{within}
use Rattle.stack.specs.Arrays.{some_code}

module _ (lo hi : ℕ) (codes : List ℕ) (n : ℕ) where
  pub some_found : (depth : ℕ) → n < depth → within lo hi (get_or codes n 0) ≡ true → true ≡ some_code lo hi codes depth
  some_found zero h e = absurd (omega arith)
  some_found (suc m) h e = ⊎_elim (λ (q : n ≡ m). rw (rw q at e)) (λ l. rw (← some_found m l e, or-true)) (eq-or-lt_of_le (omega arith))

  pub none_more : some_code lo hi codes n ≡ false → within lo hi (get_or codes n 0) ≡ false → some_code lo hi codes (n + 1) ≡ false
  none_more none here = rw (add-one, here, none)
