-- The signed order over the width: half the range added makes it the unsigned one.
use Rattle.words.specs.Word.{add, slt}
use Rattle.words.proofs.Signed.{by_sign, signed_high, signed_low}
use Rattle.words.proofs.Numbers.{ltb_same}
use Prim.Native.Nat.{◌+◌, ◌-◌, ◌<◌, ◌^◌, ◌≤◌, suc, ℕ}
use mathlib.Core.Path.{◌∙◌, ◌≡◌}
use native.Mathlib.Omega.{arith}
use native.Mathlib.Nat.{mod-eq_of_lt, mod-eq-sub-mod}
use borrow.Author.Tests.{le-ltb, lt-ltb}
use lib.Dec.{ltb}

module _ (w : ℕ) (halves : 2 ^ w ≡ 2 ^ (w - 1) + 2 ^ (w - 1)) where
  moved_low : (a : ℕ) → a < 2 ^ (w - 1) → add w a (2 ^ (w - 1)) ≡ a + 2 ^ (w - 1)
  moved_low a h = mod-eq_of_lt (omega arith)

  moved_high : (a : ℕ) → 2 ^ (w - 1) ≤ a → a < 2 ^ w → add w a (2 ^ (w - 1)) ≡ a - 2 ^ (w - 1)
  moved_high a h l =
      mod-eq-sub-mod {n = a + 2 ^ (w - 1)} {m = 2 ^ w} (omega arith)
      ∙ mod-eq_of_lt {n = a + 2 ^ (w - 1) - 2 ^ w} {m = 2 ^ w} (omega arith)
      ∙ (omega arith)

  module _ (a b : ℕ) (la : a < 2 ^ w) (lb : b < 2 ^ w) where
    moved_low_low : a < 2 ^ (w - 1) → b < 2 ^ (w - 1) → ltb (a + 2 ^ (w - 1)) (b + 2 ^ (w - 1)) ≡ slt w a b
    moved_low_low p q =
        ltb_same (a + 2 ^ (w - 1)) (b + 2 ^ (w - 1)) a b (λ h. omega arith) (λ h. omega arith) ∙ cc (signed_low w halves a p, signed_low w halves b q)

    moved_low_high : a < 2 ^ (w - 1) → 2 ^ (w - 1) ≤ b → ltb (a + 2 ^ (w - 1)) (b - 2 ^ (w - 1)) ≡ slt w a b
    moved_low_high p q = le-ltb (a + 2 ^ (w - 1)) (b - 2 ^ (w - 1)) (omega arith) ∙ cc (signed_low w halves a p, signed_high w halves b q lb)

    moved_high_low : 2 ^ (w - 1) ≤ a → b < 2 ^ (w - 1) → ltb (a - 2 ^ (w - 1)) (b + 2 ^ (w - 1)) ≡ slt w a b
    moved_high_low p q = lt-ltb (a - 2 ^ (w - 1)) (b + 2 ^ (w - 1)) (omega arith) ∙ cc (signed_high w halves a p la, signed_low w halves b q)

    moved_high_high : 2 ^ (w - 1) ≤ a → 2 ^ (w - 1) ≤ b → ltb (a - 2 ^ (w - 1)) (b - 2 ^ (w - 1)) ≡ slt w a b
    moved_high_high p q =
        ltb_same (a - 2 ^ (w - 1)) (b - 2 ^ (w - 1)) (2 ^ w - suc b) (2 ^ w - suc a) (λ h. omega arith) (λ h. omega arith)
        ∙ cc (signed_high w halves a p la, signed_high w halves b q lb)

    pub slt_is : (x y : ℕ) → x ≡ add w a (2 ^ (w - 1)) → y ≡ add w b (2 ^ (w - 1)) → ltb x y ≡ slt w a b
    slt_is x y ex ey =
        by_sign w halves a
        (λ p. by_sign w halves b (λ q. cc (moved_low a p, moved_low b q, moved_low_low p q))
        (λ q. cc (moved_low a p, moved_high b q lb, moved_low_high p q)))
        (λ p. by_sign w halves b (λ q. cc (moved_high a p la, moved_low b q, moved_high_low p q))
        (λ q. cc (moved_high a p la, moved_high b q lb, moved_high_high p q)))
