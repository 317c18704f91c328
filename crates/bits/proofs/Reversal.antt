-- The reversal: its bits, and that five stages give it.
use Rattle.words.specs.Word.{bit, brev, sum}
use Rattle.bits.specs.Inner.Swaps.{origin, picked, swapped}
use Rattle.bits.proofs.Bitwise.{bit_lt, made_bit, made_of}
use Rattle.bits.proofs.Swaps.{picked_on}
use Prim.Native.Nat.{◌-◌, ◌<◌, ◌^◌, ℕ}
use mathlib.Core.Path.{◌∙◌, ◌≡◌, refl}
use lib.Dec.{lit<}

-- bit i of the reversal of w bits is bit w - 1 - i of the source
pub brev_bit : (w a i : ℕ) → i < w → bit (brev w a) i ≡ bit a (w - 1 - i)
unfolding brev
brev_bit w a i h = made_bit (λ i. bit a (w - 1 - i)) (λ i. bit_lt a (w - 1 - i)) w i h

-- and no other word has these bits
pub brev_only : (w a r : ℕ) → r < 2 ^ w → ((i : ℕ) → i < w → bit r i ≡ bit a (w - 1 - i)) → r ≡ brev w a
unfolding brev
brev_only w a r = made_of w r (λ i. bit a (w - 1 - i))

-- the place of bit i traced back through the five stages, the last one first
abbrev traced : ℕ → ℕ
traced i = origin 16 0x0000FFFF (origin 8 0x00FF00FF (origin 4 0x0F0F0F0F (origin 2 0x33333333 (origin 1 0x55555555 i))))

-- antt computes of each of the 32 places that this is place 31 - i
traced_is : (a : ℕ) → picked 32 a traced ≡ brev 32 a
unfolding brev sum
traced_is a = refl

pub reversed : (a b c d e r : ℕ) → b ≡ swapped 32 a 16 0x0000FFFF → c ≡ swapped 32 b 8 0x00FF00FF → d ≡ swapped 32 c 4 0x0F0F0F0F
    → e ≡ swapped 32 d 2 0x33333333 → r ≡ swapped 32 e 1 0x55555555 → r ≡ brev 32 a
unfolding swapped
reversed a b c d e r halves quarters eighths sixteenths bits =
    picked_on 32 1 _ refl (lit< tt) _ a e r
    (picked_on 32 2 _ refl (lit< tt) _ a d e
    (picked_on 32 4 _ refl (lit< tt) _ a c d
    (picked_on 32 8 _ refl (lit< tt) (origin 16 _) a b c halves quarters) eighths) sixteenths) bits
    ∙ traced_is a
