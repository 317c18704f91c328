-- A word is not 0, or all are.
use Rattle.std.proofs.Common.{rules, ◌≡◌}
use Rattle.std.proofs.lemmas.Iterator.{cases_from_any, YieldsList-from_slice}
use Rattle.std.proofs.Math.Facts.{Fits-lt-pow}
use borrow.Author.Tests.{tests}
use Rattle.registers.proofs.Bits.{any_word}
use Rattle.registers.proofs.sets.has_some.Goals as goal

pub returns : goal.returns
returns c =
    any_word c.args.words.now (λ i. Fits-lt-pow (c.type_inv.words i)) _
    (cases_from_any _ _ _ (λ w. w ≡ 0 → ⊥) (λ w. w ≡ 0) c.any.ensures.ran
    (YieldsList-from_slice c.args.words.now (search rules)) (λ x q k. search (rules, tests)) (λ x q k. search (rules, tests)))
