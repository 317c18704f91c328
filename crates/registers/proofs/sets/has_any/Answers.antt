-- A number from first to last has its bit set, or none has: past the words there is none.
use Rattle.std.proofs.Common.{rules, ◌≡◌, ◌+◌, ◌-◌, true, false, arith}
use Rattle.std.proofs.lemmas.Iterator.{cases_from_any, YieldsList-from_range}
use Rattle.words.specs.Word.{bit_in}
use mathlib.Core.Path.{◌∙◌}
use Rattle.registers.proofs.Bits.{any_by, any_within, past_words}
use Rattle.registers.proofs.sets.has_any.Goals as goal

pub returns : goal.returns
returns c =
    let bit = bit_in c.args.words.now in
    let n = c.min-end.result - c.args.first in
    any_by bit c.args.first n _
    (cases_from_any _ _ _ (λ i. bit i ≡ true) (λ i. bit i ≡ false) c.any.ensures.ran
    (YieldsList-from_range c.args.first c.min-end.result n (search rules) (omega arith)) (λ x q k. search rules) (λ x q k. search rules))
    ∙ any_within bit c.args.first n (c.args.last + 1 - c.args.first) (omega arith) (λ i l h. past_words c.args.words.now i (omega arith))
