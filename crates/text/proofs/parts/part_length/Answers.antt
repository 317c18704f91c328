-- The place of the first separator.
-- Assumes nothing.
use Rattle.std.proofs.Common.{◌≡◌, sym, ◌∙◌, rules, tests}
use Rattle.std.proofs.lemmas.Iterator.{IsFirst-from_position, YieldsList-from_slice}
use Rattle.text.proofs.Splitting.{part_found}
use Rattle.text.proofs.parts.part_length.Goals as goal

pub returns : goal.returns
returns c =
    let s = c.args.separator in
    let h = IsFirst-from_position _ _ _ (λ b. b ≡ s) (λ b. b ≡ s → ⊥) c.position.ensures.ran (YieldsList-from_slice c.args.bytes.now cc)
    (λ x q k. search (rules, tests)) (λ x q k. search (rules, tests)) in
    c.unwrap_or.ensures ∙ sym (part_found s c.args.bytes.now c.position.result h)
