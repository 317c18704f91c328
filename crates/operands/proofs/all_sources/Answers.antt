-- The sources by their numbers: all are as asked, or one is not.
use Rattle.std.proofs.Common.{rules, ◌≡◌, ◌+◌, ◌*◌, ℕ, true, false, arith}
use Rattle.std.proofs.lemmas.Iterator.{cases_from_all, YieldsList-from_range}
use Rattle.format.specs.Kinds.{sources, form_of, first_source}
use Rattle.format.specs.Fields.{source_at}
use Rattle.operands.proofs.Sources.{all_by}
use Rattle.operands.proofs.all_sources.Goals as goal

pub returns : goal.returns
returns g c rule says =
    let file = c.args.file.now in
    let first = c.args.at + first_source c.args.kind in
    let n = sources (form_of c.args.kind) in
    let kept = λ (i : ℕ). rule (source_at file (first + 5 * i)) in
    all_by rule file first n _
    (cases_from_all _ _ _ (λ i. kept i ≡ true) (λ i. kept i ≡ false) c.all.ensures.ran
    (YieldsList-from_range 0 n n (search rules) (omega arith)) (λ x q k. search rules) (λ x q k. search rules))
