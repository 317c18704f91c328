-- The words of CONST's set and behind them those of TEMP's.
use Rattle.std.proofs.Common.{refl, rules}
use Rattle.lending.proofs.Indirect.{words_asked}
use Rattle.lending.proofs.declared_words.Goals as goal

pub returns : goal.returns
returns c =
    words_asked c.args.declared (search rules) (search rules) _ _ _ c.copy_from_slice.ensures.after c.copy_from_slice-2.ensures.after refl
