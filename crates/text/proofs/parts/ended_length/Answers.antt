-- The place after the last separator.
-- Assumes nothing.
use Rattle.std.proofs.Common.{ℕ, ◌≡◌, ◌<◌, length, get_or, rules, tests}
use Rattle.text.proofs.Ends.{ended_last, ended_never}
use Rattle.text.proofs.parts.ended_length.Goals as goal

pub returns-in-Some : goal.returns-in-Some
returns-in-Some c =
    let bytes = c.args.bytes.now in
    let after : (k : ℕ) → c.in-Some.last < k → k < length bytes → get_or bytes k 0 ≡ c.args.separator → ⊥ = λ k a b. search (rules, tests) in
    ended_last c.args.separator c.args.bytes.now c.in-Some.last (search rules) (search (rules, tests)) after

pub returns-in-None : goal.returns-in-None
returns-in-None c = ended_never c.args.separator c.args.bytes.now (λ k a. search (rules, tests))
