-- What the check answers is what it found.
-- Assumes nothing.
use mathlib.Core.Path.{◌≡◌, refl, sym, ap, ◌∙◌}
use mathlib.Core.List.{List}
use Prim.Native.Nat.{ℕ}
use Rattle.std.specs.Prelude.{Result, Ok}
use Rattle.format.specs.declared.refusals.Refused.{Refused}
use Rattle.checker.specs.Findings.{Seen}
use Rattle.checker.specs.Check.{Outcome, accepted, refused, check_of, follows, told, told_of}

accepted_by : (o : Outcome) (n : ℕ) → follows n ≡ told_of o → (s : Seen) × (o ≡ accepted s)
accepted_by (accepted s) n e = (s, refl)
accepted_by (refused m p) n e = cc

pub check_accepted : (file : List ℕ) (answer : Result ℕ (Refused ℕ)) → told answer ≡ told_of (check_of file) → (n : ℕ) → answer ≡ Ok n
    → (s : Seen) × (check_of file ≡ accepted s)
check_accepted file answer e n q = accepted_by (check_of file) n (sym (ap told q) ∙ e)
