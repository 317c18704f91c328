-- What is answered of a file is what the definition says.
-- Assumes nothing.
use mathlib.Core.Path.{◌≡◌, sym, ◌∙◌}
use mathlib.Core.List.{List, []}
use Prim.Native.Nat.{ℕ}
use Rattle.std.specs.Prelude.{Ok, Err}
use Rattle.format.specs.Refusals.{number_of}
use Rattle.format.specs.declared.refusals.Refused.{Refused}
use Rattle.checker.specs.declared.program.Program.{Program}
use Rattle.checker.specs.Check.{accepted, check_of, program_seen, examined_as, examined}
use Rattle.checker.proofs.Examining.{outcome_is}
use Rattle.checker.proofs.Followed.{followed}
use Rattle.needs.specs.declared.Needs.{Needs}
use Rattle.needs.specs.Needs.{needed, denied, needs_of}
use Rattle.needs.specs.Inner.Small.{Small}
use Rattle.needs.proofs.Reach.{accepted_few}

-- The check of the file over words of its own, `none` before it.
module _ (file words none : List ℕ) where
  pub file_denied : (e : Refused ℕ) → examined_as (Err e) words ≡ examined (check_of file) none → (r : Needs) → r ≡ denied (number_of e.refusal) e.place → r ≡ needs_of file
  unfolding needs_of
  file_denied e said r is = is ∙ rw (← outcome_is (Err e) words none (check_of file) said)

  module _ (p : Program) (said : examined_as (Ok p) words ≡ examined (check_of file) none) where
    is_accepted : check_of file ≡ accepted (program_seen p words [])
    is_accepted = sym (outcome_is (Ok p) words none (check_of file) said)

    pub file_small : Small p
    file_small =
        let few = accepted_few file (program_seen p words []) is_accepted in
        record {
          inputs = few.inputs;
          constants = few.constants;
          instructions = (followed file (program_seen p words []) is_accepted).1.most;
        }

    pub file_needs : (r : Needs) → r ≡ needed (program_seen p [] []) → r ≡ needs_of file
    unfolding needs_of needed
    file_needs r is = is ∙ rw is_accepted
