-- What preparing answers and leaves is what its definition says, return by return.
-- Assumes nothing.
use mathlib.Core.Path.{◌≡◌, sym}
use mathlib.Core.List.{List, []}
use Prim.Native.Nat.{ℕ, ◌*◌, ◌<◌, ◌≤◌}
use native.Mathlib.Omega.{arith}
use borrow.Author.Tests.{lt-ltb, le-ltb, le-leb}
use lib.ListN.{length}
use Rattle.std.specs.Prelude.{Ok, Err}
use Rattle.format.specs.declared.refusals.Refused.{Refused}
use Rattle.format.specs.Records.{longest}
use Rattle.format.specs.Refusals.{working_short}
use Rattle.blocks.specs.Run.{most_instructions}
use Rattle.blocks.specs.Table.{row_words}
use Rattle.table.specs.Prepared.{filled}
use Rattle.checker.specs.declared.program.Program.{Program}
use Rattle.checker.specs.Check.{accepted, follows, breaks, told, check_of, program_seen, examined_as, examined}
use Rattle.checker.specs.Findings.{Seen}
use Rattle.checker.proofs.Examining.{outcome_is}
use Rattle.checker.proofs.Followed.{followed}
use Rattle.preparation.specs.Preparing.{prepare_after, prepared_in, prepare_of}

-- The table of a file that the check took is made.
pub table_made : (s : Seen) (file work : List ℕ) → check_of file ≡ accepted s → row_words * s.instructions ≤ length work → filled file s.start s.instructions work ≡ prepared_in s file work
unfolding filled
table_made s file work ok room =
    let f = followed file s ok in
    rw (
      le-leb (length file) longest f.0,
      le-leb s.start (length file) (omega (arith, f.1.starts)),
      le-leb s.instructions most_instructions f.1.most,
      le-leb (row_words * s.instructions) (length work) room,
    )

-- ---- Preparing alone

-- The check of the file over words of its own, `none` before it.
module _ (file words none work : List ℕ) where
  pub prepare_refused : (e : Refused ℕ) → examined_as (Err e) words ≡ examined (check_of file) none → prepare_after (told (Err e)) work ≡ prepare_of file work
  unfolding prepare_of
  prepare_refused e said = rw (← outcome_is (Err e) words none (check_of file) said)

  module _ (p : Program) (said : examined_as (Ok p) words ≡ examined (check_of file) none) where
    is_accepted : check_of file ≡ accepted (program_seen p words [])
    is_accepted = sym (outcome_is (Ok p) words none (check_of file) said)

    pub prepare_short : length work < row_words * p.instructions → prepare_after (breaks working_short 0) work ≡ prepare_of file work
    unfolding prepare_of
    prepare_short h = rw (is_accepted, lt-ltb (length work) (row_words * p.instructions) h)

    pub prepare_ready : (w : List ℕ)
        → row_words * p.instructions ≤ length work
        → w ≡ filled file p.start p.instructions work
        → prepare_after (follows p.instructions) w ≡ prepare_of file work
    unfolding prepare_of
    prepare_ready w room w-is =
        let made = table_made (program_seen p words []) file work is_accepted room in
        rw (is_accepted, le-ltb (length work) (row_words * p.instructions) room, w-is, made)
