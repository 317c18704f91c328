-- The whole calls: a listing that has room, and a file that is too long.
-- Assumes nothing.
use mathlib.Core.Path.{◌≡◌, refl}
use mathlib.Core.Bool.{Bool, true, false}
use mathlib.Core.List.{List}
use Prim.Native.Nat.{ℕ, ◌≤◌, ◌<◌}
use native.Mathlib.Omega.{arith}
use borrow.Author.Tests.{ltb-true, ltb-false}
use lib.Dec.{ltb}
use lib.ListN.{length}
use lib.Seq.{sets}
use Rattle.format.specs.Records.{longest}
use Rattle.checker.specs.Check.{check_of, told, told_of}
use Rattle.checker.proofs.Walking.{check_long}
use Rattle.checker.proofs.Told.{check_accepted}
use Rattle.checker.proofs.Followed.{followed}
use Rattle.text.specs.Output.{wrote, refusal, written, delivered}
use Rattle.text.proofs.Stores.{deliver_all}
use Rattle.listing.specs.Calls.{delivered_if}
use Rattle.listing.specs.Inner.Spelt.{Holds}
use Rattle.std.proofs.Common.{Ok}

-- ---- Printing

-- An accepted file is not too long.
pub file_fits : (file : List ℕ) (n : ℕ) → told (Ok n) ≡ told_of (check_of file) → length file ≤ longest
file_fits file n e = (followed file (check_accepted file (Ok n) e n refl).0 (check_accepted file (Ok n) e n refl).1).0

-- The listing, where there is room for as many bytes as were counted.
pub lines_done : (listing output after : List ℕ) (k m : ℕ)
    → k ≡ length listing
    → k ≤ length output
    → m ≡ length listing
    → after ≡ sets output 0 listing
    → written (wrote m) after ≡ delivered listing output
lines_done listing output after k m ek room em ea = rw em (deliver_all listing output after ea (omega (arith, ek, room)))

-- ---- Reading

module _ (array output : List ℕ) (n : ℕ) where
  pub program_long : longest < n → (program : List ℕ) → Holds program n array → written (refusal 1 0) output ≡ delivered_if (check_of program) program output
  program_long h program s = rw (← check_long program (far program s))
    where
      far : (program : List ℕ) → Holds program n array → longest < length program
      far program s = on (ltb longest (length program)) refl
        where
          on : (t : Bool) → ltb longest (length program) ≡ t → longest < length program
          on true p = ltb-true longest (length program) p
          on false p = absurd (omega (arith, h, s.counted (ltb-false longest (length program) p), ltb-false longest (length program) p))
