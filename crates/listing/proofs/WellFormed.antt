-- A line is well formed exactly if it is the line of a whole record.
-- Assumes nothing.
use mathlib.Core.Path.{◌≡◌, refl, ◌∙◌}
use mathlib.Core.Logic.{◌↔◌}
use mathlib.Core.Bool.{Bool, true, false, ◌&&◌, false≢true}
use mathlib.Core.List.{List, [], ◌∷◌}
use Prim.Native.Nat.{ℕ, ◌%◌, ◌<◌}
use native.Mathlib.Omega.{arith}
use lib.Dec.{ltb}
use lib.ListN.{get_or}
use borrow.Author.Tests.{ltb-true}
use Rattle.format.specs.Fields.{little_endian}
use Rattle.format.specs.Kinds.{form_of, length_of, widths}
use Rattle.format.proofs.Widths.{widths_sum}
use Rattle.text.specs.Parts.{same}
use Rattle.text.proofs.Sameness.{same_equal}
use Rattle.lines.specs.Lines.{record_line}
use Rattle.spelling.specs.Spelling.{numbers_in, field_bytes, kind_in, line_record, is_line_of, well_formed}
use Rattle.listing.proofs.FieldBytes.{field_bytes_is}
use Rattle.spelling.proofs.Records.{record_size}
use Rattle.listing.proofs.WholeRecords.{Record, line_record_is, line_is}

both : (a b : Bool) → (a && b) ≡ true → (a ≡ true) × (b ≡ true)
both true b e = (refl, e)
both false b e = absurd (false≢true e)

first_byte : (ws ns : List ℕ) → get_or (field_bytes (1 ∷ ws) ns) 0 0 ≡ get_or ns 0 0 % 256
unfolding field_bytes little_endian
first_byte ws [] = refl
first_byte ws (n ∷ ns) = refl

module _ (l : List ℕ) (good : well_formed l ≡ true) where
  tests : (ltb (length_of (get_or (line_record l) 0 0)) 255 ≡ true) × (same (record_line (line_record l) 0) l ≡ true)
  unfolding is_line_of
  tests = both (ltb (length_of (get_or (line_record l) 0 0)) 255) (same (record_line (line_record l) 0) l) good

  -- It is the line of the record that its numbers give ..
  pub record_line_is : record_line (line_record l) 0 ≡ l
  record_line_is = same_equal (record_line (line_record l) 0) l tests.1

  known : length_of (get_or (line_record l) 0 0) < 255
  known = ltb-true (length_of (get_or (line_record l) 0 0)) 255 tests.0

  kind_byte_is : get_or (line_record l) 0 0 ≡ kind_in l
  unfolding line_record kind_in
  kind_byte_is = first_byte (widths (form_of (kind_in l))) (numbers_in l)

  -- .. and that is a whole record.
  pub record_is : Record (line_record l)
  unfolding line_record
  record_is =
      let sum_is_lem = widths_sum (kind_in l) (rw kind_byte_is at known) in
      record {
        bytes = field_bytes_is (1 ∷ widths (form_of (kind_in l))) (numbers_in l);
        known = known;
        whole = rw kind_byte_is (record_size l ∙ omega arith);
      }

-- A line is well formed exactly if it is the line of a whole record.
well_formed_is : (l : List ℕ) → well_formed l ≡ true → (r : List ℕ) × Record r × (record_line r 0 ≡ l)
well_formed_is l good = (line_record l, record_is l good, record_line_is l good)

line_well_formed : (r : List ℕ) → Record r → well_formed (record_line r 0) ≡ true
line_well_formed r is = rw (line_record_is r is) (line_is r is)

pub well_formed_exactly : (l : List ℕ) → (well_formed l ≡ true) ↔ ((r : List ℕ) × Record r × (record_line r 0 ≡ l))
well_formed_exactly l = (well_formed_is l, λ given. rw (← given.2) (line_well_formed given.0 given.1))
