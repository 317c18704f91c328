-- Document 02's example, and listings that show how a text is read, computed: the definitions say what they should.
-- Assumes nothing.
use mathlib.Core.Path.{◌≡◌, refl}
use mathlib.Core.List.{List, [], ◌∷◌, ◌++◌}
use Prim.Native.Nat.{ℕ}
use Prim.Native.String.{String}
use lib.ListN.{length, replicate}
use Rattle.format.specs.Fields.{word16, word32, number_at, little_endian, destination_at, source_at, declaration_at, case_word}
use Rattle.format.specs.Kinds.{length_of}
use Rattle.format.specs.Records.{size_at}
use Rattle.format.proofs.Example.{file12}
use Rattle.blocks.specs.Control.{op_of}
use Rattle.registers.specs.Found.{source_found, operands_found}
use Rattle.registers.specs.Rules.{destination_rule, source_rule, all_operands, declaration_rule}
use Rattle.checker.specs.Check.{walk, check_of}
use Rattle.checker.specs.Findings.{with_declaration, declaration_finding, with_immediate, immediate_finding, with_instruction, instruction_finding, record_finding}
use Rattle.text.specs.Decimal.{digits_within, decimal, value_from}
use Rattle.text.specs.Output.{wrote, refusal, written, delivered}
use Rattle.text.specs.Parts.{spaced, split}
use Rattle.listing.specs.Calls.{print_of, read_of}
use Rattle.lines.specs.Lines.{numbers_at, record_line}
use Rattle.listing.specs.Listing.{lines_from, listing_of}
use Rattle.listing.specs.Reading.{Reading, spelled, malformed, read_lines, bytes_of}
use Rattle.spelling.specs.Spelling.{field_bytes, kind_in, line_record, is_line_of}
use Rattle.listing.proofs.Quoted.{quoted}

-- "The 34 bytes of document 01 give `1 3 0 0`, `2 25 0 0 0`, `16 3 0 1 6 0 228 0`, `137`." (02, W1)
abbrev listing12 : List ℕ
listing12 = quoted "1 3 0 0\n2 25 0 0 0\n16 3 0 1 6 0 228 0\n137\n"

printed12 : (length file12 ≡ 34) × (length listing12 ≡ 42) × (listing_of file12 ≡ listing12)
unfolding listing_of lines_from record_line numbers_at size_at length_of number_at word16 word32 spaced decimal digits_within
printed12 = (refl, refl, refl)

read12 : bytes_of listing12 ≡ spelled file12
unfolding bytes_of read_lines line_record kind_in is_line_of field_bytes split little_endian value_from record_line numbers_at length_of number_at word16 word32 spaced decimal digits_within
read12 = refl

-- It is accepted: both calls deliver, where the output is long enough, and the bytes past what they write stay.
calls12 :
    (print_of file12 (replicate 44 7) ≡ written (wrote 42) (listing12 ++ (7 ∷ 7 ∷ [])))
    × (print_of file12 (replicate 42 7) ≡ written (wrote 42) listing12)
    × (print_of file12 (replicate 41 7) ≡ written (refusal 31 0) (replicate 41 7))
    × (read_of listing12 (replicate 36 7) ≡ written (wrote 34) (file12 ++ (7 ∷ 7 ∷ [])))
    × (read_of listing12 (replicate 34 7) ≡ written (wrote 34) file12)
    × (read_of listing12 (replicate 33 7) ≡ written (refusal 31 0) (replicate 33 7))
unfolding delivered print_of listing_of lines_from read_of bytes_of read_lines line_record kind_in is_line_of field_bytes split little_endian value_from record_line numbers_at number_at spaced decimal digits_within length_of word16 word32 destination_at source_at declaration_at case_word size_at op_of walk check_of with_declaration declaration_finding with_immediate immediate_finding source_found operands_found with_instruction instruction_finding record_finding destination_rule source_rule all_operands declaration_rule
calls12 = (refl, refl, refl, refl, refl, refl)

abbrev read : String → Reading
read text = bytes_of (quoted text)

readings :
    -- no line: the empty program
    (read "" ≡ spelled [])
    × (read "137\n" ≡ spelled (0x89 ∷ []))
    -- the largest numbers of fields of one, two and four bytes, and one more than each
    × (read "1 255 65535 65535\n" ≡ spelled (1 ∷ 255 ∷ 255 ∷ 255 ∷ 255 ∷ 255 ∷ []))
    × (read "16 3 256 1 6 1 228 0\n" ≡ spelled (16 ∷ 3 ∷ 0 ∷ 1 ∷ 1 ∷ 6 ∷ 1 ∷ 0 ∷ 228 ∷ 0 ∷ []))
    × (read "1 256 0 0\n" ≡ malformed 0)
    × (read "1 3 65536 0\n" ≡ malformed 0)
    × (read "2 4294967295 0 0 0\n" ≡ spelled (2 ∷ 255 ∷ 255 ∷ 255 ∷ 255 ∷ replicate 12 0))
    × (read "2 4294967296 0 0 0\n" ≡ malformed 0)
    × (read "257 3 0 0\n" ≡ malformed 0)
    -- leading zeros, a second space, spaces at a line's ends
    × (read "0137\n" ≡ malformed 0)
    × (read "1 3 00 0\n" ≡ malformed 0)
    × (read "1 3  0 0\n" ≡ malformed 0)
    × (read " 137\n" ≡ malformed 0)
    × (read "137 \n" ≡ malformed 0)
    -- other characters
    × (read "1 3 0 a\n" ≡ malformed 0)
    × (read "137\r\n" ≡ malformed 0)
    -- an unknown kind, a number missing, a number too many, an empty line
    × (read "3\n" ≡ malformed 0)
    × (read "1 3 0\n" ≡ malformed 0)
    × (read "1 3 0 0 0\n" ≡ malformed 0)
    × (read "137\n\n" ≡ malformed 4)
    -- a last line without its line feed; the place is a line's first byte, and the first malformed line's
    × (read "137" ≡ malformed 0)
    × (read "1 3 0 0\n137" ≡ malformed 8)
    × (read "1 3 0 0\n2 25 0 0\n137" ≡ malformed 8)
unfolding bytes_of read_lines line_record kind_in is_line_of field_bytes split little_endian value_from record_line numbers_at length_of number_at word16 word32 spaced decimal digits_within
readings = (refl, refl, refl, refl, refl, refl, refl, refl, refl, refl, refl, refl, refl, refl, refl, refl, refl, refl, refl, refl, refl, refl, refl)

-- Whatever the output: "30 malformed line .., then the read program's own", at its place in the file; the empty listing is the empty program,
-- "13 at 0".
refusals : (output : List ℕ)
    → (read_of [] output ≡ written (refusal 13 0) output)
    × (read_of (quoted "1 3 0 0\n") output ≡ written (refusal 13 6) output)
    × (read_of (quoted "1 3 0 0\n1 3 0 0\n137\n") output ≡ written (refusal 8 6) output)
    × (read_of (quoted "1 3 0 0\n1 3 0 0\n137") output ≡ written (refusal 30 16) output)
    × (print_of (1 ∷ 3 ∷ 0 ∷ 0 ∷ 0 ∷ 0 ∷ []) output ≡ written (refusal 13 6) output)
unfolding print_of read_of bytes_of read_lines line_record kind_in is_line_of field_bytes split little_endian value_from record_line numbers_at number_at spaced decimal digits_within length_of word16 word32 destination_at source_at declaration_at case_word size_at op_of walk check_of with_declaration declaration_finding with_immediate immediate_finding source_found operands_found with_instruction instruction_finding record_finding destination_rule source_rule all_operands declaration_rule
refusals output = (refl, refl, refl, refl, refl)
