-- An output that is long enough: of the listing's or the file's own length, or always, of four bytes for each byte of a program that is
-- printed and as many as the longest file has for one that is read. Stated of the definitions that the contracts of `ropebonnet_print` and `ropebonnet_read` cite.
-- Assumes nothing.
use Prim.Native.Nat.{ℕ, ◌*◌, ◌≤◌}
use mathlib.Core.Path.{◌≡◌, refl}
use mathlib.Core.List.{List}
use native.Mathlib.Omega.{arith}
use native.Mathlib.Nat.{min-eq_left}
use borrow.Author.Tests.{le-ltb}
use lib.ListN.{length}
use lib.Seq.{sets}
use Rattle.format.specs.Fields.{Bytes}
use Rattle.format.specs.Records.{longest}
use Rattle.checker.specs.Findings.{Seen}
use Rattle.checker.specs.Check.{Outcome, accepted, refused, check_of, told_of}
use Rattle.checker.proofs.Followed.{followed}
use Rattle.text.specs.Output.{delivered}
use Rattle.listing.specs.Listing.{listing_of}
use Rattle.listing.specs.Reading.{spelled, bytes_of}
use Rattle.listing.specs.Calls.{delivered_if, print_of, read_of}
use Rattle.listing.proofs.ListingLength.{listing_length}
use Rattle.answers.specs.Words.{FilledOutput, in_word, words, told_words, after_filling, written_in_words}

-- What a host holds after a call that wrote these bytes.
abbrev pub wrote_all : List ℕ → List ℕ → FilledOutput
wrote_all bytes output = after_filling (words 0 (length bytes) 0) (sets output 0 bytes)

-- "the program's own, then 31": of a program nothing but 31 is left, and not that where the output is as long as the text.
accepted_fits : (s : Seen) (text output : List ℕ) → length text ≤ 262144 → length text ≤ length output
    → written_in_words (delivered_if (accepted s) text output) ≡ wrote_all text output
unfolding delivered
accepted_fits s text output few h =
    let in_words : in_word (length text) ≡ length text = min-eq_left (omega arith) in
    rw (le-ltb (length output) (length text) h, in_words)

module _ (file : List ℕ) (program : (told_words (told_of (check_of file))).status ≡ 0) where
  fits : (text output : List ℕ) → (length file ≤ longest → (length text ≤ 262144) × (length text ≤ length output))
      → written_in_words (delivered_if (check_of file) text output) ≡ wrote_all text output
  fits text output room = by (check_of file) refl program
    where
      by : (o : Outcome) → check_of file ≡ o → (told_words (told_of o)).status ≡ 0
          → written_in_words (delivered_if o text output) ≡ wrote_all text output
      by (accepted s) e z = let r = room (followed file s e).0 in accepted_fits s text output r.0 r.1
      by (refused number place) e z = absurd (omega arith)

  -- An output as long as the listing, or as the file, is long enough, and the first word is the length itself.
  pub print_exact : (output : List ℕ) → Bytes file → length (listing_of file) ≤ length output
      → written_in_words (print_of file output) ≡ wrote_all (listing_of file) output
  unfolding print_of
  print_exact output all h =
      let few = listing_length file all in
      fits (listing_of file) output (λ l. (omega arith, h))

  pub print_room : (output : List ℕ) → Bytes file → 4 * length file ≤ length output
      → written_in_words (print_of file output) ≡ wrote_all (listing_of file) output
  print_room output all h = print_exact output all (omega (arith, h, listing_length file all))

  pub read_exact : (text output : List ℕ) → bytes_of text ≡ spelled file → length file ≤ length output
      → written_in_words (read_of text output) ≡ wrote_all file output
  unfolding read_of
  read_exact text output e h = rw e (fits file output (λ l. (omega arith, h)))

  pub read_room : (text output : List ℕ) → bytes_of text ≡ spelled file → longest ≤ length output
      → written_in_words (read_of text output) ≡ wrote_all file output
  unfolding read_of
  read_room text output e h = rw e (fits file output (λ l. (omega arith, omega arith)))
