-- The whole check: "Records are taken in file order", up to the first refusal or to END.
-- Assumes nothing.
use Rattle.std.specs.Prelude.{ℕ, zero, suc, ◌+◌, ◌-◌, ◌*◌, List, [], ◌++◌, cond, eqb, ltb, length, get_or, take, replicate, Result, Ok, Err}
use Rattle.format.specs.Records.{longest, size_at}
use Rattle.format.specs.Refusals.{too_long, byte_after_end, no_end, number_of}
use Rattle.format.specs.declared.refusals.Refused.{Refused}
use Rattle.blocks.specs.Control.{END, kind_of}
use Rattle.blocks.specs.Nesting.{Open}
use Rattle.registers.specs.Sets.{is_in}
use Rattle.checker.specs.Findings.{most_immediates, Seen, nothing, Finding, taken, due, record_finding}
use Rattle.checker.specs.declared.program.Program.{Program}

-- What the check comes to: the program is accepted, with what was seen of it, or refused with a number at a place.
pub data Outcome : Type 0 where
  accepted : Seen → Outcome
  refused : ℕ → ℕ → Outcome

-- After the record at a place: "the place is the record's first byte"; "2: a byte follows an END that no later row refuses
-- (place of that byte)"; after any other record that is taken the rest is checked.
abbrev pub onward : Finding → List ℕ → ℕ → (Seen → Outcome) → Outcome
onward (due number) file at rest = refused number at
onward (taken s) file at rest =
    cond (eqb (get_or file at 0) (kind_of END)) (cond (ltb (at + 1) (length file)) (refused byte_after_end (at + 1)) (accepted s)) (rest s)

-- The records from a place on, at most n of them. "13: file ends without END (place: file length)"
unfoldable pub walk : ℕ → List ℕ → ℕ → Seen → Outcome
walk zero file at s = refused no_end (length file)
walk (suc n) file at s =
    cond (ltb at (length file)) (onward (record_finding s file at) file at (λ t. walk n file (at + size_at file at) t))
    (refused no_end (length file))

-- "1: file over 65,536 bytes (place 0, before all else)". A file has at most as many records as bytes.
unfoldable pub check_of : List ℕ → Outcome
check_of file = cond (ltb longest (length file)) (refused too_long 0) (walk (length file) file 0 nothing)

-- ---- What the functions say

-- Document 01's answer to a check: how many instructions an accepted program has, or the number of the refusal and its place.
pub data Told : Type 0 where
  follows : ℕ → Told
  breaks : ℕ → ℕ → Told

abbrev pub told : Result ℕ (Refused ℕ) → Told
told (Ok instructions) = follows instructions
told (Err r) = breaks (number_of r.refusal) r.place

abbrev pub told_of : Outcome → Told
told_of (accepted s) = follows s.instructions
told_of (refused number place) = breaks number place

-- What the checker keeps of a program, the words of its immediates standing first among `words`, with these blocks open.
abbrev pub program_seen : Program → List ℕ → List Open → Seen
program_seen p words blocks =
    record {
      declared = is_in p.declared;
      immediates = take (4 * p.immediates) words;
      inputs = p.inputs;
      constants = p.constants;
      start = p.start;
      instructions = p.instructions;
      blocks = blocks;
    }

-- What the 1,024 lent words hold after the check: where the program is accepted the immediates' words in order, and 0 after
-- them, and what they held before otherwise.
abbrev pub words_after : Outcome → List ℕ → List ℕ
words_after (accepted s) words = s.immediates ++ replicate (4 * most_immediates - length s.immediates) 0
words_after (refused number place) words = words

-- What was seen of a program that is accepted; nothing of one that is refused.
abbrev pub seen_of : Outcome → Seen
seen_of (accepted s) = s
seen_of (refused number place) = nothing

-- What `examine` answers, with the words that it is lent: document 01's answer, what was seen of the program, how many of the words
-- are its immediates', and the words.
pub record Examined : Type 0 where
  pub answer : Told
  pub program : Seen
  pub given : ℕ
  pub words : List ℕ

-- At END no block is open.
abbrev pub examined_as : Result Program (Refused ℕ) → List ℕ → Examined
examined_as (Ok p) words =
    record {
      answer = follows p.instructions;
      program = program_seen p words [];
      given = 4 * p.immediates;
      words = words;
    }
examined_as (Err r) words =
    record { answer = breaks (number_of r.refusal) r.place; program = nothing; given = 0; words = words }

abbrev pub examined : Outcome → List ℕ → Examined
examined o words =
    record { answer = told_of o; program = seen_of o; given = length (seen_of o).immediates; words = words_after o words }
