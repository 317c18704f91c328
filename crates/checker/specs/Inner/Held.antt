-- What the checker's own words stand for while it walks.
-- Assumes nothing.
use Rattle.std.specs.Prelude.{ℕ, ◌-◌, ◌*◌, ◌≤◌, ◌≡◌, List, [], cond, not, leb, ltb, length, drop, replicate, Result, Ok, Err}
use Rattle.format.specs.Refusals.{byte_after_end, too_many, field_rule_broken, not_declared, number_of}
use Rattle.format.specs.declared.refusals.Refusal.{Refusal}
use Rattle.format.specs.declared.refusals.Refused.{Refused}
use Rattle.blocks.specs.Run.{most_instructions}
use Rattle.registers.specs.Sets.{is_in}
use Rattle.registers.specs.Rules.{operand_rules}
use Rattle.registers.specs.Found.{operands_found}
use Rattle.checker.specs.Findings.{Seen, Finding, taken, due, most_immediates}
use Rattle.checker.specs.Check.{Outcome, accepted, refused, program_seen}
use Rattle.nesting.specs.Inner.Held.{blocks_of, SoundBlocks, Trees}
use Rattle.checker.specs.declared.program.Program.{Program}
use Rattle.checker.specs.declared.walk.State.{State}

-- What the walk's answer comes to; at END no block is open.
abbrev pub outcome : Result Program (Refused ℕ) → List ℕ → Outcome
outcome (Ok p) words = accepted (program_seen p words [])
outcome (Err r) words = refused (number_of r.refusal) r.place

unfoldable pub seen : State → List ℕ → List ℕ → Seen
seen s words values = program_seen s.program words (blocks_of s.blocks values)

abbrev pub finding_of : Result State Refusal → List ℕ → List ℕ → Finding
finding_of (Ok s) words values = taken (seen s words values)
finding_of (Err refusal) words values = due (number_of refusal)

-- The lowest of 6, 7 and 9 that applies to an instruction, 0 for none.
unfoldable pub operand_refusal : Program → ℕ → List ℕ → ℕ → ℕ
operand_refusal p kind file at =
    cond (leb most_instructions p.instructions) too_many
    (cond (not (operand_rules kind file at)) field_rule_broken
    (cond (not (operands_found kind (is_in p.declared) (4 * p.immediates) file at)) not_declared
    0))

-- What a program comes to whose END is followed by the place `next`, in a file of this length: refusal 2, or it is accepted.
unfoldable pub ended : ℕ → ℕ → Seen → Outcome
ended next end s = cond (ltb next end) (refused byte_after_end next) (accepted s)

pub record Sound (s : State) : Type 0 where
  pub instructions : s.program.instructions ≤ most_instructions
  pub immediates : s.program.immediates ≤ most_immediates
  pub held : s.blocks.held ≤ s.program.instructions
  pub blocks : SoundBlocks s.blocks

-- The words of n immediates stand first among 1,024, and 0 after them.
pub record Padded (n : ℕ) (words : List ℕ) : Type 0 where
  pub all : length words ≡ 4 * most_immediates
  pub rest : drop (4 * n) words ≡ replicate (4 * most_immediates - 4 * n) 0

-- A state, and the words and links that it speaks of, stand as they should.
pub record Stands (s : State) (words values links : List ℕ) : Type 0 where
  pub sound : Sound s
  pub padded : Padded s.program.immediates words
  pub trees : Trees s.blocks values links
