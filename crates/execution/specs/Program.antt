-- A program that the check took: its nested lists, what its instructions do, and what carrying it out comes to (demand 3).
-- Assumes nothing.
use Rattle.std.specs.Prelude.{ℕ, List}
use Rattle.format.specs.Records.{place_from}
use Rattle.blocks.specs.Control.{Machine}
use Rattle.blocks.specs.Lists.{Items, nested_lists}
use Rattle.blocks.specs.Reading.{Reading, reading}
use Rattle.table.specs.Prepared.{op_from}
use Rattle.checker.specs.Findings.{Seen}
use Rattle.destinations.specs.Destinations.{State}
use Rattle.sources.specs.Operands.{Env, env_with}
use Rattle.machine.specs.Step.{machine_of}

-- Instruction n of an accepted program stands where the walk from the first instruction comes to after n records.
abbrev pub place_of : Seen → List ℕ → ℕ → ℕ
place_of s file = place_from file s.start

abbrev pub lists_of : Seen → List ℕ → Items
lists_of s file = nested_lists (op_from file s.start) s.instructions

-- What its operands read: the lent inputs and constants, its immediates, and which registers it declares.
abbrev pub env_of : Seen → List ℕ → List ℕ → Env
env_of s inputs constants = env_with s.declared s.immediates inputs constants

abbrev pub program_of : Seen → List ℕ → List ℕ → List ℕ → Machine State
program_of s file inputs constants = machine_of (env_of s inputs constants) file (place_of s file)

-- The block reading from a state. "It is given the file, inputs, constants, memory and budget, and nothing of the table."
unfoldable pub carried_out : Seen → List ℕ → List ℕ → List ℕ → ℕ → State → Reading State
carried_out s file inputs constants budget from = reading (program_of s file inputs constants) budget (lists_of s file) from
