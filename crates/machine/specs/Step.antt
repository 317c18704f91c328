-- One step: the machine that an instruction list is, for the run by the table (blocks' `step`).
-- Assumes nothing.
use Rattle.std.specs.Prelude.{ℕ, List, get_or, drop, Option}
use Rattle.format.specs.Fields.{destination_at, case_at}
use Rattle.blocks.specs.Control.{Machine}
use Rattle.blocks.specs.Run.{Step}
use Rattle.blocks.specs.Table.{place_in}
use Rattle.destinations.specs.Destinations.{State}
use Rattle.effects.specs.Effect.{family_of, effect_of, state, x_of}
use Rattle.sources.specs.Bank.{env_in}
use Rattle.sources.specs.Operands.{Env, kind_byte, sources_of}
use Rattle.machine.specs.declared.step.Code.{Code}

-- The effect of the instruction whose record has these bytes, and of the instruction at place p of the file.
unfoldable pub record_effect : Env → List ℕ → State → State
record_effect e bytes s =
    effect_of (family_of (kind_byte bytes)) (kind_byte bytes) (destination_at bytes 1) (sources_of e s.registers bytes) s

abbrev pub effect : Env → List ℕ → ℕ → State → State
effect e file p s = record_effect e (drop p file) s

-- What a UIF or SWITCH looks at, src0.x.
abbrev pub test_of : Env → List ℕ → List ℕ → ℕ
test_of e r bytes = x_of (sources_of e r bytes) 0

-- The instructions of a file, `place n` being the place of instruction n.
abbrev pub machine_of : Env → List ℕ → (ℕ → ℕ) → Machine State
machine_of e file place =
    record {
      kind = λ n. get_or file (place n) 0;
      effect = λ n s. effect e file (place n) s;
      test = λ n s. test_of e s.registers (drop (place n) file);
      value = λ n. e.immediates (case_at file (place n));
    }

-- The machine that a file, the rows of its table and a bank are.
abbrev pub machine_in : Code → Machine State
machine_in code = machine_of (env_in code.bank.now) code.file.now (place_in code.rows.now)

-- What a step leaves, as blocks' `step` has it.
abbrev pub stepped : Option ℕ → List ℕ → List ℕ → Step State
stepped next r m = record { next = next; state = state r m }
