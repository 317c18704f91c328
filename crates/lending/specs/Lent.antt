-- What is lent to a run, before its first step: what its operands can read, and which words are cleared.
-- Assumes nothing.
use Rattle.std.specs.Prelude.{ℕ, Bool, ◌&&◌, ◌||◌, List, ◌++◌, eqb, length, take, drop, replicate}
use Rattle.format.specs.Files.{CONST, TEMP, lent_registers}
use Rattle.sources.specs.Operands.{Env, env_with}

-- ---- What is read

-- "Indirect only for CONST and TEMP" (01, Register files): of these two files alone an operand asks what is declared.
abbrev pub asked_indirectly : (ℕ → ℕ → Bool) → ℕ → ℕ → Bool
asked_indirectly declared f i = (eqb f CONST || eqb f TEMP) && declared f i

-- "1 CONST 0-1023, 2 IN 0-31" (01, Register files): the bank has no more words than these registers have. No accepted program can
-- tell it from what is lent (`execution`'s law `banked_alike`).
abbrev pub bank_env : (ℕ → ℕ → Bool) → List ℕ → List ℕ → List ℕ → Env
bank_env declared immediates inputs constants = env_with (asked_indirectly declared) immediates (take 128 inputs) (take 4096 constants)

-- ---- What is cleared

-- "A run checks, prepares, clears these and no word past them, then carries out." (01, Register files)
unfoldable pub cleared : List ℕ → List ℕ
cleared registers = replicate lent_registers 0 ++ drop lent_registers registers

-- Of lent words the registers' are set to 0, as many as there are. A run has them all, by refusal 22, and that is `cleared` (the law
-- `zeroed_is`).
unfoldable pub zeroed : List ℕ → List ℕ
zeroed registers = replicate (length (take lent_registers registers)) 0 ++ drop lent_registers registers
