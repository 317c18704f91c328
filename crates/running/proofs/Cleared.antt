-- From cleared registers, over a bank that holds what is read.
-- Assumes nothing.
use Rattle.std.proofs.Common.{◌≡◌, ℕ, Bool, List}
use Rattle.effects.specs.Effect.{state}
use Rattle.sources.specs.Bank.{env_in}
use Rattle.lending.specs.Lent.{bank_env, zeroed}
use Rattle.execution.specs.declared.Stop.{Stop}
use Rattle.execution.specs.Steps.{reached, by_rows}

pub came_cleared : (declared : ℕ → ℕ → Bool) (immediates file inputs constants registers cl memory bank w : List ℕ) (budget : ℕ) (stop : Stop) (r' m' : List ℕ)
    → env_in bank ≡ bank_env declared immediates inputs constants
    → cl ≡ zeroed registers
    → reached stop (state r' m') ≡ by_rows file w (env_in bank) budget 0 0 (state cl memory)
    → reached stop (state r' m') ≡ by_rows file w (bank_env declared immediates inputs constants) budget 0 0 (state (zeroed registers) memory)
came_cleared declared immediates file inputs constants registers cl memory bank w budget stop r' m' gathered clear came = rw (clear, gathered) at came
