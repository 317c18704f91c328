-- What the walk along labels asks of one.
-- Assumes nothing.
use Rattle.std.specs.Prelude.{ℕ, Bool, List}
use Rattle.blocks.specs.Control.{case_of}
use Rattle.sequencer.specs.Labels.{ops_of, cases_of}

-- Whether the record at place p is the CASE of x, as blocks' `case_of` asks of the instruction there.
unfoldable pub is_case_at : List ℕ → List ℕ → ℕ → ℕ → Bool
is_case_at immediates file p x = case_of (ops_of file (λ n. p)) (cases_of immediates file (λ n. p)) x 0
