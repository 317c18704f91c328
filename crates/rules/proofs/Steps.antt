-- What the code asks of an instruction is what the definitions ask.
-- Assumes nothing.
use mathlib.Core.Path.{◌≡◌}
use mathlib.Core.Bool.{Bool}
use Prim.Native.Nat.{ℕ}
use Rattle.blocks.specs.Control.{op_of}
use Rattle.stack.specs.declared.Blocks.{Blocks}
use Rattle.rules.specs.Kept.{nesting_kept}

-- An arm of kind k, which asks f.
pub kept_by : (k : ℕ) (f : Blocks → Bool) → ((b : Blocks) → f b ≡ nesting_kept (op_of k) b)
    → (kind : ℕ) (b : Blocks) (r : Bool) → kind ≡ k → r ≡ f b → r ≡ nesting_kept (op_of kind) b
kept_by k f is kind b r e q = rw (e, q) (is b)
