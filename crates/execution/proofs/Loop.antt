-- The loop over steps is the run by the rows: what is left to do from where it stands comes to what the whole comes to.
-- Assumes nothing.
use mathlib.Core.Path.{◌≡◌, ap, ◌∙◌}
use mathlib.Core.List.{List}
use Prim.Native.Nat.{ℕ, suc, ◌+◌, ◌-◌, ◌<◌, ◌≤◌}
use native.Mathlib.Omega.{arith}
use native.Mathlib.Nat.{sub-zero}
use borrow.Author.Tests.{lt-ltb, le-ltb}
use Rattle.std.specs.Prelude.{Option, Some, None}
use Rattle.blocks.specs.Reading.{Reading}
use Rattle.blocks.specs.Run.{most_instructions, Step, follow, step}
use Rattle.blocks.specs.Table.{row_in}
use Rattle.destinations.specs.Destinations.{State}
use Rattle.effects.specs.Effect.{state}
use Rattle.sources.specs.Operands.{Env}
use Rattle.machine.specs.Step.{stepped}
use Rattle.execution.specs.declared.Stop.{Stop}
use Rattle.execution.specs.Steps.{report, reached, machine_by, by_rows}

module _ (file rows : List ℕ) (e : Env) where
  pub none_yet : (b : ℕ) (s : State) → by_rows file rows e (b - 0) 0 0 s ≡ by_rows file rows e b 0 0 s
  none_yet b s = ap (λ (k : ℕ). by_rows file rows e k 0 0 s) (sub-zero b)

  -- After c steps of a budget b the loop stands at instruction n, and what is left comes to `whole`.
  module _ (whole : Reading State) (b c n : ℕ) (r q : List ℕ) (left : by_rows file rows e (b - c) c n (state r q) ≡ whole) where
    pub is_spent : b ≤ c → reached (Stop.Halted (report c) n) (state r q) ≡ whole
    unfolding by_rows
    is_spent h =
        let none : b - c ≡ 0 = omega arith in
        rw none at left

    -- The loop takes no step past its budget.
    pub budget_spent : c ≤ b → b ≤ c → reached (Stop.Halted (report b) n) (state r q) ≡ whole
    budget_spent h k =
        let all : c ≡ b = omega arith in
        rw (← all) (is_spent k)

    module _ (more : c < b) where
      one_less : b - c ≡ suc (b - suc c)
      one_less = omega arith

      pub leads_out : most_instructions ≤ n → reached (Stop.Halted (report c) n) (state r q) ≡ whole
      unfolding by_rows
      leads_out h = rw (one_less, le-ltb n most_instructions h) at left

      -- A step leaves r' and q', and x comes next.
      module _ (r' q' : List ℕ) (x : Option ℕ) (inside : n < most_instructions) (stepping : stepped x r' q' ≡ step (machine_by file rows e) (row_in rows) n (state r q)) where
        stepped_on : follow (by_rows file rows e (b - suc c) (suc c)) (suc c) x (state r' q') ≡ whole
        unfolding by_rows
        stepped_on =
            ap (λ (t : Step State). follow (by_rows file rows e (b - suc c) (suc c)) (suc c) t.next t.state) stepping
            ∙ (rw (one_less, lt-ltb n most_instructions inside) at left)

        pub goes_on : (m : ℕ) → x ≡ Some m → by_rows file rows e (b - (c + 1)) (c + 1) m (state r' q') ≡ whole
        goes_on m ex =
            let one : c + 1 ≡ suc c = omega arith in
            rw one (rw ex at stepped_on)

        pub comes_to_end : x ≡ None → reached (Stop.Ended (report (c + 1))) (state r' q') ≡ whole
        comes_to_end ex =
            let one : c + 1 ≡ suc c = omega arith in
            rw one (rw ex at stepped_on)
