-- Running an accepted program by its prepared table gives what reading it as nested blocks gives; a run's count and its parts.
-- Assumes nothing.
use mathlib.Core.Path.{◌≡◌, refl, ◌∙◌}
use Prim.Native.Nat.{ℕ, zero, suc, ◌+◌, ◌≤◌, ◌<◌}
use native.Mathlib.Omega.{arith}
use native.Mathlib.Nat.{zero-add, suc-add}
use mathlib.Core.Bool.{true}
use mathlib.Core.List.{[]}
use lib.ListN.{length}
use Rattle.std.specs.Prelude.{Option, Some, None}
use Rattle.blocks.specs.Control.{Op, Machine, op_at}
use Rattle.blocks.specs.Lists.{nested_lists}
use Rattle.blocks.specs.Nesting.{accepts}
use Rattle.blocks.specs.Reading.{Reading, out, brk, cont, ended, halted, read, rounds, reading}
use Rattle.blocks.specs.Run.{most_instructions, follow, step, run}
use Rattle.blocks.specs.Table.{Row, nowhere, table, row_at}
use Rattle.blocks.proofs.Agree.{numbers, up_from, numbered, length_rows, table_holds}
use Rattle.blocks.proofs.Nested.{program}
use Rattle.blocks.proofs.Parse.{program_nested}
use Rattle.blocks.proofs.Sim.{Alike, RowAt, whole}

-- ---- An accepted program

module _ (op : ℕ → Op) (value : ℕ → ℕ) (N : ℕ) (ok : accepts op value N 0 [] ≡ true) where
  -- The nested lists hold the program's instructions, each once and in the order of the file.
  pub layout : numbers (nested_lists op N) ≡ up_from 0 N
  layout = numbered op program (nested_lists op N) 0 (program_nested op value N ok).0 ∙ rw (program_nested op value N ok).1

  -- The table has a row for each instruction.
  pub rows_count : length (table op (nested_lists op N)) ≡ N
  unfolding table
  rows_count = length_rows op nowhere (nested_lists op N) ∙ (program_nested op value N ok).1

-- ---- The run is the reading

-- The machine M runs by T, the machine M' is read. Both need to be the program's only for its N instructions.
module _ {S : Type 0}
    (M M' : Machine S) (T : ℕ → Row) (N : ℕ)
    (few : N ≤ most_instructions)
    (ok : accepts (op_at M') M'.value N 0 [] ≡ true)
    (right : (n : ℕ) → n < N → T n ≡ row_at (table (op_at M') (nested_lists (op_at M') N)) n)
    (same : (n : ℕ) → n < N → Alike M M' n)
  where
    -- With any bound on a loop's rounds that is at least the budget: the bound in `reading` is of no matter.
    pub run_is_reading_by : (f budget : ℕ) (s : S)
        → budget ≤ f
        → run M T budget 0 0 s ≡ read M' budget (nested_lists (op_at M') N) (rounds M' budget f) 0 s
    run_is_reading_by f budget s hf =
        let u = program_nested (op_at M') M'.value N ok in
        whole M M' T budget f (nested_lists (op_at M') N) nowhere s hf u.0
        (table_holds (op_at M') (RowAt M M' T) program (nested_lists (op_at M') N) u.0
        λ n h. (right n (omega (arith, u.1)), same n (omega (arith, u.1))))
        (omega (arith, u.1))

    -- Same ending, same next instruction if halted, same count, same state.
    pub run_is_reading : (budget : ℕ) (s : S) → run M T budget 0 0 s ≡ reading M' budget (nested_lists (op_at M') N) s
    unfolding reading
    run_is_reading budget s = run_is_reading_by budget budget s (omega arith)

-- The same for one machine and the table itself.
pub run_by_table : {S : Type 0} (M : Machine S) (N : ℕ)
    → N ≤ most_instructions
    → accepts (op_at M) M.value N 0 [] ≡ true
    → (budget : ℕ) (s : S)
    → run M (row_at (table (op_at M) (nested_lists (op_at M) N))) budget 0 0 s ≡ reading M budget (nested_lists (op_at M) N) s
run_by_table M N few ok =
    run_is_reading M M (row_at (table (op_at M) (nested_lists (op_at M) N))) N few ok (λ n h. refl)
    λ n h. record { kind = refl; effect = refl; test = refl; value = refl }

-- ---- The count

-- A run ends or halts, with a count that is at most b.
abbrev pub Final : {S : Type 0} → ℕ → Reading S → Type 0
Final b (out c s) = ⊥
Final b (brk c s) = ⊥
Final b (cont c s) = ⊥
Final b (ended c s) = c ≤ b
Final b (halted n c s) = c ≤ b

follow_final : {S : Type 0} (b : ℕ) (onward : ℕ → S → Reading S) (c : ℕ) (x : Option ℕ) (s : S)
    → ((n : ℕ) (s : S) → Final b (onward n s))
    → c ≤ b
    → Final b (follow onward c x s)
follow_final b onward c (Some n) s f h = f n s
follow_final b onward c None s f h = h

module _ {S : Type 0} (M : Machine S) (T : ℕ → Row) where
  pub run_final : (b left c n : ℕ) (s : S) → c + left ≤ b → Final b (run M T left c n s)
  unfolding run
  run_final b zero c n s h = omega arith
  run_final b (suc left) c n s h =
      follow_final b (run M T left (suc c)) (suc c) (step M T n s).next (step M T n s).state
      (λ n s. run_final b left (suc c) n s (omega arith)) (omega arith)

  -- ---- Going on

  -- A halted run goes on with b more steps; an ended one stays.
  abbrev pub go_on : ℕ → Reading S → Reading S
  go_on b (halted n c s) = run M T b c n s
  go_on b (out c s) = out c s
  go_on b (brk c s) = brk c s
  go_on b (cont c s) = cont c s
  go_on b (ended c s) = ended c s

  follow_on : (a b c : ℕ) (x : Option ℕ) (s : S)
      → ((n : ℕ) (s : S) → run M T (a + b) c n s ≡ go_on b (run M T a c n s))
      → follow (run M T (a + b) c) c x s ≡ go_on b (follow (run M T a c) c x s)
  follow_on a b c (Some n) s f = f n s
  follow_on a b c None s f = refl

  -- A budget in two parts.
  pub run_on : (a b c n : ℕ) (s : S) → run M T (a + b) c n s ≡ go_on b (run M T a c n s)
  unfolding run
  run_on zero b c n s = rw (zero-add b)
  run_on (suc a) b c n s =
      rw (suc-add a b)
      (follow_on a b (suc c) (step M T n s).next (step M T n s).state (λ n s. run_on a b (suc c) n s))
