-- Small programs, computed: the definitions say what they should.
-- Assumes nothing.
use mathlib.Core.Path.{◌≡◌, refl}
use Prim.Native.Nat.{ℕ, ◌-◌}
use mathlib.Core.Bool.{true, false, cond}
use mathlib.Core.List.{List, [], ◌∷◌}
use lib.ListN.{get_or, replicate}
use Rattle.blocks.specs.Control.{PLAIN, DEFAULT, UIF, CASE, is, Machine, op_of, op_at}
use Rattle.blocks.specs.Lists.{nil, one, loop, switch, list_from, nested_lists}
use Rattle.blocks.specs.Nesting.{open_loop, open_switch, refused, rule, accepts}
use Rattle.blocks.specs.Reading.{ended, halted, read, rounds, reading}
use Rattle.blocks.specs.Run.{walk, run}
use Rattle.blocks.specs.Table.{row, row_at, first_label, rows, table}

-- A machine over one number: PLAIN takes one off, UIF and SWITCH look at the number, the words of the CASEs are listed.
abbrev countdown : List ℕ → List ℕ → Machine ℕ
countdown kinds words =
    record { kind = λ n. get_or kinds n 0; effect = λ n s. cond (is PLAIN (op_of (get_or kinds n 0))) (s - 1) s; test = λ n s. s; value = λ n. get_or words n 0 }

-- Case 13: BGNLOOP, SWITCH, CASE, BRK, ENDSWITCH, BRK, ENDLOOP, END with the CASE equal: five steps.
abbrev case13 : Machine ℕ
case13 = countdown (0x83 ∷ 0x91 ∷ 0x92 ∷ 0x85 ∷ 0x88 ∷ 0x85 ∷ 0x84 ∷ 0x89 ∷ []) (0 ∷ 0 ∷ 7 ∷ [])

case13_accepted : accepts (op_at case13) case13.value 8 0 [] ≡ true
unfolding accepts op_of
case13_accepted = refl

case13_lists : nested_lists (op_at case13) 8 ≡ loop 0 (switch 1 (one 2 (one 3 (one 4 nil))) (one 5 (one 6 nil))) (one 7 nil)
unfolding list_from op_of
case13_lists = refl

case13_read : reading case13 9 (nested_lists (op_at case13) 8) 7 ≡ ended 5 7
unfolding reading read rounds list_from op_of
case13_read = refl

case13_run : run case13 (row_at (table (op_at case13) (nested_lists (op_at case13) 8))) 9 0 0 7 ≡ ended 5 7
unfolding run table rows walk first_label list_from op_of
case13_run = refl

case13_halt : run case13 (row_at (table (op_at case13) (nested_lists (op_at case13) 8))) 4 0 0 7 ≡ halted 7 4 7
unfolding run table rows walk first_label list_from op_of
case13_halt = refl

-- 0 BGNLOOP, 1 UIF, 2 PLAIN, 3 SWITCH, 4 CASE 3, 5 CONT, 6 CASE 2, 7 PLAIN, 8 DEFAULT, 9 BRK, 10 ENDSWITCH, 11 ELSE,
-- 12 BRK, 13 ENDIF, 14 ENDLOOP, 15 END. From 4: 4 to 3 by CONT; 3 to 2, CASE 2, to 1 by falling to DEFAULT and BRK; 1 to 0,
-- DEFAULT, BRK; then ELSE's BRK.
abbrev mixed : Machine ℕ
mixed =
    countdown
    (0x83 ∷ 0x90 ∷ 0x20 ∷ 0x91 ∷ 0x92 ∷ 0x86 ∷ 0x92 ∷ 0x20 ∷ 0x87 ∷ 0x85 ∷ 0x88 ∷ 0x81 ∷ 0x85 ∷ 0x82 ∷ 0x84 ∷ 0x89 ∷ [])
    (0 ∷ 0 ∷ 0 ∷ 0 ∷ 3 ∷ 0 ∷ 2 ∷ [])

mixed_accepted : accepts (op_at mixed) mixed.value 16 0 [] ≡ true
unfolding accepts op_of
mixed_accepted = refl

mixed_table : table (op_at mixed) (nested_lists (op_at mixed) 16)
    ≡ row 0 0 ∷ row 12 0 ∷ row 0 0 ∷ row 11 4 ∷ row 0 6 ∷ row 1 0 ∷ row 0 8 ∷ row 0 0 ∷ row 0 0 ∷ row 11 0 ∷ row 0 0 ∷ row 14 0
    ∷ row 15 0 ∷ row 0 0 ∷ row 1 0 ∷ row 0 0 ∷ []
unfolding table rows first_label list_from op_of
mixed_table = refl

mixed_read : reading mixed 100 (nested_lists (op_at mixed) 16) 4 ≡ ended 22 0
unfolding reading read rounds list_from op_of
mixed_read = refl

mixed_run : run mixed (row_at (table (op_at mixed) (nested_lists (op_at mixed) 16))) 100 0 0 4 ≡ ended 22 0
unfolding run table rows walk first_label list_from op_of
mixed_run = refl

-- A label after DEFAULT and a second DEFAULT are refused with 11; an instruction right after SWITCH too, even as a 17th block.
after_default : rule CASE 5 (open_switch (7 ∷ []) true ∷ []) ≡ refused 11
after_default = refl

second_default : rule DEFAULT 0 (open_switch (7 ∷ []) true ∷ []) ≡ refused 11
second_default = refl

after_switch_is : rule UIF 0 (open_switch [] false ∷ replicate 15 open_loop) ≡ refused 11
after_switch_is = refl

seventeenth : rule UIF 0 (replicate 16 open_loop) ≡ refused 12
seventeenth = refl
