-- The thirteen small cases of document 01, as one list with a single statement about the definitions that the contracts cite.
-- Assumes nothing.
use mathlib.Core.Path.{◌≡◌, refl}
use mathlib.Core.List.{List, [], ◌∷◌, ◌++◌}
use Prim.Native.Nat.{ℕ}
use lib.ListN.{length, take, replicate}
use Rattle.words.specs.Word.{signed, word, lsb, umsb, imsb, least, greatest, outside, ubfe, ibfe, bfi}
use Rattle.format.specs.Kinds.{length_of}
use Rattle.format.specs.Fields.{word16, word32, destination_at, source_at, declaration_at, case_word}
use Rattle.format.specs.Records.{size_at, next, place_from}
use Rattle.format.proofs.Example.{file12}
use Rattle.blocks.specs.Control.{op_of}
use Rattle.blocks.specs.Lists.{list_from}
use Rattle.blocks.specs.Reading.{read, past, rounds, reading}
use Rattle.blocks.specs.Table.{first_label, rows, table, words_of}
use Rattle.table.specs.Prepared.{table_words}
use Rattle.registers.specs.Found.{source_found, operands_found}
use Rattle.registers.specs.Rules.{destination_rule, source_rule, all_operands, declaration_rule}
use Rattle.checker.specs.Check.{walk, check_of, follows, breaks, told_of}
use Rattle.checker.specs.Findings.{with_declaration, declaration_finding, with_immediate, immediate_finding, with_instruction, instruction_finding, record_finding}
use Rattle.results.specs.Arithmetic.{unary, binary, ternary, result_word, wide, halves, count_or, wide_of}
use Rattle.destinations.specs.Destinations.{components, if_masked, masked, first_word}
use Rattle.componentwise.specs.Components.{result_words}
use Rattle.effects.specs.Effect.{family_of}
use Rattle.sources.specs.Operands.{register_words, register_of, taken, source_of, nth_source, sources_of}
use Rattle.machine.specs.Step.{record_effect}
use Rattle.admission.specs.Admission.{lent_refusal, admission_of}
use Rattle.lending.specs.Lent.{cleared}
use Rattle.execution.specs.Program.{carried_out}
use Rattle.runner.specs.Answers.{Answer, said, end, halt, unanswered, lent, Result}
use Rattle.runner.specs.Whole.{run_admitted, run_of}

-- BGNLOOP, SWITCH IMM0.x, CASE IMM0.x, BRK, ENDSWITCH, BRK, ENDLOOP, END
file13 : List ℕ
file13 =
    0x02
    ∷ replicate 16 0
    ++ (0x83 ∷ 0x91 ∷ 6 ∷ 0 ∷ 0 ∷ 0 ∷ 0 ∷ 0x92 ∷ 6 ∷ 0 ∷ 0 ∷ 0 ∷ 0 ∷ 0x85 ∷ 0x88 ∷ 0x85 ∷ 0x84 ∷ 0x89 ∷ [])

-- A run over register words of 7, two more than the registers have, words enough for the table, and no memory.
ran : List ℕ → ℕ → Result
ran file budget = run_of file [] [] (lent (replicate 1158 7) (replicate 24 9) []) budget

-- An answer in numbers: which it is (0 ended, 1 halted, 2 refused, 3 accepted), and its values.
numbers : Answer → List ℕ
numbers (end report) = 0 ∷ report.steps ∷ []
numbers (halt report next) = 1 ∷ report.steps ∷ next ∷ []
numbers (said (breaks number place)) = 2 ∷ number ∷ place ∷ []
numbers (said (follows instructions)) = 3 ∷ instructions ∷ []
numbers unanswered = []

-- The answer, and then every lent register word, from OUT[0].x on.
shown : Result → List ℕ
shown r = numbers r.answer ++ r.lent.registers

-- So many words that are cleared and stay so, and the two past the registers, which nothing clears.
rest : ℕ → List ℕ
rest zeros = replicate zeros 0 ++ (7 ∷ 7 ∷ [])

-- Cases 1 to 10, by the kinds of the instructions.
instructions : List (List ℕ)
instructions =
    (result_word 0x20 0xFFFF_FFFF 1 0 0 ∷ [])
    ∷ (result_word 0x32 0x8000_0000 0 0 0 ∷ result_word 0x33 0x8000_0000 0 0 0 ∷ [])
    ∷ (result_word 0x24 0x8000_0000 0xFFFF_FFFF 0 0 ∷ result_word 0x26 0x8000_0000 0xFFFF_FFFF 0 0 ∷ [])
    ∷ (result_word 0x25 7 0 0 0 ∷ result_word 0x24 7 0 0 0 ∷ [])
    ∷ (result_word 0x2F 1 33 0 0 ∷ [])
    ∷ (result_word 0x63 0xABCD 4 8 0 ∷ result_word 0x62 0xABCD 4 8 0 ∷ result_word 0x63 0xABCD 30 3 0 ∷ [])
    ∷ (result_word 0x70 0xFFFF_FFFF 0 8 8 ∷ [])
    ∷ (result_word 0x18 0xFFFF_FFFE 0 0 0 ∷ result_word 0x19 1 0 0 0 ∷ result_word 0x17 8 0 0 0 ∷ [])
    ∷ take 2 (wide_of 0x40 (0xFFFF_FFFF ∷ 0 ∷ []) (1 ∷ 0 ∷ []))
    ∷ (result_word 0x23 0xFFFF_FFFF 0xFFFF_FFFF 0 0 ∷ result_word 0x22 0xFFFF_FFFF 0xFFFF_FFFF 0 0 ∷ [])
    ∷ []

-- Cases 11 to 13: the empty file; a file's length, that it is accepted, its table, and its run by the budgets 2, 1 and 0; the BRK
-- in a SWITCH in a loop.
runs : List (List ℕ)
runs =
    numbers (ran [] 5).answer
    ∷ (length file12 ∷ numbers (said (told_of (check_of file12))))
    ∷ take 9 (ran file12 2).lent.work
    ∷ shown (ran file12 2)
    ∷ shown (ran file12 1)
    ∷ shown (ran file12 0)
    ∷ shown (ran file13 100)
    ∷ []

-- All thirteen, in their order.
cases : instructions ++ runs
    ≡ (0 ∷ [])
    ∷ (0xFFFF_FFFF ∷ 0 ∷ [])
    ∷ (0x8000_0000 ∷ 0 ∷ [])
    ∷ (0xFFFF_FFFF ∷ 0 ∷ [])
    ∷ (2 ∷ [])
    ∷ (0xBC ∷ 0xFFFF_FFBC ∷ 0 ∷ [])
    ∷ (0xFFFF_00FF ∷ [])
    ∷ (0 ∷ 0 ∷ 3 ∷ [])
    ∷ (0 ∷ 1 ∷ [])
    ∷ (0xFFFF_FFFE ∷ 0 ∷ [])
    ∷ (2 ∷ 13 ∷ 0 ∷ [])
    ∷ (34 ∷ 3 ∷ 2 ∷ [])
    ∷ (23 ∷ 0 ∷ 0 ∷ 33 ∷ 0 ∷ 0 ∷ 9 ∷ 9 ∷ 9 ∷ [])
    ∷ (0 ∷ 2 ∷ 25 ∷ rest 1155)
    ∷ (1 ∷ 1 ∷ 1 ∷ 25 ∷ rest 1155)
    ∷ (1 ∷ 0 ∷ 0 ∷ rest 1156)
    ∷ (0 ∷ 5 ∷ rest 1156)
    ∷ []
unfolding instructions file13 ran numbers shown rest runs length_of word16 word32 destination_at source_at declaration_at case_word size_at next place_from op_of list_from table_words read past rounds reading first_label rows table words_of walk check_of with_declaration declaration_finding with_immediate immediate_finding source_found operands_found with_instruction instruction_finding record_finding destination_rule source_rule all_operands declaration_rule components register_words register_of taken source_of if_masked masked first_word unary result_word result_words nth_source sources_of family_of record_effect lent_refusal admission_of cleared carried_out run_admitted run_of binary ternary wide halves count_or wide_of signed word lsb umsb imsb least greatest outside ubfe ibfe bfi
cases = refl
