-- Each arm is the effect of its family: of one kind, or of the kinds of a range.
use Rattle.std.proofs.Common.{refl, rules}
use Rattle.effects.specs.Effect.{ATOMCAS, ATOMIC, LOAD, NONE, STORE, WIDE, WIDE-UNARY, WORDS, family_of}
use Rattle.effects.proofs.Effects.{atomic_with, cas_with, effect_at, effect_in, loaded_to, stored_to, wide_to, wide_unary_to, words_are}
use Rattle.effects.proofs.effect.effect.Goals as goal

pub returns-in-30 : goal.returns-in-30
unfolding family_of
returns-in-30 c = search (rules, effect_at LOAD 0x1e refl, loaded_to)

pub returns-in-88 : goal.returns-in-88
unfolding family_of
returns-in-88 c = search (rules, effect_at STORE 0x58 refl, stored_to)

pub returns-in-100 : goal.returns-in-100
unfolding family_of
returns-in-100 c = search (rules, effect_at ATOMCAS 0x64 refl, cas_with)

pub returns-in-112 : goal.returns-in-112
unfolding family_of
returns-in-112 c = search (rules, effect_at WORDS 0x70 refl, words_are)

pub returns-then-kind-lt16 : goal.returns-then-kind-lt16
unfolding family_of
returns-then-kind-lt16 c = search (rules, effect_in NONE 0x0 0x10 tt)

pub returns-in-16-to-26 : goal.returns-in-16-to-26
unfolding family_of
returns-in-16-to-26 c = search (rules, effect_in WORDS 0x10 0x1b tt, words_are)

pub returns-in-27-to-29 : goal.returns-in-27-to-29
unfolding family_of
returns-in-27-to-29 c = search (rules, effect_in WIDE-UNARY 0x1b 0x1e tt, wide_unary_to)

pub returns-then-kind-lt32 : goal.returns-then-kind-lt32
unfolding family_of
returns-then-kind-lt32 c = search (rules, effect_in NONE 0x1e 0x20 tt)

pub returns-in-32-to-55 : goal.returns-in-32-to-55
unfolding family_of
returns-in-32-to-55 c = search (rules, effect_in WORDS 0x20 0x38 tt, words_are)

pub returns-else-kind-lt56 : goal.returns-else-kind-lt56
unfolding family_of
returns-else-kind-lt56 c = search (rules, effect_in NONE 0x38 0x40 tt)

pub returns-in-64-to-82 : goal.returns-in-64-to-82
unfolding family_of
returns-in-64-to-82 c = search (rules, effect_in WIDE 0x40 0x53 tt, wide_to)

pub returns-then-kind-lt86 : goal.returns-then-kind-lt86
unfolding family_of
returns-then-kind-lt86 c = search (rules, effect_in NONE 0x53 0x56 tt)

pub returns-in-86-to-95 : goal.returns-in-86-to-95
unfolding family_of
returns-in-86-to-95 c = search (rules, effect_in ATOMIC 0x56 0x60 tt, atomic_with)

pub returns-in-96-to-99 : goal.returns-in-96-to-99
unfolding family_of
returns-in-96-to-99 c = search (rules, effect_in WORDS 0x60 0x64 tt, words_are)

pub returns-else-kind-lt100 : goal.returns-else-kind-lt100
unfolding family_of
returns-else-kind-lt100 c = search (rules, effect_in NONE 0x64 0x100 tt)
