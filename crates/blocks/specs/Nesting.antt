-- Which programs are well nested: the refusals 10, 11 and 12.
-- Assumes nothing.
use Rattle.std.specs.Prelude.{ℕ, zero, suc, Bool, true, false, cond, not, ◌&&◌, ◌||◌, List, [], ◌∷◌, eqb, leb, length, drop}
use Rattle.format.specs.Refusals.{nesting_broken, switch_rule_broken, too_deep}
use Rattle.blocks.specs.Control.{Op, PLAIN, ELSE, ENDIF, BGNLOOP, ENDLOOP, BRK, CONT, DEFAULT, ENDSWITCH, END, UIF, SWITCH, CASE, is}

-- An open block: a UIF before its ELSE, one after it, a loop, and a SWITCH with the words of its CASEs so far and whether
-- its DEFAULT has stood. A list of them has the innermost first.
pub data Open : Type 0 where
  open_uif open_else open_loop : Open
  open_switch : List ℕ → Bool → Open

abbrev pub is_uif : Open → Bool
is_uif open_uif = true
is_uif open_else = false
is_uif open_loop = false
is_uif (open_switch values has_default) = false

abbrev pub is_else : Open → Bool
is_else open_uif = false
is_else open_else = true
is_else open_loop = false
is_else (open_switch values has_default) = false

abbrev pub is_loop : Open → Bool
is_loop open_uif = false
is_loop open_else = false
is_loop open_loop = true
is_loop (open_switch values has_default) = false

-- Whether it is a SWITCH whose words and DEFAULT are as f asks.
abbrev pub is_switch : (List ℕ → Bool → Bool) → Open → Bool
is_switch f open_uif = false
is_switch f open_else = false
is_switch f open_loop = false
is_switch f (open_switch values has_default) = f values has_default

abbrev pub any_switch : Open → Bool
any_switch = is_switch (λ values has_default. true)

-- Whether some member of a list is as f asks, and whether its first is.
abbrev pub some : {A : Type 0} → (A → Bool) → List A → Bool
some f [] = false
some f (a ∷ rest) = f a || some f rest

abbrev pub innermost : (Open → Bool) → List Open → Bool
innermost f [] = false
innermost f (o ∷ σ) = f o

-- Whether BRK, and CONT, has a block to leave or to start anew.
abbrev pub breakable : List Open → Bool
breakable σ = some (λ o. is_loop o || any_switch o) σ

abbrev pub continuable : List Open → Bool
continuable σ = some is_loop σ

-- "ELSE needs a UIF innermost without an ELSE; ENDIF a UIF; ENDLOOP a loop; CASE, DEFAULT and ENDSWITCH a SWITCH; BRK some
-- loop or SWITCH; CONT some loop; END no open block. Else 10." (01, Blocks)
abbrev pub nesting_rule : Op → List Open → Bool
nesting_rule ELSE σ = innermost is_uif σ
nesting_rule ENDIF σ = innermost (λ o. is_uif o || is_else o) σ
nesting_rule ENDLOOP σ = innermost is_loop σ
nesting_rule CASE σ = innermost any_switch σ
nesting_rule DEFAULT σ = innermost any_switch σ
nesting_rule ENDSWITCH σ = innermost any_switch σ
nesting_rule BRK σ = breakable σ
nesting_rule CONT σ = continuable σ
nesting_rule END σ = eqb (length σ) 0
nesting_rule PLAIN σ = true
nesting_rule BGNLOOP σ = true
nesting_rule UIF σ = true
nesting_rule SWITCH σ = true

-- "A SWITCH is followed at once by CASE or DEFAULT, has at least one CASE, no equal CASE values, and its DEFAULT is its last
-- label. Else 11, at the record where it shows (a lack of CASE shows at ENDSWITCH)." (01, Blocks) For a CASE x is its word.
abbrev pub after_switch : List Open → Bool
after_switch σ = innermost (is_switch (λ values has_default. eqb (length values) 0 && not has_default)) σ

abbrev pub switch_rule : Op → ℕ → List Open → Bool
switch_rule CASE x σ = innermost (is_switch (λ values has_default. not (has_default || some (eqb x) values))) σ
switch_rule DEFAULT x σ = innermost (is_switch (λ values has_default. not has_default)) σ
switch_rule ENDSWITCH x σ = innermost (is_switch (λ values has_default. not (eqb (length values) 0))) σ
switch_rule PLAIN x σ = not (after_switch σ)
switch_rule ELSE x σ = not (after_switch σ)
switch_rule ENDIF x σ = not (after_switch σ)
switch_rule BGNLOOP x σ = not (after_switch σ)
switch_rule ENDLOOP x σ = not (after_switch σ)
switch_rule BRK x σ = not (after_switch σ)
switch_rule CONT x σ = not (after_switch σ)
switch_rule END x σ = not (after_switch σ)
switch_rule UIF x σ = not (after_switch σ)
switch_rule SWITCH x σ = not (after_switch σ)

-- "A block holds instructions, and an instruction may open a block: UIF, BGNLOOP or SWITCH, of which at most 16 are open."
-- (01, Blocks) A 17th is refused with 12.
abbrev pub most_open : ℕ
most_open = 16

abbrev pub opens : Op → Bool
opens o = is UIF o || is BGNLOOP o || is SWITCH o

-- The innermost SWITCH with its words and DEFAULT changed.
abbrev pub relabelled : (List ℕ → Bool → Open) → List Open → List Open
relabelled f [] = []
relabelled f (open_uif ∷ σ) = open_uif ∷ σ
relabelled f (open_else ∷ σ) = open_else ∷ σ
relabelled f (open_loop ∷ σ) = open_loop ∷ σ
relabelled f (open_switch values has_default ∷ σ) = f values has_default ∷ σ

-- The blocks that are open after an instruction that is not refused.
abbrev pub open_after : Op → ℕ → List Open → List Open
open_after UIF x σ = open_uif ∷ σ
open_after BGNLOOP x σ = open_loop ∷ σ
open_after SWITCH x σ = open_switch [] false ∷ σ
open_after ELSE x σ = open_else ∷ drop 1 σ
open_after ENDIF x σ = drop 1 σ
open_after ENDLOOP x σ = drop 1 σ
open_after ENDSWITCH x σ = drop 1 σ
open_after CASE x σ = relabelled (λ values has_default. open_switch (x ∷ values) has_default) σ
open_after DEFAULT x σ = relabelled (λ values has_default. open_switch values true) σ
open_after PLAIN x σ = σ
open_after BRK x σ = σ
open_after CONT x σ = σ
open_after END x σ = σ

-- What the check says of one instruction: the blocks open after it, or the refusal's number, "the lowest number that applies".
pub data Ruling : Type 0 where
  goes : List Open → Ruling
  refused : ℕ → Ruling

abbrev pub rule : Op → ℕ → List Open → Ruling
rule o x σ =
    cond (not (nesting_rule o σ)) (refused nesting_broken)
    (cond (not (switch_rule o x σ)) (refused switch_rule_broken)
    (cond (opens o && leb most_open (length σ)) (refused too_deep) (goes (open_after o x σ))))

abbrev pub passes : Ruling → (List Open → Bool) → Bool
passes (goes σ) rest = rest σ
passes (refused r) rest = false

module _ (op : ℕ → Op) (value : ℕ → ℕ) where
  -- Whether the m instructions from n on are well nested in the open blocks σ, and END is the last of them and no other.
  unfoldable pub accepts : ℕ → ℕ → List Open → Bool
  accepts zero n σ = false
  accepts (suc m) n σ =
      passes (rule (op n) (value n) σ) (λ σ'. cond (is END (op n)) (eqb m 0) (accepts m (suc n) σ'))
