-- What the tests of the code on a kind byte say of its control instruction.
-- Assumes nothing.
use mathlib.Core.Path.{◌≡◌, refl}
use mathlib.Core.Bool.{true, false, false≢true}
use mathlib.Core.Logic.{◌⊎◌, inl, inr}
use Prim.Native.Nat.{ℕ}
use Rattle.blocks.specs.Control.{Op, PLAIN, ELSE, ENDIF, BGNLOOP, ENDLOOP, BRK, CONT, DEFAULT, ENDSWITCH, END, UIF, SWITCH, CASE, kind_of, is, is_label, closes, op_of}
use Rattle.blocks.specs.Nesting.{opens}
use Rattle.blocks.proofs.Ops.{by_kind, not_kind}

-- The kinds that the readers test for.
pub uif_kind : (k : ℕ) → k ≡ 0x90 → op_of k ≡ UIF
unfolding op_of
uif_kind k e = rw e

pub loop_kind : (k : ℕ) → k ≡ 0x83 → op_of k ≡ BGNLOOP
unfolding op_of
loop_kind k e = rw e

pub switch_kind : (k : ℕ) → k ≡ 0x91 → op_of k ≡ SWITCH
unfolding op_of
switch_kind k e = rw e

pub else_kind : (k : ℕ) → k ≡ 0x81 → op_of k ≡ ELSE
unfolding op_of
else_kind k e = rw e

module _ (k : ℕ) (h : opens (op_of k) ≡ true) where
  pub opening_kind : (A : Type 0) → (k ≡ 0x83 → A) → (k ≡ 0x90 → A) → (k ≡ 0x91 → A) → A
  opening_kind A l u s = by_kind (λ o. opens o ≡ true → A) k on none h
    where
      none : false ≡ true → A
      none d = absurd (false≢true d)

      on : (o : Op) → k ≡ kind_of o → opens o ≡ true → A
      on BGNLOOP e d = l e
      on UIF e d = u e
      on SWITCH e d = s e
      on PLAIN e d = none d
      on ELSE e d = none d
      on ENDIF e d = none d
      on ENDLOOP e d = none d
      on BRK e d = none d
      on CONT e d = none d
      on DEFAULT e d = none d
      on ENDSWITCH e d = none d
      on END e d = none d
      on CASE e d = none d

  pub loop_or_switch : (k ≡ 0x90 → ⊥) → (k ≡ 0x83) ⊎ (k ≡ 0x91)
  loop_or_switch u = opening_kind ((k ≡ 0x83) ⊎ (k ≡ 0x91)) (λ e. inl e) (λ e. absurd (u e)) (λ e. inr e)

pub not_else : (k : ℕ) → (k ≡ 0x81 → ⊥) → is ELSE (op_of k) ≡ false
not_else k a = not_kind ELSE k refl a

-- What holds of each mark that ends a list.
pub closing_cases : (P : Op → Type 0) (o : Op) → closes o ≡ true → P ELSE → P ENDIF → P ENDLOOP → P ENDSWITCH → P END → P o
closing_cases P ELSE h a b c d e = a
closing_cases P ENDIF h a b c d e = b
closing_cases P ENDLOOP h a b c d e = c
closing_cases P ENDSWITCH h a b c d e = d
closing_cases P END h a b c d e = e
closing_cases P PLAIN h a b c d e = absurd (false≢true h)
closing_cases P BRK h a b c d e = absurd (false≢true h)
closing_cases P CONT h a b c d e = absurd (false≢true h)
closing_cases P CASE h a b c d e = absurd (false≢true h)
closing_cases P DEFAULT h a b c d e = absurd (false≢true h)
closing_cases P UIF h a b c d e = absurd (false≢true h)
closing_cases P BGNLOOP h a b c d e = absurd (false≢true h)
closing_cases P SWITCH h a b c d e = absurd (false≢true h)

pub last_no_label : (o : Op) → closes o ≡ true → is_label o ≡ false
last_no_label o h = closing_cases (λ o. is_label o ≡ false) o h refl refl refl refl refl
