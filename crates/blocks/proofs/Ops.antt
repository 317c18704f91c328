-- The control instruction of a kind byte: one of the twelve kinds, or PLAIN.
-- Assumes nothing.
use mathlib.Core.Path.{◌≡◌, refl, sym, ap, ◌∙◌}
use mathlib.Core.Bool.{Bool, true, false, cond, false≢true}
use Prim.Native.Nat.{ℕ}
use lib.Dec.{eqb}
use borrow.Author.Tests.{eqb-true, eqb-false, ne_eqb}
use Rattle.blocks.specs.Control.{Op, PLAIN, ELSE, ENDIF, BGNLOOP, ENDLOOP, BRK, CONT, DEFAULT, ENDSWITCH, END, UIF, SWITCH, CASE, kind_of, is, op_of}

or_else : (P : Op → Type 0) (k n : ℕ) (o p : Op) → (k ≡ n → P o) → ((k ≡ n → ⊥) → P p) → P (cond (eqb k n) o p)
or_else P k n o p found other = on (eqb k n) refl
  where
    on : (t : Bool) → eqb k n ≡ t → P (cond t o p)
    on true e = found (eqb-true k n e)
    on false e = other (eqb-false k n e)

-- What holds of each control instruction whose kind this is, and of PLAIN, holds of the one that the kind byte stands for.
pub by_kind : (P : Op → Type 0) (k : ℕ) → ((o : Op) → k ≡ kind_of o → P o) → P PLAIN → P (op_of k)
unfolding op_of
by_kind P k there plain =
    or_else P k 0x81 _ _ (there ELSE) λ u.
    or_else P k 0x82 _ _ (there ENDIF) λ u.
    or_else P k 0x83 _ _ (there BGNLOOP) λ u.
    or_else P k 0x84 _ _ (there ENDLOOP) λ u.
    or_else P k 0x85 _ _ (there BRK) λ u.
    or_else P k 0x86 _ _ (there CONT) λ u.
    or_else P k 0x87 _ _ (there DEFAULT) λ u.
    or_else P k 0x88 _ _ (there ENDSWITCH) λ u.
    or_else P k 0x89 _ _ (there END) λ u.
    or_else P k 0x90 _ _ (there UIF) λ u.
    or_else P k 0x91 _ _ (there SWITCH) λ u.
    or_else P k 0x92 _ _ (there CASE) λ u. plain

op_of_kind : (o : Op) → op_of (kind_of o) ≡ o
unfolding op_of
op_of_kind PLAIN = refl
op_of_kind ELSE = refl
op_of_kind ENDIF = refl
op_of_kind BGNLOOP = refl
op_of_kind ENDLOOP = refl
op_of_kind BRK = refl
op_of_kind CONT = refl
op_of_kind DEFAULT = refl
op_of_kind ENDSWITCH = refl
op_of_kind END = refl
op_of_kind UIF = refl
op_of_kind SWITCH = refl
op_of_kind CASE = refl

-- A kind byte stands for a control instruction exactly if it is that instruction's kind.
module _ (o : Op) (k : ℕ) (control : is PLAIN o ≡ false) where
  pub is_kind : is o (op_of k) ≡ eqb (kind_of o) k
  is_kind = by_kind (λ p. op_of k ≡ p → is o p ≡ eqb (kind_of o) k) k (λ p e q. ap (eqb (kind_of o)) (sym e)) (λ q. sym (plain q (eqb (kind_of o) k) refl)) refl
    where
      plain : op_of k ≡ PLAIN → (t : Bool) → eqb (kind_of o) k ≡ t → t ≡ is o PLAIN
      plain q true e =
          let same : o ≡ PLAIN = sym (op_of_kind o) ∙ ap op_of (eqb-true (kind_of o) k e) ∙ q in
          absurd (false≢true (sym control ∙ ap (is PLAIN) same))
      plain q false e = sym (ne_eqb (kind_of o) (kind_of PLAIN) (λ r. eqb-false (kind_of PLAIN) (kind_of o) control (sym r)))

  pub kind_is : eqb k (kind_of o) ≡ is o (op_of k)
  kind_is = swap (eqb (kind_of o) k) refl ∙ sym is_kind
    where
      swap : (t : Bool) → eqb (kind_of o) k ≡ t → eqb k (kind_of o) ≡ eqb (kind_of o) k
      swap true e = rw (eqb-true (kind_of o) k e)
      swap false e = ne_eqb k (kind_of o) (λ r. eqb-false (kind_of o) k e (sym r)) ∙ sym e

  pub not_kind : (k ≡ kind_of o → ⊥) → is o (op_of k) ≡ false
  not_kind other = is_kind ∙ ne_eqb (kind_of o) k (λ e. other (sym e))
