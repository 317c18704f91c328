-- What the operands of an instruction name, where they keep the field rules and are found: a destination and a direct source name a
-- register within its file, or one of the immediates. Each rule is one part of a conjunction.
-- Assumes nothing.
use mathlib.Core.Path.{◌≡◌, refl, sym, ap, ◌∙◌}
use mathlib.Core.Bool.{Bool, true, false, cond, not, ◌&&◌, ◌||◌}
use mathlib.Core.List.{List}
use Prim.Native.Nat.{ℕ, zero, suc, ◌+◌, ◌*◌, ◌<◌, ◌≤◌}
use native.Mathlib.Omega.{arith}
use lib.Dec.{eqb, leb}
use borrow.Author.Tests.{eqb-true, eq-eqb, ne_eqb, leb-true, ltb-true}
use Rattle.format.specs.Files.{CONST, IN, OUT, TEMP, ADDR, IMM, MEM, registers_of}
use Rattle.format.specs.Kinds.{destinations, sources, form_of, first_source, source_place, within}
use Rattle.format.specs.Fields.{destination_at, source_at, negates, indirection, is_indirect}
use Rattle.format.specs.declared.fields.Destination.{Destination}
use Rattle.format.specs.declared.fields.Source.{Source}
use Rattle.format.specs.declared.fields.Declaration.{Declaration}
use Rattle.registers.specs.Sets.{Registers, none, with_range}
use Rattle.registers.specs.Rules.{may_negate, destination_file, mask_rule, destination_rule, source_rule, all_sources, all_operands, operand_rules, declaration_rule, UARL, STORE, CASE}
use Rattle.registers.specs.Found.{destination_found, source_found, operands_found}
use Rattle.registers.proofs.Choices.{never}
use Rattle.registers.proofs.Files.{rule_last}

and_both : (a b : Bool) → (a && b) ≡ true → (a ≡ true) × (b ≡ true)
and_both true b e = (refl, e)
and_both false b e = never e

all_five : (a b c d e : Bool) → (a && b && c && d && e) ≡ true → (a ≡ true) × (b ≡ true) × (c ≡ true) × (d ≡ true) × (e ≡ true)
all_five true true true true true h = (refl, refl, refl, refl, refl)
all_five true true true true false h = never h
all_five true true true false e h = never h
all_five true true false d e h = never h
all_five true false c d e h = never h
all_five false b c d e h = never h

-- A destination of a kind that is not STORE.
register_file : (kind f : ℕ) (t u : Bool) → eqb kind STORE ≡ false → cond t (eqb f ADDR) (cond (eqb kind STORE) (eqb f MEM) u) ≡ true → u ≡ (eqb f OUT || eqb f TEMP)
    → (eqb f OUT || eqb f TEMP || eqb f ADDR) ≡ true
register_file kind f true u other h e = or_last (eqb f OUT) (eqb f TEMP) (eqb f ADDR) h
  where
    or_last : (a b c : Bool) → c ≡ true → (a || b || c) ≡ true
    or_last true b c h = refl
    or_last false true c h = refl
    or_last false false c h = h
register_file kind f false u other h e = or_first (eqb f OUT) (eqb f TEMP) (eqb f ADDR) (sym e ∙ (rw other at h))
  where
    or_first : (a b c : Bool) → (a || b) ≡ true → (a || b || c) ≡ true
    or_first true b c h = refl
    or_first false true c h = refl
    or_first false false c h = never h

-- ---- What is declared

-- All that is declared lies within its file.
pub record Inside (declared : Registers) : Type 0 where
  pub below : (f i : ℕ) → declared f i ≡ true → i < registers_of f

pub none_inside : Inside none
none_inside = record { below = λ f i e. never e }

pub more_inside : (s : Registers) (d : Declaration) → Inside s → declaration_rule d ≡ true → Inside (with_range s d.file d.first d.last)
more_inside s d h rule = record { below = λ f i. by f i (eqb f d.file) refl (within d.first d.last i) refl }
  where
    by : (f i : ℕ) (t : Bool) → eqb f d.file ≡ t → (u : Bool) → within d.first d.last i ≡ u → cond t (u || s f i) (s f i) ≡ true → i < registers_of f
    by f i true e true q r =
        let last : d.last < registers_of d.file = rule_last d true (sym rule) refl in
        let same : registers_of f ≡ registers_of d.file = ap registers_of (eqb-true f d.file e) in
        omega (arith, leb-true i d.last (and_both (leb d.first i) (leb i d.last) q).1)
    by f i true e false q r = h.below f i r
    by f i false e u q r = h.below f i r

-- ---- One operand of several

all_at : (asked : Source → Bool) (file : List ℕ) (p n i : ℕ) → all_sources asked file p n ≡ true → i < n → asked (source_at file (p + 5 * i)) ≡ true
all_at asked file p zero i h l = absurd (omega arith)
all_at asked file p (suc n) zero h l =
    let e : p + 5 * 0 ≡ p = omega arith in
    rw e (and_both (asked (source_at file p)) (all_sources asked file (p + 5) n) h).0
all_at asked file p (suc n) (suc i) h l =
    let e : p + 5 * suc i ≡ p + 5 + 5 * i = omega arith in
    rw e (all_at asked file (p + 5) n i (and_both (asked (source_at file p)) (all_sources asked file (p + 5) n) h).1 (omega arith))

module _ (kind : ℕ) (file : List ℕ) (at : ℕ) where
  -- The destination of an instruction of this kind at a place, where it has one, and its sources.
  abbrev pub destination : Destination
  destination = destination_at file (at + 1)

  abbrev pub source : ℕ → Source
  source i = source_at file (at + source_place kind i)

  module _ (askedD : Destination → Bool) (askedS : Source → Bool) (all : all_operands kind askedD askedS file at ≡ true) where
    parts : ((eqb (destinations (form_of kind)) 0 || askedD destination) ≡ true) × (all_sources askedS file (at + first_source kind) (sources (form_of kind)) ≡ true)
    unfolding all_operands
    parts = and_both _ _ all

    destination_asked : (destinations (form_of kind) ≡ 0 → ⊥) → askedD destination ≡ true
    destination_asked some = rw (ne_eqb (destinations (form_of kind)) 0 some) at parts.0

    source_asked : (i : ℕ) → i < sources (form_of kind) → askedS (source i) ≡ true
    source_asked i h =
        let e : at + source_place kind i ≡ at + first_source kind + 5 * i = omega arith in
        rw e (all_at askedS file (at + first_source kind) (sources (form_of kind)) i parts.1 h)

  -- ---- The field rules

  module _ (allowed : operand_rules kind file at ≡ true) where
    pub destination_keeps : (destinations (form_of kind) ≡ 0 → ⊥) → destination_rule kind destination ≡ true
    destination_keeps = destination_asked (destination_rule kind) (source_rule kind) allowed

    pub source_keeps : (i : ℕ) → i < sources (form_of kind) → source_rule kind (source i) ≡ true
    source_keeps = source_asked (destination_rule kind) (source_rule kind) allowed

    -- "Destination OUT or TEMP; UARL only ADDR; STORE only MEM."
    pub destination_register : (destinations (form_of kind) ≡ 0 → ⊥) → (kind ≡ STORE → ⊥)
        → (eqb destination.file OUT || eqb destination.file TEMP || eqb destination.file ADDR) ≡ true
    unfolding destination_rule
    destination_register some other =
        register_file kind destination.file (eqb kind UARL) (eqb destination.file OUT || eqb destination.file TEMP) (ne_eqb kind STORE other)
        (and_both (destination_file kind destination.file) (mask_rule kind destination.mask) (destination_keeps some)).0 refl

    -- Each rule of a source by itself.
    module _ (i : ℕ) (h : i < sources (form_of kind)) where
      abbrev s : Source
      s = source i

      rules : ((eqb s.file CONST || eqb s.file IN || eqb s.file TEMP || eqb s.file IMM) ≡ true)
          × (leb s.modifier 9 ≡ true)
          × ((not (negates s) || may_negate kind) ≡ true)
          × ((not (is_indirect s) || (eqb s.file CONST || eqb s.file TEMP)) ≡ true)
          × ((not (eqb kind CASE) || eqb s.file IMM && eqb s.modifier 0) ≡ true)
      unfolding source_rule
      rules = all_five _ _ _ _ _ (source_keeps i h)

      -- "Sources CONST, IN, TEMP, IMM."
      pub source_file : (eqb s.file CONST || eqb s.file IN || eqb s.file TEMP || eqb s.file IMM) ≡ true
      source_file = rules.0

      -- "Modifier 0-9."
      pub modifier_most : s.modifier ≤ 9
      modifier_most = leb-true s.modifier 9 rules.1

      -- "Indirect only for CONST and TEMP."
      pub indirect_file : (indirection s ≡ 0 → ⊥) → (eqb s.file CONST || eqb s.file TEMP) ≡ true
      indirect_file some = rw (ne_eqb (indirection s) 0 some) at rules.3

  -- ---- What is named

  module _ (declared : Registers) (words : ℕ) (found : operands_found kind declared words file at ≡ true) where
    all_found : all_operands kind (destination_found declared) (source_found declared words) file at ≡ true
    unfolding operands_found
    all_found = (and_both _ _ found).0

    pub destination_declared : (destinations (form_of kind) ≡ 0 → ⊥) → declared destination.file destination.index ≡ true
    destination_declared = destination_asked (destination_found declared) (source_found declared words) all_found

    -- A direct source, modifier 0 or 1.
    module _ (i : ℕ) (h : i < sources (form_of kind)) (direct : indirection (source i) ≡ 0) where
      source_there : source_found declared words (source i) ≡ true
      source_there = source_asked (destination_found declared) (source_found declared words) all_found i h

      pub direct_declared : ((source i).file ≡ IMM → ⊥) → declared (source i).file (source i).index ≡ true
      unfolding source_found
      direct_declared other = rw (eq-eqb _ _ direct, ne_eqb _ _ other) at source_there

      pub direct_given : (source i).file ≡ IMM → 4 * (source i).index < words
      unfolding source_found
      direct_given imm = ltb-true (4 * (source i).index) words (rw (eq-eqb _ _ direct, eq-eqb _ _ imm) at source_there)

    module _ (inside : Inside declared) where
      pub destination_inside : (destinations (form_of kind) ≡ 0 → ⊥) → destination.index < registers_of destination.file
      destination_inside some = inside.below destination.file destination.index (destination_declared some)

      pub direct_inside : (i : ℕ) → i < sources (form_of kind) → indirection (source i) ≡ 0 → ((source i).file ≡ IMM → ⊥) → (source i).index < registers_of (source i).file
      direct_inside i h direct other = inside.below (source i).file (source i).index (direct_declared i h direct other)
