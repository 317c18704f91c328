-- What the operands of an accepted program name, for a reader to cite: a destination and a direct source name a register within its
-- file or one of the immediates, and a modifier is at most 9.
-- Assumes nothing.
use mathlib.Core.Path.{◌≡◌}
use mathlib.Core.Bool.{true, ◌||◌}
use mathlib.Core.List.{List}
use Prim.Native.Nat.{ℕ, ◌*◌, ◌<◌, ◌≤◌}
use native.Mathlib.Omega.{arith}
use lib.Dec.{eqb}
use lib.ListN.{length, get_or}
use Rattle.format.specs.Files.{CONST, IN, OUT, TEMP, ADDR, IMM, registers_of}
use Rattle.format.specs.Fields.{indirection}
use Rattle.format.specs.Kinds.{destinations, sources, form_of}
use Rattle.format.specs.Records.{place_from}
use Rattle.registers.specs.Rules.{STORE}
use Rattle.registers.proofs.Named.{destination, source, modifier_most, direct_given}
use Rattle.registers.proofs.Named as named
use Rattle.checker.specs.Check.{accepted, check_of}
use Rattle.checker.specs.Findings.{Seen}
use Rattle.checker.proofs.Followed.{Followed, followed, Operands}

-- Instruction n of an accepted program.
module _ (file : List ℕ) (f : Seen) (ok : check_of file ≡ accepted f) (n : ℕ) (h : n < f.instructions) where
  abbrev place : ℕ
  place = place_from file f.start n

  abbrev kind : ℕ
  kind = get_or file place 0

  holds : Followed file f
  holds = (followed file f ok).1

  operands : Operands file f.declared f.immediates place
  operands = holds.operands n h

  -- "1 CONST 0-1023, 2 IN 0-31, 3 OUT 0-31, 4 TEMP 0-255, 5 ADDR 0 .. 7 MEM 0" (01, Register files)
  pub destination_inside : (destinations (form_of kind) ≡ 0 → ⊥) → (destination kind file place).index < registers_of (destination kind file place).file
  destination_inside = named.destination_inside kind file place f.declared (length f.immediates) operands.found holds.inside

  -- "Destination OUT or TEMP; UARL only ADDR; STORE only MEM." (01, Register files)
  pub destination_register : (destinations (form_of kind) ≡ 0 → ⊥) → (kind ≡ STORE → ⊥)
      → (eqb (destination kind file place).file OUT || eqb (destination kind file place).file TEMP || eqb (destination kind file place).file ADDR) ≡ true
  destination_register = named.destination_register kind file place operands.allowed

  module _ (i : ℕ) (b : i < sources (form_of kind)) where
    -- "Sources CONST, IN, TEMP, IMM."
    pub source_file : (eqb (source kind file place i).file CONST || eqb (source kind file place i).file IN || eqb (source kind file place i).file TEMP || eqb (source kind file place i).file IMM) ≡ true
    source_file = named.source_file kind file place operands.allowed i b

    -- "Indirect only for CONST and TEMP."
    pub indirect_file : (indirection (source kind file place i) ≡ 0 → ⊥) → (eqb (source kind file place i).file CONST || eqb (source kind file place i).file TEMP) ≡ true
    indirect_file = named.indirect_file kind file place operands.allowed i b

    pub modifier_inside : (source kind file place i).modifier ≤ 9
    modifier_inside = modifier_most kind file place operands.allowed i b

    module _ (direct : indirection (source kind file place i) ≡ 0) where
      pub source_inside : ((source kind file place i).file ≡ IMM → ⊥) → (source kind file place i).index < registers_of (source kind file place i).file
      source_inside = named.direct_inside kind file place f.declared (length f.immediates) operands.found holds.inside i b direct

      -- "6 IMM (by order of immediates, at most 256, not declared)": the four words of the immediate are given.
      pub immediate_given : (source kind file place i).file ≡ IMM → 4 * (source kind file place i).index < length f.immediates
      immediate_given = direct_given kind file place f.declared (length f.immediates) operands.found i b direct

      pub immediate_inside : (source kind file place i).file ≡ IMM → (source kind file place i).index < 256
      immediate_inside imm = omega (arith, immediate_given imm, holds.given)
