-- What the code finds of the block that an instruction opens.
-- Assumes nothing.
use mathlib.Core.Path.{◌≡◌, refl}
use mathlib.Core.Bool.{Bool, true, false}
use mathlib.Core.List.{List}
use mathlib.Core.Logic.{◌⊎◌, inl, inr, ⊎_elim}
use Prim.Native.Nat.{ℕ, suc, ◌+◌, ◌<◌, ◌≤◌}
use native.Mathlib.Omega.{arith}
use native.Mathlib.Numerals.{add-one}
use lib.ListN.{length, get_or}
use Rattle.blocks.specs.Control.{op_of}
use Rattle.blocks.specs.Lists.{nil, size}
use Rattle.blocks.specs.Nesting.{opens}
use Rattle.blocks.specs.declared.Targets.{Targets}
use Rattle.blocks.specs.Table.{first_label, in_switch}
use Rattle.lists.specs.Lists.{op_in, list_in, block_in}
use Rattle.lists.proofs.Tests.{opening_kind}
use Rattle.lists.proofs.Readers.{past_end, at_none, at_loop, at_switch, at_uif}
use Rattle.rows.specs.Opened.{opened_by, inside_of}

-- ---- `block_at`

loop_or_none : (k : ℕ) → (k ≡ 0x90 → ⊥) → (k ≡ 0x91 → ⊥) → (k ≡ 0x83) ⊎ (opens (op_of k) ≡ false)
loop_or_none k u s = by (opens (op_of k)) refl
  where
    by : (v : Bool) → opens (op_of k) ≡ v → (k ≡ 0x83) ⊎ (opens (op_of k) ≡ false)
    by false e = inr e
    by true e = opening_kind k e ((k ≡ 0x83) ⊎ (opens (op_of k) ≡ false)) (λ l. inl l) (λ d. absurd (u d)) (λ d. absurd (s d))

-- The block that instruction n opens.
module _ (kinds : List ℕ) (n : ℕ) where
  none_opened : block_in kinds n ≡ nil
      → opened_by (op_in kinds) n (block_in kinds n)
      ≡ record { end = n + size (block_in kinds n); second = n + size (block_in kinds n); jump = 0; label = 0 }
  none_opened e = let z : n ≡ n + 0 = omega arith in rw (e, ← z)

  pub opened_past : length kinds ≤ n
      → opened_by (op_in kinds) n (block_in kinds n)
      ≡ record { end = n + size (block_in kinds n); second = n + size (block_in kinds n); jump = 0; label = 0 }
  opened_past h = none_opened (rw (past_end kinds n h))

  module _ (h : n < length kinds) where
    body_end : suc n + size (list_in kinds (suc n)) ≡ n + suc (size (list_in kinds (suc n)) + 0)
    body_end = omega arith

    pub opened_other : (get_or kinds n 0 ≡ 0x90 → ⊥)
        → (get_or kinds n 0 ≡ 0x91 → ⊥)
        → opened_by (op_in kinds) n (block_in kinds n)
        ≡ record { end = n + size (block_in kinds n); second = n + size (block_in kinds n); jump = 0; label = 0 }
    opened_other u s =
        ⊎_elim (λ k. rw (at_loop kinds n h k, body_end)) (λ o. none_opened (at_none kinds n h o))
        (loop_or_none (get_or kinds n 0) u s)

    pub opened_switch : get_or kinds n 0 ≡ 0x91
        → opened_by (op_in kinds) n (block_in kinds n)
        ≡ record {
          end = n + size (block_in kinds n);
          second = n + size (block_in kinds n);
          jump = n + size (block_in kinds n);
          label = first_label (op_in kinds) (list_in kinds (n + 1));
        }
    opened_switch k = rw (add-one n, at_switch kinds n h k, body_end)

    pub opened_uif : get_or kinds n 0 ≡ 0x90
        → opened_by (op_in kinds) n (block_in kinds n)
        ≡ record {
          end = n + size (block_in kinds n);
          second = n + 1 + size (list_in kinds (n + 1));
          jump = n + 1 + size (list_in kinds (n + 1));
          label = 0;
        }
    opened_uif k =
        rw (add-one n)
        (at_uif kinds n h
        (λ l. opened_by (op_in kinds) n l
        ≡ record { end = n + size l; second = suc n + size (list_in kinds (suc n)); jump = suc n + size (list_in kinds (suc n)); label = 0 })
        k (λ q other. refl))

pub ruleset opened = (opened_past, opened_other, opened_switch, opened_uif)

-- ---- `inside`

module _ (kind first end : ℕ) (t r : Targets) where
  pub inside_switch : kind ≡ 0x91 → r ≡ in_switch end t → r ≡ inside_of (op_of kind) first end t
  unfolding op_of
  inside_switch k e = rw k e
