-- An accepted program is a well nested list. The idea: from any number on, the list there is well nested in the blocks that
-- the check has open, and what is left after its end is accepted in the blocks that are open there.
-- Assumes nothing.
use mathlib.Core.Path.{◌≡◌, refl, sym, ◌∙◌}
use Prim.Native.Nat.{ℕ, zero, suc, ◌+◌, ◌<◌}
use native.Mathlib.Omega.{arith}
use native.Mathlib.Nat.{add-zero}
use native.Mathlib.Numerals.{add-one}
use mathlib.Core.Bool.{Bool, true, false, cond, not, ◌&&◌, false≢true}
use mathlib.Core.List.{List, [], ◌∷◌}
use mathlib.Core.Logic.{◌⊎◌, inl, inr}
use lib.Dec.{eqb, eqb→eq, eqb-suc-zero, leb}
use lib.ListN.{length}
use Rattle.blocks.specs.Control.{Op, PLAIN, ELSE, ENDIF, BGNLOOP, ENDLOOP, BRK, CONT, DEFAULT, ENDSWITCH, END, UIF, SWITCH, CASE, is}
use Rattle.blocks.specs.Lists.{Items, nil, one, size, item, list_at, nested_lists}
use Rattle.blocks.specs.Nesting.{Open, open_uif, open_else, open_loop, open_switch, is_switch, innermost, breakable, continuable, nesting_rule, switch_rule, most_open, opens, open_after, goes, refused, passes, accepts}
use Rattle.blocks.proofs.Bound.{list_item}
use Rattle.blocks.proofs.Nested.{Close, at_else, at_endif, at_endloop, at_endswitch, at_end, closing, Context, program, Fine, has_default, WF, w_one, w_close, w_uif, w_uif1, w_loop, w_switch, last_closes}

-- What an instruction that passes has shown.
ruled : (a b d : Bool) (σ : List Open) (rest : List Open → Bool)
    → passes (cond (not a) (refused 10) (cond (not b) (refused 11) (cond d (refused 12) (goes σ)))) rest ≡ true
    → (a ≡ true) × (b ≡ true) × (rest σ ≡ true)
ruled true true false σ rest h = (refl, refl, h)
ruled true true true σ rest h = absurd (false≢true h)
ruled true false d σ rest h = absurd (false≢true h)
ruled false b d σ rest h = absurd (false≢true h)

-- The innermost list of the open blocks σ, where z closes it.
abbrev context : Close → List Open → Context
context z σ = record { close = z; breaks = breakable σ; continues = continuable σ }

-- Whether the innermost block is a SWITCH whose DEFAULT has stood.
abbrev defaulted : List Open → Bool
defaulted σ = innermost (is_switch (λ values stood. stood)) σ

module _ (op : ℕ → Op) (value : ℕ → ℕ) (N : ℕ) where
  abbrev Accepted : ℕ → ℕ → List Open → Type 0
  Accepted m n σ = accepts op value m n σ ≡ true

  -- What closes the innermost list, and that the `left` instructions after its end are accepted.
  abbrev After : List Open → Close → ℕ → ℕ → Type 0
  After [] z left n = (z ≡ at_end) × (left ≡ 0)
  After (open_uif ∷ σ) z left n = ((z ≡ at_else) × Accepted left n (open_else ∷ σ)) ⊎ ((z ≡ at_endif) × Accepted left n σ)
  After (open_else ∷ σ) z left n = (z ≡ at_endif) × Accepted left n σ
  After (open_loop ∷ σ) z left n = (z ≡ at_endloop) × Accepted left n σ
  After (open_switch values stood ∷ σ) z left n = (z ≡ at_endswitch) × Accepted left n σ

  -- The list l from number n on, in the open blocks σ with m instructions to come.
  record Parsed (σ : List Open) (m n : ℕ) (l : Items) : Type 0 where
    close : Close
    left : ℕ
    nested : WF op (context close σ) l n
    counts : size l + left ≡ m
    single : defaulted σ ≡ true → has_default op l ≡ false
    after : After σ close left (n + size l)

  -- Instructions before a list that is parsed.
  extend : (σ : List Open) (m n e k : ℕ) (L rest : Items)
      → Parsed σ k e rest
      → ((z : Close) → WF op (context z σ) rest e → WF op (context z σ) L n)
      → n + size L ≡ e + size rest
      → n + m ≡ e + k
      → (has_default op rest ≡ false → has_default op L ≡ false)
      → Parsed σ m n L
  extend σ m n e k L rest r f ends counts quiet = record {
    close = r.close;
    left = r.left;
    nested = f r.close r.nested;
    counts = omega (arith, r.counts);
    single = λ d. quiet (r.single d);
    after = rw ends r.after;
  }

  -- The list at any number, where fewer than `most` instructions are to come.
  abbrev Parses : ℕ → Type 0
  Parses most = (m n : ℕ) (σ : List Open) → m < most → n + m ≡ N → Accepted m n σ → Parsed σ m n (list_at op N n)

  module _ (m n : ℕ) (ih : Parses (suc m)) (ends : suc n + m ≡ N) where
    -- An instruction that opens and closes no block and is no label.
    plain_parsed : (σ : List Open)
        → ((z : Close) (later : Bool) → Fine (op n) (context z σ) later)
        → is DEFAULT (op n) ≡ false
        → Accepted m (suc n) σ
        → Parsed σ (suc m) n (one n (list_at op N (suc n)))
    plain_parsed σ fine other a =
        extend σ (suc m) n (suc n) m _ _ (ih m (suc n) σ (omega arith) ends a) (λ z w. w_one n (fine z _) w) (omega arith)
        (omega arith) (λ e. rw (other, e))

    case_parsed : (values new : List ℕ) (stood : Bool) (σ : List Open)
        → op n ≡ CASE
        → Accepted m (suc n) (open_switch new stood ∷ σ)
        → Parsed (open_switch values stood ∷ σ) (suc m) n (one n (list_at op N (suc n)))
    case_parsed values new stood σ o a =
        let r : Parsed (open_switch new stood ∷ σ) m (suc n) (list_at op N (suc n)) = ih m (suc n) _ (omega arith) ends a in
        let fine : Fine (op n) (context r.close (open_switch values stood ∷ σ)) (has_default op (list_at op N (suc n))) = rw o tt in
        let e : n + suc (size (list_at op N (suc n))) ≡ suc n + size (list_at op N (suc n)) = omega arith in
        record {
          close = r.close;
          left = r.left;
          nested = w_one n fine r.nested;
          counts = omega (arith, r.counts);
          single = λ d. rw (o, r.single d);
          after = rw e r.after;
        }

    default_parsed : (values : List ℕ) (σ : List Open)
        → op n ≡ DEFAULT
        → Accepted m (suc n) (open_switch values true ∷ σ)
        → Parsed (open_switch values false ∷ σ) (suc m) n (one n (list_at op N (suc n)))
    default_parsed values σ o a =
        let r : Parsed (open_switch values true ∷ σ) m (suc n) (list_at op N (suc n)) = ih m (suc n) _ (omega arith) ends a in
        let fine : Fine (op n) (context r.close (open_switch values false ∷ σ)) (has_default op (list_at op N (suc n)))
        = rw o (r.single refl) in
        let e : n + suc (size (list_at op N (suc n))) ≡ suc n + size (list_at op N (suc n)) = omega arith in
        record {
          close = r.close;
          left = r.left;
          nested = w_one n fine r.nested;
          counts = omega (arith, r.counts);
          single = λ d. absurd (false≢true d);
          after = rw e r.after;
        }

    -- A mark that closes the list.
    close_parsed : (σ : List Open) (z : Close)
        → op n ≡ closing z
        → After σ z m (n + 1)
        → is DEFAULT (closing z) ≡ false
        → Parsed σ (suc m) n (one n nil)
    close_parsed σ z o a other =
        record { close = z; left = m; nested = w_close n o; counts = omega arith; single = λ d. rw (o, other); after = a }

    uif_parsed : (σ : List Open) → op n ≡ UIF → Accepted m (suc n) (open_uif ∷ σ) → Parsed σ (suc m) n (item op UIF (list_at op N) n)
    uif_parsed σ o a = on (ih m (suc n) (open_uif ∷ σ) (omega arith) ends a)
      where
        p : Items
        p = list_at op N (suc n)

        q : Items
        q = list_at op N (suc n + size p)

        on : Parsed (open_uif ∷ σ) m (suc n) p → Parsed σ (suc m) n (item op UIF (list_at op N) n)
        on first = part first.after
          where
            part : After (open_uif ∷ σ) first.close first.left (suc n + size p) → Parsed σ (suc m) n (item op UIF (list_at op N) n)
            part (inl u) =
                let w : WF op (context at_else (open_uif ∷ σ)) p (suc n) = rw u.0 at first.nested in
                let second : Parsed (open_else ∷ σ) first.left (suc n + size p) q
                = ih first.left (suc n + size p) (open_else ∷ σ) (omega (arith, first.counts)) (omega (arith, first.counts)) u.1 in
                let w' : WF op (context at_endif (open_else ∷ σ)) q (suc n + size p) = rw second.after.0 at second.nested in
                rw (last_closes op _ p (suc n) (n + size p) w (omega arith))
                (extend σ (suc m) n (suc n + size p + size q) second.left _ _
                (ih second.left (suc n + size p + size q) σ (omega (arith, first.counts, second.counts))
                (omega (arith, first.counts, second.counts)) second.after.1)
                (λ z w''. w_uif n o w w' w'') (omega arith) (omega (arith, first.counts, second.counts)) (λ e. e))
            part (inr u) =
                let w : WF op (context at_endif (open_uif ∷ σ)) p (suc n) = rw u.0 at first.nested in
                rw (last_closes op _ p (suc n) (n + size p) w (omega arith), add-zero (suc n + size p))
                (extend σ (suc m) n (suc n + size p) first.left _ _
                (ih first.left (suc n + size p) σ (omega (arith, first.counts)) (omega (arith, first.counts)) u.1)
                (λ z w'. w_uif1 n o w w') (omega arith) (omega (arith, first.counts)) (λ e. e))

    loop_parsed : (σ : List Open)
        → op n ≡ BGNLOOP
        → Accepted m (suc n) (open_loop ∷ σ)
        → Parsed σ (suc m) n (item op BGNLOOP (list_at op N) n)
    loop_parsed σ o a =
        let l : Items = list_at op N (suc n) in
        let body : Parsed (open_loop ∷ σ) m (suc n) l = ih m (suc n) (open_loop ∷ σ) (omega arith) ends a in
        let w : WF op (context at_endloop (open_loop ∷ σ)) l (suc n) = rw body.after.0 at body.nested in
        extend σ (suc m) n (suc n + size l) body.left _ _
        (ih body.left (suc n + size l) σ (omega (arith, body.counts)) (omega (arith, body.counts)) body.after.1)
        (λ z w'. w_loop n o w w') (omega arith) (omega (arith, body.counts)) (λ e. e)

    switch_parsed : (σ : List Open)
        → op n ≡ SWITCH
        → Accepted m (suc n) (open_switch [] false ∷ σ)
        → Parsed σ (suc m) n (item op SWITCH (list_at op N) n)
    switch_parsed σ o a =
        let l : Items = list_at op N (suc n) in
        let body : Parsed (open_switch [] false ∷ σ) m (suc n) l = ih m (suc n) _ (omega arith) ends a in
        let w : WF op (context at_endswitch (open_switch [] false ∷ σ)) l (suc n) = rw body.after.0 at body.nested in
        extend σ (suc m) n (suc n + size l) body.left _ _
        (ih body.left (suc n + size l) σ (omega (arith, body.counts)) (omega (arith, body.counts)) body.after.1)
        (λ z w'. w_switch n o w w') (omega arith) (omega (arith, body.counts)) (λ e. e)

    -- One instruction of an accepted program.
    instruction : (o : Op) (σ : List Open)
        → op n ≡ o
        → nesting_rule o σ ≡ true
        → switch_rule o (value n) σ ≡ true
        → cond (is END o) (eqb m 0) (accepts op value m (suc n) (open_after o (value n) σ)) ≡ true
        → Parsed σ (suc m) n (item op o (list_at op N) n)
    instruction PLAIN σ o nests switches a = plain_parsed σ (λ z later. rw o tt) (rw o) a
    instruction BRK σ o nests switches a = plain_parsed σ (λ z later. rw o nests) (rw o) a
    instruction CONT σ o nests switches a = plain_parsed σ (λ z later. rw o nests) (rw o) a
    instruction UIF σ o nests switches a = uif_parsed σ o a
    instruction BGNLOOP σ o nests switches a = loop_parsed σ o a
    instruction SWITCH σ o nests switches a = switch_parsed σ o a
    instruction CASE (open_switch values stood ∷ σ) o nests switches a = case_parsed values (value n ∷ values) stood σ o a
    instruction CASE [] o nests switches a = absurd (false≢true nests)
    instruction CASE (open_uif ∷ σ) o nests switches a = absurd (false≢true nests)
    instruction CASE (open_else ∷ σ) o nests switches a = absurd (false≢true nests)
    instruction CASE (open_loop ∷ σ) o nests switches a = absurd (false≢true nests)
    instruction DEFAULT (open_switch values false ∷ σ) o nests switches a = default_parsed values σ o a
    instruction DEFAULT (open_switch values true ∷ σ) o nests switches a = absurd (false≢true switches)
    instruction DEFAULT [] o nests switches a = absurd (false≢true nests)
    instruction DEFAULT (open_uif ∷ σ) o nests switches a = absurd (false≢true nests)
    instruction DEFAULT (open_else ∷ σ) o nests switches a = absurd (false≢true nests)
    instruction DEFAULT (open_loop ∷ σ) o nests switches a = absurd (false≢true nests)
    instruction ELSE (open_uif ∷ σ) o nests switches a = close_parsed (open_uif ∷ σ) at_else o (inl (refl, rw (add-one n) a)) refl
    instruction ELSE [] o nests switches a = absurd (false≢true nests)
    instruction ELSE (open_else ∷ σ) o nests switches a = absurd (false≢true nests)
    instruction ELSE (open_loop ∷ σ) o nests switches a = absurd (false≢true nests)
    instruction ELSE (open_switch values stood ∷ σ) o nests switches a = absurd (false≢true nests)
    instruction ENDIF (open_uif ∷ σ) o nests switches a = close_parsed (open_uif ∷ σ) at_endif o (inr (refl, rw (add-one n) a)) refl
    instruction ENDIF (open_else ∷ σ) o nests switches a = close_parsed (open_else ∷ σ) at_endif o (refl, rw (add-one n) a) refl
    instruction ENDIF [] o nests switches a = absurd (false≢true nests)
    instruction ENDIF (open_loop ∷ σ) o nests switches a = absurd (false≢true nests)
    instruction ENDIF (open_switch values stood ∷ σ) o nests switches a = absurd (false≢true nests)
    instruction ENDLOOP (open_loop ∷ σ) o nests switches a = close_parsed (open_loop ∷ σ) at_endloop o (refl, rw (add-one n) a) refl
    instruction ENDLOOP [] o nests switches a = absurd (false≢true nests)
    instruction ENDLOOP (open_uif ∷ σ) o nests switches a = absurd (false≢true nests)
    instruction ENDLOOP (open_else ∷ σ) o nests switches a = absurd (false≢true nests)
    instruction ENDLOOP (open_switch values stood ∷ σ) o nests switches a = absurd (false≢true nests)
    instruction ENDSWITCH (open_switch values stood ∷ σ) o nests switches a =
        close_parsed (open_switch values stood ∷ σ) at_endswitch o (refl, rw (add-one n) a) refl
    instruction ENDSWITCH [] o nests switches a = absurd (false≢true nests)
    instruction ENDSWITCH (open_uif ∷ σ) o nests switches a = absurd (false≢true nests)
    instruction ENDSWITCH (open_else ∷ σ) o nests switches a = absurd (false≢true nests)
    instruction ENDSWITCH (open_loop ∷ σ) o nests switches a = absurd (false≢true nests)
    instruction END [] o nests switches a = close_parsed [] at_end o (refl, eqb→eq m 0 (rw a tt)) refl
    instruction END (x ∷ σ) o nests switches a = absurd (false≢true (sym (eqb-suc-zero (length σ)) ∙ nests))

  parses_more : (most : ℕ) → Parses most → Parses (suc most)
  unfolding accepts
  parses_more most ih zero n σ h ends a = absurd (false≢true a)
  parses_more most ih (suc m) n σ h ends a =
      let u : (nesting_rule (op n) σ ≡ true) × (switch_rule (op n) (value n) σ ≡ true)
      × (cond (is END (op n)) (eqb m 0) (accepts op value m (suc n) (open_after (op n) (value n) σ)) ≡ true)
      = ruled (nesting_rule (op n) σ) (switch_rule (op n) (value n) σ) (opens (op n) && leb most_open (length σ))
      (open_after (op n) (value n) σ) _ a in
      rw (list_item op N n (omega arith))
      (instruction m n (λ m' n' σ' h'. ih m' n' σ' (omega arith)) (omega arith) (op n) σ refl u.0 u.1 u.2)

  parses : (most : ℕ) → Parses most
  parses zero m n σ h ends a = absurd (omega arith)
  parses (suc most) m n σ h ends a = parses_more most (parses most) m n σ h ends a

  -- An accepted program is a well nested list of N instructions.
  pub program_nested : accepts op value N 0 [] ≡ true → WF op program (nested_lists op N) 0 × (size (nested_lists op N) ≡ N)
  program_nested a =
      let r : Parsed [] N 0 (nested_lists op N) = parses (suc N) N 0 [] (omega arith) (omega arith) a in
      let w : WF op (context at_end []) (nested_lists op N) 0 = rw r.after.0 at r.nested in
      (w, omega (arith, r.counts, r.after.1))
