-- What `examine` answers is what the check comes to; and what a caller has of its answer.
-- Assumes nothing.
use mathlib.Core.Path.{◌≡◌, refl, sym, ap, ◌∙◌}
use mathlib.Core.List.{List, [], ◌++◌}
use Prim.Native.Nat.{ℕ, ◌-◌, ◌*◌, ◌≤◌}
use lib.ListN.{length, take, replicate, take-append-drop}
use Rattle.std.specs.Prelude.{Result, Ok, Err}
use Rattle.format.specs.declared.refusals.Refused.{Refused}
use Rattle.checker.specs.Findings.{Seen}
use Rattle.checker.specs.Check.{Outcome, accepted, refused, check_of, Told, told_of, program_seen, words_after, seen_of, Examined, examined_as, examined}
use Rattle.checker.specs.Inner.Held.{Padded, outcome}
use Rattle.checker.specs.declared.program.Program.{Program}
use Rattle.checker.proofs.Keeping.{count_words}

same_examined : (a b : Told) (s t : Seen) (g h : ℕ) (v w : List ℕ) → a ≡ b → s ≡ t → g ≡ h → v ≡ w
    → ◌≡◌ {A = Examined} (record { answer = a; program = s; given = g; words = v }) (record { answer = b; program = t; given = h; words = w })
same_examined a b s t g h v w ea es eg ew = cc

-- ---- The answer, return by return

module _ (words before file : List ℕ) where
  pub examined_accepted : (p : Program) → outcome (Ok p) words ≡ check_of file → Padded p.immediates words → p.immediates ≤ 256
      → examined_as (Ok p) words ≡ examined (check_of file) before
  examined_accepted p f padded few =
      let k : length (take (4 * p.immediates) words) ≡ 4 * p.immediates = count_words words p.immediates few padded in
      let w : words ≡ words_after (accepted (program_seen p words [])) before =
      sym (take-append-drop (4 * p.immediates) words)
      ∙ ap (λ (l : List ℕ). take (4 * p.immediates) words ++ l) (padded.rest ∙ ap (λ (m : ℕ). replicate (1024 - m) 0) (sym k)) in
      same_examined _ _ _ _ _ _ _ _ (ap told_of f) (ap seen_of f) (sym k ∙ ap (λ (o : Outcome). length (seen_of o).immediates) f) (w ∙ ap (λ (o : Outcome). words_after o before) f)

  pub examined_refused : (r : Refused ℕ) → outcome (Err r) words ≡ check_of file → examined_as (Err r) before ≡ examined (check_of file) before
  examined_refused r f = ap (λ (o : Outcome). examined o before) f

-- ---- What a caller has of it

outcome_by : (r : Result Program (Refused ℕ)) (words : List ℕ) (o : Outcome) → (examined_as r words).answer ≡ told_of o → (examined_as r words).program ≡ seen_of o
    → outcome r words ≡ o
outcome_by (Ok p) words (accepted s) e q = ap accepted q
outcome_by (Ok p) words (refused m k) e q = cc
outcome_by (Err r) words (accepted s) e q = cc
outcome_by (Err r) words (refused m k) e q = cc

module _ (r : Result Program (Refused ℕ)) (words before : List ℕ) (o : Outcome) (said : examined_as r words ≡ examined o before) where
  pub outcome_is : outcome r words ≡ o
  outcome_is = outcome_by r words o (ap (λ (x : Examined). x.answer) said) (ap (λ (x : Examined). x.program) said)

  pub words_are : words ≡ words_after o before
  words_are = words_by r ∙ ap (λ (x : Examined). x.words) said where
    words_by : (q : Result Program (Refused ℕ)) → words ≡ (examined_as q words).words
    words_by (Ok p) = refl
    words_by (Err e) = refl
