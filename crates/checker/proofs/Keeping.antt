-- What is kept of a program after an immediate, whose four words stand behind those before it.
-- Assumes nothing.
use mathlib.Core.Path.{◌≡◌, refl, sym, ap, ◌∙◌}
use mathlib.Core.List.{List, ◌++◌}
use Prim.Native.Nat.{ℕ, zero, suc, ◌+◌, ◌-◌, ◌*◌, ◌<◌, ◌≤◌}
use native.Mathlib.Omega.{arith}
use native.Mathlib.Nat.{min-eq_left, zero-add, suc-add}
use lib.ListN.{length, take, drop, replicate, length-take, length-append}
use lib.Seq.{sets, sets-eq, length-sets, drop-drop, drop_at, take_at}
use Rattle.format.specs.Records.{size_at}
use Rattle.blocks.specs.Nesting.{Open}
use Rattle.checker.specs.Findings.{immediate_at, with_immediate}
use Rattle.checker.specs.Check.{program_seen}
use Rattle.checker.specs.Inner.Held.{Padded}
use Rattle.checker.specs.declared.program.Program.{Program}

pub count_words : (words : List ℕ) (n : ℕ) → n ≤ 256 → Padded n words → length (take (4 * n) words) ≡ 4 * n
count_words words n h s =
    let l : length words ≡ 1024 = s.all in
    length-take (4 * n) words ∙ min-eq_left (omega arith)

drop_zeros : (m k : ℕ) → drop k (replicate (k + m) 0) ≡ replicate {A = ℕ} m 0
drop_zeros m zero = rw (zero-add m)
drop_zeros m (suc k) = rw (suc-add k m) (drop_zeros m k)

-- Four words behind those of n immediates.
module _ (words vs : List ℕ) (n : ℕ) (many : length vs ≡ 4) (h : n < 256) (s : Padded n words) where
  laid : sets words (4 * n) vs ≡ take (4 * n) words ++ vs ++ drop (4 * n + 4) words
  laid =
      let l : length words ≡ 1024 = s.all in
      sets-eq vs words (4 * n) (omega arith) ∙ rw many refl

  front : length (take (4 * n) words ++ vs) ≡ 4 * (n + 1)
  front =
      let k : length (take (4 * n) words) ≡ 4 * n = count_words words n (omega arith) s in
      length-append (take (4 * n) words) vs ∙ omega arith

  words_more : take (4 * (n + 1)) (sets words (4 * n) vs) ≡ take (4 * n) words ++ vs
  words_more = ap (take (4 * (n + 1))) laid ∙ take_at (take (4 * n) words ++ vs) (drop (4 * n + 4) words) (4 * (n + 1)) front

  padded_more : Padded (n + 1) (sets words (4 * n) vs)
  padded_more =
      record {
        all = length-sets words (4 * n) vs ∙ s.all;
        rest =
            let e : 1024 - 4 * n ≡ 4 + (1024 - 4 * (n + 1)) = omega arith in
            ap (drop (4 * (n + 1))) laid
            ∙ drop_at (take (4 * n) words ++ vs) (drop (4 * n + 4) words) (4 * (n + 1)) front
            ∙ sym (drop-drop 4 (4 * n) words)
            ∙ ap (drop 4) (s.rest ∙ ap (λ (k : ℕ). replicate k 0) e)
            ∙ drop_zeros (1024 - 4 * (n + 1)) 4;
      }

pub padded_after : (words after file : List ℕ) (n at : ℕ) → after ≡ sets words (4 * n) (immediate_at file at) → Padded n words → n < 256 → Padded (n + 1) after
padded_after words after file n at e s h = rw e (padded_more words (immediate_at file at) n refl h s)

pub kept_immediate : (p : Program) (words after file : List ℕ) (at next : ℕ) (blocks : List Open)
    → after ≡ sets words (4 * p.immediates) (immediate_at file (at + 1))
    → Padded p.immediates words
    → p.immediates < 256
    → next ≡ at + size_at file at
    → program_seen (record { declared = p.declared; immediates = p.immediates + 1; inputs = p.inputs; constants = p.constants; start = next; instructions = p.instructions }) after blocks
    ≡ with_immediate (program_seen p words blocks) file at
unfolding with_immediate
kept_immediate p words after file at next blocks e s h n = rw (e, words_more words (immediate_at file (at + 1)) p.immediates refl h s, n)
