-- A name with `.part` after it: it stands at the front of the array, and is text as the name is.
-- Assumes nothing.
use Rattle.std.proofs.Common.{◌≡◌, ℕ, ◌+◌, ◌≤◌, List, ◌++◌, length, take, drop, refl, sym, ap, ◌∙◌, arith}
use Rattle.std.specs.Prelude.{Result, Ok, Err, IsOk, MatchResult}
use Rattle.std.specs.Str.{IsUtf8}
use Rattle.std.proofs.lemmas.Str.{IsUtf8-append}
use Rattle.std.proofs.lemmas.List.{take_at, length-append}
use Rattle.std.proofs.lemmas.List.Edits.{sets, sets-eq}
use Rattle.text.proofs.Stores.{sets_append}

-- What two puts after one another leave at the front; the second is of n bytes.
pub put_after : (zeros name ending given first last : List ℕ) (n : ℕ) → n ≡ length ending → length name + n ≤ length zeros
    → given ≡ name → first ≡ sets zeros 0 given → last ≡ sets first (length name) ending
    → take (length name + n) last ≡ name ++ ending
put_after zeros name ending given first last n of fits same one two =
    let both : List ℕ = name ++ ending in
    let size : length both ≡ length name + n = omega (arith, length-append name ending, of) in
    let place : length name ≡ 0 + length name = omega arith in
    let once : last ≡ sets zeros 0 both =
    two ∙ ap (λ (l : List ℕ). sets l (length name) ending) (one ∙ ap (sets zeros 0) same) ∙ ap (λ (p : ℕ). sets (sets zeros 0 name) p ending) place
    ∙ sym (sets_append zeros 0 name ending) in
    let there : last ≡ both ++ drop (0 + length both) zeros = once ∙ sets-eq both zeros 0 (omega (arith, size, fits)) in
    rw there (take_at both (drop (0 + length both) zeros) (length name + n) size)

-- Bytes that are text are read as text.
pub is_read : {A E : Type 0} → (bytes : List ℕ) (r : Result A E) (P : A → Type 0) (Q : E → Type 0) → IsUtf8 bytes
    → MatchResult r P (λ e. (¬ (IsUtf8 bytes)) × Q e) → IsOk r
is_read bytes (Ok x) P Q text cases = refl
is_read bytes (Err e) P Q text cases = absurd (cases.0 text)

-- A name that is text is text with its ending too.
pub ended_text : (name ending bytes : List ℕ) → IsUtf8 name → IsUtf8 ending → bytes ≡ name ++ ending → IsUtf8 bytes
ended_text name ending bytes text last is = rw is (IsUtf8-append name ending text last)
