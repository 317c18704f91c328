-- The texts that are the same are the equal ones.
-- Assumes nothing.
use Rattle.std.proofs.Common.{ℕ, ◌≡◌, true, List, refl}
use Rattle.std.proofs.lemmas.Slice.Eq.{bytes_eq-Decides}
use Rattle.text.specs.Parts.{same}

pub same_self : (a : List ℕ) → same a a ≡ true
same_self a = (bytes_eq-Decides a a).1 refl

pub same_equal : (a b : List ℕ) → same a b ≡ true → a ≡ b
same_equal a b = (bytes_eq-Decides a b).0
