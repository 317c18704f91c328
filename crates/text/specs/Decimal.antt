-- Numbers as text: "all decimal, no leading zeros, single spaces" (document 02, W1).
-- Assumes nothing.
use Rattle.std.specs.Prelude.{ℕ, zero, suc, ◌+◌, ◌-◌, ◌*◌, ◌/◌, ◌%◌, cond, List, [], ◌∷◌, ◌++◌, ltb}

-- The byte of a digit: '0' is 48.
abbrev pub digit : ℕ → ℕ
digit d = 48 + d

-- The digits of n, if they are at most k: the last one after those of the tenth part.
unfoldable pub digits_within : ℕ → ℕ → List ℕ
digits_within zero n = []
digits_within (suc k) n =
    let more : List ℕ = digits_within k (n / 10) ++ (digit (n % 10) ∷ []) in
    cond (ltb n 10) (digit n ∷ []) more

-- A number n has at most n + 1 digits.
unfoldable pub decimal : ℕ → List ℕ
decimal n = digits_within (suc n) n

-- The number whose digits these are, after those of v. Over ℕ no length is too large.
unfoldable pub value_from : ℕ → List ℕ → ℕ
value_from v [] = v
value_from v (b ∷ bs) = value_from (10 * v + (b - 48)) bs

abbrev pub value_of : List ℕ → ℕ
value_of bytes = value_from 0 bytes
