-- One stage of a reversal: bits that change places with those at a distance.
-- Assumes nothing.
use Rattle.std.specs.Prelude.{◌*◌, ◌+◌, ◌-◌, ◌^◌, ℕ, cond}
use Rattle.words.specs.Word.{bit, is_set, sum}

-- the word of w bits whose bit i is bit f i of a
abbrev pub picked : ℕ → ℕ → (ℕ → ℕ) → ℕ
picked w a f = sum w (λ i. bit a (f i) * 2 ^ i)

-- where bit i comes from: a bit of the mask from `distance` places above, any other from `distance` places below
abbrev pub origin : ℕ → ℕ → ℕ → ℕ
origin distance mask i = cond (is_set mask i) (i + distance) (i - distance)

-- the bits of the mask exchanged with those `distance` above them, where these are all the others: only so is it promised
unfoldable pub swapped : ℕ → ℕ → ℕ → ℕ → ℕ
swapped w a distance mask = picked w a (origin distance mask)
