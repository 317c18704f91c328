-- Memory by byte address (01, "Instruction corners"). Addresses are whole numbers, so that no sum of them wraps.
-- Assumes nothing.
use Rattle.std.specs.Prelude.{ℕ, ◌+◌, ◌*◌, ◌/◌, ◌%◌, cond, List, eqb, get_or, set}
use Rattle.destinations.specs.Destinations.{components, masked}

-- "A misaligned or outside word reads 0; its write is dropped." Outside the list `get_or` is 0 and `set` leaves it.
unfoldable pub loaded : List ℕ → ℕ → ℕ
loaded m a = cond (eqb (a % 4) 0) (get_or m (a / 4) 0) 0

unfoldable pub stored : List ℕ → ℕ → ℕ → List ℕ
stored m a w = cond (eqb (a % 4) 0) (set m (a / 4) w) m

-- "Word i of LOAD and STORE (component i; STORE's from src1) lies at address+4i, no wrapping of the sum." "LOAD and STORE touch
-- masked words only."
unfoldable pub loaded_from : List ℕ → ℕ → List ℕ
loaded_from m a = components (λ i. loaded m (a + 4 * i))

unfoldable pub stored_from : List ℕ → ℕ → ℕ → List ℕ → List ℕ
stored_from m a mask v = masked mask (λ i m. stored m (a + 4 * i) (get_or v i 0)) m
