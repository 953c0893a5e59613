-- How a step function relates to the plain lock.
use Rattle.std.specs.Prelude.{◌≡◌, ℕ, Bool, true, false, Option, Some, None}
use Rattle.spin_step.specs.Plain.{Plain, Change, is_open, apply}

-- a flag as a number
abbrev pub bit : Bool → ℕ
bit true = 1
bit false = 0

-- What a step function returns for a word that encodes the state s: none if the step c is not open, otherwise the word of the next state.
abbrev pub Decides : Plain → Change → (Plain → ℕ) → Option ℕ → Type 0
Decides s c word None = is_open s c ≡ false
Decides s c word (Some w) = (is_open s c ≡ true) × (w ≡ word (apply s c))

-- the same for a function that always returns a word: if c is open, w is the word of the next state
abbrev pub GivesWord : Plain → Change → (Plain → ℕ) → ℕ → Type 0
GivesWord s c word w = is_open s c ≡ true → w ≡ word (apply s c)
