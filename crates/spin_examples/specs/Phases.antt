-- What a worker returns, and what the rounds of one run add up to.
use Rattle.std.specs.Prelude.{◌≡◌, ℕ, ◌*◌, ◌-◌, ◌^◌, ◌==◌, Bool, true, max, if◌then◌else◌}

-- a worker that has worked has nothing left to add
abbrev pub IsSpent : Bool → ℕ → Type 0
IsSpent worked amount = worked ≡ true → amount ≡ 0

-- a worker that has worked has one part of the book of its rounds, and has added nothing in a round to come
abbrev pub Fresh : Bool → ℕ → ℕ → Type 0
Fresh worked parts amount = worked ≡ true → (parts ≡ 1) × (amount ≡ 0)

-- so many workers, each with such a gain, share a book with so many parts, and bring that gain to a barrier for such groups
abbrev pub Planned : ℕ → ℕ → ℕ → ℕ → ℕ → Type 0
Planned workers gain parts group each = (parts ≡ workers) × ((max group 1 ≡ workers) × (each ≡ gain))

-- So many rounds each had this result: so the total is their sum, and the smallest is that result. Without a round the
-- smallest is the largest number of a `u64`.
abbrev pub Rounds : ℕ → ℕ → ℕ → ℕ → Type 0
Rounds rounds each total smallest = (total ≡ rounds * each) × (smallest ≡ (if rounds == 0 then 2 ^ 64 - 1 else each))
