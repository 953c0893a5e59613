-- The plain lock of seats: its holders all read, and its cap is the number of seats. Its word is the number of holders.
use Rattle.std.specs.Prelude.{◌≡◌, ℕ, ◌+◌, ◌-◌, Option, Some, None, length, min, nat_lt, if◌then◌else◌}
use Rattle.spin_step.specs.Plain.{Plain, reading, count_kind}

-- the most seats that a lock may have, usize::MAX / 8
abbrev pub seat_limit : ℕ
seat_limit = 2305843009213693951

-- the number of seats of a lock that was made for n
abbrev pub seats : ℕ → ℕ
seats n = min n seat_limit

abbrev pub seats_word : Plain → ℕ
seats_word s = length s.holders

abbrev pub AllRead : Plain → Type 0
AllRead s = count_kind reading s.holders ≡ length s.holders

-- the word after a party has taken a seat, if one is free
abbrev pub entered : ℕ → ℕ → Option ℕ
entered n w = if nat_lt w (seats n) then Some (w + 1) else None

-- the word after a party has freed its seat
abbrev pub freed : ℕ → ℕ
freed w = w - 1
