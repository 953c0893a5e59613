-- The plain lock of fair seats: its holders read, and its tickets wait in the order of their numbers. A ticket's party may sit if the holders,
-- with the tickets before it, are fewer than the seats.
use Rattle.std.specs.Prelude.{ℕ, zero, suc, ◌+◌, ◌-◌, ◌==◌, ◌&&◌, Bool, true, List, [], ◌∷◌, length, min, nat_lt, nat_le, if◌then◌else◌}
use Rattle.spin_step.specs.Plain.{Plain, Ticket, reading, count_kind}

-- the most seats that a lock may have, usize::MAX / 8
abbrev pub seat_limit : ℕ
seat_limit = 2305843009213693951

abbrev pub seats : ℕ → ℕ
seats n = min n seat_limit

-- the second word: how many seats were given back; each other party that took a ticket waits or sits
abbrev pub given_word : Plain → ℕ
given_word s = s.next - (length s.tickets + length s.holders)

-- after so many seats were given back, the party with ticket t may sit on one of n seats
abbrev pub may_sit : ℕ → ℕ → ℕ → Bool
may_sit n t given = nat_lt (t - given) (seats n)

-- the first k tickets have numbers below n, and the others have the numbers from n on
abbrev pub in_turn : ℕ → ℕ → List Ticket → Bool
in_turn k n [] = true
in_turn zero n (t ∷ ts) = (t.number == n) && in_turn zero (suc n) ts
in_turn (suc k) n (t ∷ ts) = nat_lt t.number n && in_turn k n ts

-- what holds of the plain lock beside what holds of every one (`IsInOrder`)
abbrev pub is_fair : Plain → Bool
is_fair s =
    nat_le (length s.tickets + length s.holders) s.next && ((count_kind reading s.holders == length s.holders)
    && (nat_le (length s.holders) s.cap && in_turn (s.cap - length s.holders) (given_word s + s.cap) s.tickets))

-- The first word: the number of the next ticket. A `Meaning` has no place for `is_fair`. So a plain lock that is not fair has a word that no
-- lock has.
unfoldable pub fair_word : Plain → ℕ
fair_word s = if is_fair s then s.next else 18446744073709551616
