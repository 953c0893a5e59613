-- The queue of tickets, whose numbers are consecutive up to the next number.
use Rattle.std.specs.Prelude.{◌≡◌, ℕ, suc, ◌≤◌, ◌+◌, ◌==◌, Bool, false, Option, Some, None, List, [], ◌∷◌, length, filter, if◌then◌else◌, nat_lt}
use Rattle.spin_step.specs.Plain.{Plain, Ticket, ticket, ticket_limit, Change, gets, serves, to_enter, to_sit, is_open, serving_word}

abbrev pub numbered_from : ℕ → List Ticket → Type 0
numbered_from k [] = Unit {0}
numbered_from k (t ∷ ts) = (t.number ≡ k) × numbered_from (suc k) ts

-- the tickets have the numbers from the served one to the last one taken, in order and without gaps
abbrev pub HasTicketNumbers : Plain → Type 0
HasTicketNumbers s = (length s.tickets ≤ s.next) × numbered_from (serving_word s) s.tickets

-- the same where the cap is 0; with a cap a party may leave the queue out of turn
abbrev pub KeepsNumbers : Plain → Type 0
KeepsNumbers s = (length s.tickets ≤ s.next) × (s.cap ≡ 0 → numbered_from (serving_word s) s.tickets)

-- Take a party whose one ticket has this number and has not entered. While `serving` is the served number, `turn` says
-- whether the plain lock lets this party enter.
abbrev pub IsTurn : ℕ → ℕ → Bool → Type 0
IsTurn serving number turn =
    (s : Plain) (party : ℕ) → HasTicketNumbers s → serving_word s ≡ serving → filter (λ t. t.party == party) s.tickets ≡ ticket party number false ∷ [] → is_open s (gets party to_enter) ≡ turn

-- The results of the step functions.

abbrev pub take : ℕ → Option ℕ
take next = if nat_lt next ticket_limit then Some (next + 1) else None

abbrev pub served : ℕ → ℕ
served number = number + 1

-- how many tickets a plain step removes
abbrev pub gone : Change → ℕ
gone (serves p) = 1
gone (gets p to_sit) = 1
gone _ = 0
