-- The queue of a lock of tickets: as the queue of a plain lock, and as the numbers of the parties' tickets.
use Rattle.std.specs.Prelude.{◌≡◌, ℕ, ◌<◌, ◌≤◌, Bool, true, false, List, [], ◌∷◌, length, Some, None, filter, slice_get, count_by, ◌==◌}
use Rattle.spin_step.specs.Plain.{Plain, Ticket, ticket, ticket_limit, next_word, serving_word}
use Rattle.spin_step.specs.Parties.{first_alone_entered}
use Rattle.spin_step.specs.Tickets.{HasTicketNumbers}
use Rattle.spin_step.specs.declared.place.Hold.TheVariants as hold
use Rattle.spin_step.specs.declared.place.Seat.TheVariants.{Calling, Holding}
use Rattle.spin_step.specs.declared.ticket_calls.TicketCall.TheVariants.{Lock}
use Rattle.spin_step.specs.declared.ticket_calls.TicketPoint.TheVariants.{Await}
use Rattle.spin_mutex.specs.Queue.{View}

-- the ticket, if any, of a party in this seat
abbrev pub tickets_of : ℕ → View → List Ticket
tickets_of id (Calling Lock (Await n) None) = ticket id n false ∷ []
tickets_of id (Holding (hold.Ticket n)) = ticket id n true ∷ []
tickets_of id _ = []

-- The words are those of this plain lock. Each party has just the ticket that its seat names, and nobody else has
-- one.
pub record IsPlainQueue (s : Plain) (next serving : ℕ) (vs : List View) : Type 0 where
  pub next_is : next ≡ next_word s
  pub serving_is : serving ≡ serving_word s
  pub numbered : HasTicketNumbers s
  pub one_entered : first_alone_entered s.tickets ≡ true
  pub parties : (id : ℕ) (v : View) → slice_get vs id ≡ Some v → filter (λ t. t.party == id) s.tickets ≡ tickets_of id v
  pub nobody_else : (id : ℕ) → length vs ≤ id → filter (λ t. t.party == id) s.tickets ≡ []

-- whether a party in this seat has the ticket `t`
abbrev pub stands_with : ℕ → View → Bool
stands_with t (Calling Lock (Await n) None) = n == t
stands_with t (Holding (hold.Ticket n)) = n == t
stands_with t _ = false

-- Each number from the served one up to the last one taken is the ticket of one party. No party but the one with the
-- served number has entered.
pub record IsInTurn (next serving : ℕ) (vs : List View) : Type 0 where
  pub in_order : serving ≤ next
  pub within_limit : next ≤ ticket_limit
  pub one_each : (t : ℕ) → serving ≤ t → t < next → count_by (stands_with t) vs ≡ 1
  pub none_served : (t : ℕ) → t < serving → count_by (stands_with t) vs ≡ 0
  pub none_untaken : (t : ℕ) → next ≤ t → count_by (stands_with t) vs ≡ 0
  pub in_turn : (id t : ℕ) → slice_get vs id ≡ Some (Holding (hold.Ticket t)) → t ≡ serving
