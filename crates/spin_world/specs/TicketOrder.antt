-- What users of a ticket lock may rely on: its tickets are in order, and their parties enter in turn.
use Rattle.spin_world.specs.Ticket.{TicketMachine}
use Rattle.spin_world_core.specs.Runs.{state_at}
use Rattle.spin_world_core.specs.Users.{IsCalling}
use Rattle.spin_world_core.specs.Users.{seen_at}
use Rattle.spin_world_core.specs.Runs.{Schedule}
use Rattle.std.specs.Prelude.{◌≡◌, ℕ, ◌+◌, ◌<◌, ◌↔◌, Bool, true, false, Option, Some, None, List, [], ◌∷◌, ◌++◌, slice_get}
use Rattle.spin_step.specs.Plain.{Plain, ticket, ticket_limit, to_take_and_enter, Change, serves, next_word, serving_word}
use Rattle.spin_step.specs.Parties.{Entries, entries, no_entries, first_alone_entered}
use Rattle.spin_step.specs.Tickets.{HasTicketNumbers}
use Rattle.spin_step.specs.declared.answer.Answer.TheVariants.{Granted}
use Rattle.spin_step.specs.declared.place.Hold.{Hold}
use Rattle.spin_step.specs.declared.place.Hold.TheVariants as hold
use Rattle.spin_step.specs.declared.place.Seat.TheVariants.{Holding}
use Rattle.spin_step.specs.declared.schedule.Move.TheVariants.{Step}
use Rattle.spin_step.specs.declared.schedule.Outcome.TheVariants.{GoingOn, Answered}
use Rattle.spin_step.specs.declared.ticket_calls.TicketCall.{TicketCall}
use Rattle.spin_step.specs.declared.ticket_calls.TicketPoint.{TicketPoint}
use Rattle.spin_step.specs.declared.ticket_calls.TicketWords.{TicketWords}
use Rattle.spin_step.specs.Calls.{AnyOf, Mark}
use Rattle.spin_step.specs.Machines.{Machine}
use Rattle.spin_world_core.specs.Runs.{Seen, own_count}
use Rattle.spin_world_core.specs.Users.{outcome_after, steps_made}
use Rattle.spin_world_core.specs.Order.{tries_of}

-- by this plain step the first ticket leaves the queue
abbrev pub serves_one : Change → Bool
serves_one change = elim change [ serves p ↦ true | _ ↦ false ]

-- how many tickets leave the queue in the events of these entries
abbrev pub tickets_gone : {W V C L A : Type 0} → Machine W V C L A → Seen W V C L → Schedule C V → ℕ
tickets_gone m seen es = steps_made serves_one m seen es

-- The words w and the plain lock s of a ticket lock agree. The tickets have all numbers from the served one to the
-- last one taken, and only the first ticket may have entered.
pub record TicketsInOrder (w : TicketWords) (s : Plain) : Type 0 where
  pub next : w.next ≡ next_word s
  pub serving : w.serving ≡ serving_word s
  pub numbered : HasTicketNumbers s
  pub one_entered : first_alone_entered s.tickets ≡ true

-- the entries, in the lists of the plain lock, of a party that waits with the ticket t: the ticket has not entered,
-- and the party has nothing else
abbrev pub waits_with : ℕ → ℕ → Entries
waits_with p t = record no_entries { tickets = ticket p t false ∷ [] }

-- Let s be the number served after `past`. The schedule then continues by `further`.
pub record InTurn {V : Type 0} (m : TicketMachine V) (n : ℕ) (past further : Schedule TicketCall V) : Type 0 where
  -- the next step of a party that waits with the ticket t answers `Granted` exactly if t - s tickets have left the queue in `further`
  pub enters : (p t : ℕ) (c : TicketCall) (l : TicketPoint) (h : Option Hold) → IsCalling m n (past ++ further) p c l h
      → entries p (seen_at m n (past ++ further)).plain ≡ waits_with p t
      → (outcome_after m n (past ++ further) p Step ≡ Answered Granted None)
      ↔ ((state_at m n past).words.serving + tickets_gone m (seen_at m n past) further ≡ t)
  -- if a party holds with the ticket t, then t - s tickets have left the queue in `further`
  pub holds : (p t : ℕ) → slice_get (state_at m n (past ++ further)).seats p ≡ Some (Holding (hold.Ticket t))
      → (state_at m n past).words.serving + tickets_gone m (seen_at m n past) further ≡ t

-- before some step of the party in this span, k was the next number
abbrev pub FoundNext : ℕ → ℕ → List Mark → Type 0
FoundNext p k span = AnyOf (λ m. (m.party ≡ p) × (next_word m.before ≡ k)) span

-- A try does not end at its first step. It does not end at its second step if the next number that it found is served
-- now, and is below the limit of the numbers.
abbrev pub TriesByTwoLoads : {V : Type 0} → TicketMachine V → ℕ → Schedule TicketCall V → Type 0
TriesByTwoLoads m n past = let seen = seen_at m n past in
    (p : ℕ) (c : TicketCall) (l : TicketPoint) (h : Option Hold) → IsCalling m n past p c l h → tries_of (m.asks c h) ≡ Some to_take_and_enter
    → (own_count p (seen.span p) ≡ 0 → outcome_after m n past p Step ≡ GoingOn)
    × (own_count p (seen.span p) ≡ 1 → FoundNext p (serving_word seen.plain) (seen.span p) → serving_word seen.plain < ticket_limit → outcome_after m n past p Step ≡ GoingOn)
