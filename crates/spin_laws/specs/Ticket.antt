-- Progress of a ticket lock: in how many rounds a `lock` is granted.
use Rattle.std.specs.Prelude.{◌≡◌, ℕ, ◌+◌, ◌-◌, ◌*◌, ◌<◌, ◌≤◌, true, false, Option, Some, None, List, length, slice_get, max}
use Rattle.spin_step.specs.Plain.{ticket_limit}
use Rattle.spin_step.specs.Machines.{Machine}
use Rattle.spin_step.specs.Schedules.{Entry, after, at_first}
use Rattle.spin_step.specs.declared.place.Hold.{Hold}
use Rattle.spin_step.specs.declared.place.Seat.TheVariants.{Calling}
use Rattle.spin_step.specs.declared.schedule.Move.{Move}
use Rattle.spin_step.specs.declared.ticket_calls.TicketCall.{TicketCall}
use Rattle.spin_step.specs.declared.ticket_calls.TicketPoint.{TicketPoint}
use Rattle.spin_world_core.specs.Joined.{joined}
use Rattle.spin_world_core.specs.Runs.{Seen}
use Rattle.spin_step.specs.Parties.{entries}
use Rattle.spin_laws.specs.Rounds.{occurs, AreRounds, InRounds, AtLast, grants_party}
use Rattle.spin_step.specs.declared.ticket_calls.TicketCall.TheVariants.{Lock}
use Rattle.spin_world.specs.Ticket.{TicketMachine}
use Rattle.spin_world.specs.TicketOrder.{waits_with}

-- the party waits with the ticket t
abbrev pub WaitsWith : {W V C L : Type 0} → ℕ → Seen W V C L → ℕ → C → Option Hold → Type 0
WaitsWith t seen p c h = entries p seen.plain ≡ waits_with p t

-- The number s is served, and a party waits with the ticket t. The party is granted the lock within 3 (t - s) + 1
-- rounds.
abbrev pub EntersInRounds : {V : Type 0} → TicketMachine V → ℕ → List (Entry TicketCall V) → List (List (Entry TicketCall V)) → Type 0
EntersInRounds m n past rounds =
    (t : ℕ) → InRounds m (WaitsWith t) (3 * (t - (after m (at_first m n) past).words.serving) + 1) (grants_party m) n past rounds

-- One of n parties is in a `lock`. This party is granted the lock within 3 n - 2 rounds (2 if n is 1). Each ticket
-- taken meanwhile adds one round, also the ticket of this party. At the end the next number has to be below the limit.
abbrev pub LocksInRounds : {V : Type 0} → TicketMachine V → ℕ → List (ℕ × Move TicketCall V) → List (List (ℕ × Move TicketCall V)) → Type 0
LocksInRounds m n past rounds =
    let s = after m (at_first m n) past in
    let end = after m s (joined rounds) in
    (p : ℕ) (c : TicketCall) (l : TicketPoint) (h : Option Hold) → slice_get s.seats p ≡ Some (Calling c l h) → (m.asks c h).waits ≡ true
    → AreRounds m s rounds → end.words.next < ticket_limit → max 2 (3 * n - 2) + (end.words.next - s.words.next) ≤ length rounds → occurs m (grants_party m p) s (joined rounds) ≡ true

-- Starvation freedom with a ticket: in an endless fair schedule a party that waits with its ticket is granted the lock
abbrev pub IsNeverStarved : {W V C L A : Type 0} → Machine W V C L A → ℕ → List (Entry C V) → (ℕ → Entry C V) → Type 0
IsNeverStarved m n past schedule = (t : ℕ) → AtLast m (WaitsWith t) (grants_party m) n past schedule

-- If others take tickets without end, no number of rounds is enough. Let r be such that r more tickets can be taken below
-- the limit. In some schedule of two parties, a party is in a `lock` for r rounds, and is not granted the lock.
abbrev pub MayBePassedOver : {V : Type 0} → TicketMachine V → ℕ → Type 0
MayBePassedOver {V} m first =
    (r : ℕ) → first + r < ticket_limit → (past : List (ℕ × Move TicketCall V)) × (rounds : List (List (ℕ × Move TicketCall V)))
    × (let s = after m (at_first m 2) past in
    (length rounds ≡ r) × ((l : TicketPoint) × (slice_get s.seats 0 ≡ Some (Calling Lock l None))) × AreRounds m s rounds × (occurs m (grants_party m 0) s (joined rounds) ≡ false))
