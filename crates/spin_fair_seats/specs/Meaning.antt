-- What the words and the points of fair seats are in the plain lock: who waits has a ticket, and who sits is a reader.
use Rattle.std.specs.Prelude.{ℕ, ◌≤◌, true, false, Option, Some, None}
use Rattle.spin_step.specs.Plain.{reading, ticket_limit}
use Rattle.spin_step.specs.declared.place.Hold.{Hold}
use Rattle.spin_step.specs.declared.place.Hold.TheVariants as hold
use Rattle.spin_core.specs.Views.{Part, idle, holds, queues}
use Rattle.spin_session.specs.Meaning.{Meaning}
use Rattle.spin_fair_seats.specs.FairSeats.{seats, fair_word, given_word}
use Rattle.spin_fair_seats.specs.declared.calls.FairSeatsCall.{FairSeatsCall}
use Rattle.spin_fair_seats.specs.declared.calls.FairSeatsCall.TheVariants.{Enter, TryEnter, Count}
use Rattle.spin_fair_seats.specs.declared.calls.FairSeatsPoint.{FairSeatsPoint}
use Rattle.spin_fair_seats.specs.declared.calls.FairSeatsPoint.TheVariants.{Take, Await, TryGiven, TryTake, CountGiven}

abbrev pub part_in_call : FairSeatsCall → FairSeatsPoint → Option Hold → Option Part
part_in_call Enter (Take k) None = Some idle
part_in_call Enter (Await t) None = Some (queues t false)
part_in_call TryEnter (TryGiven k) None = Some idle
part_in_call TryEnter (TryTake k) None = Some idle
part_in_call TryEnter (Await t) None = Some (queues t false)
part_in_call Count (CountGiven k) None = Some idle
part_in_call _ l h = None

abbrev pub part_with : Hold → Part
part_with h = elim h [ hold.Read ↦ holds reading | _ ↦ idle ]

abbrev pub fair_seats_meaning : ℕ → Meaning FairSeatsCall FairSeatsPoint
fair_seats_meaning n = record { cap = seats n; word = fair_word; second = given_word; bounds = λ w. w ≤ ticket_limit; shares = true; part = part_in_call; held = part_with }
