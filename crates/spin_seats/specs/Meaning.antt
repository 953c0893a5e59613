-- What the word and the points of a lock of seats are in the plain lock: a party with a seat is a reader, and the word is the number of readers.
use Rattle.std.specs.Prelude.{ℕ, ◌≤◌, true, Option, Some, None}
use Rattle.spin_step.specs.Plain.{reading}
use Rattle.spin_step.specs.declared.place.Hold.{Hold}
use Rattle.spin_step.specs.declared.place.Hold.TheVariants as hold
use Rattle.spin_core.specs.Views.{Part, idle, holds}
use Rattle.spin_session.specs.Meaning.{Meaning}
use Rattle.spin_seats.specs.Seats.{seats, seats_word}
use Rattle.spin_seats.specs.declared.calls.SeatsCall.{SeatsCall}
use Rattle.spin_seats.specs.declared.calls.SeatsCall.TheVariants.{TryEnter, TryEnterWeak, Enter}
use Rattle.spin_seats.specs.declared.calls.SeatsPoint.{SeatsPoint}

-- a party rests only in a call that takes a seat, and has none yet
abbrev pub part_in_call : SeatsCall → SeatsPoint → Option Hold → Option Part
part_in_call TryEnter l None = Some idle
part_in_call TryEnterWeak l None = Some idle
part_in_call Enter l None = Some idle
part_in_call _ l h = None

abbrev pub part_with : Hold → Part
part_with h = elim h [ hold.Read ↦ holds reading | _ ↦ idle ]

-- The bound on the word is the lock's own: a plain lock in order may have one holder even if its cap is 0.
abbrev pub seats_meaning : ℕ → Meaning SeatsCall SeatsPoint
seats_meaning n = record { cap = seats n; word = seats_word; second = λ s. 0; bounds = λ w. w ≤ seats n; shares = true; part = part_in_call; held = part_with }
