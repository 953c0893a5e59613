-- Which parties share the value, and which have leaked. While a party shares the value, the owner may not use it.
-- After the owner's use, the parties that have leaked are gone.
use Rattle.std.specs.Prelude.{Bool, true, false, not}
use Rattle.spin_step.specs.declared.place.Seat.{Seat}
use Rattle.spin_step.specs.declared.place.Seat.TheVariants.{Leaked}
use Rattle.spin_step.specs.Schedules.{yields_to_owner}

-- the party is in a call, or is holding (the lock, or only a registration as a starver)
abbrev pub shares : {C L : Type 0} → Seat C L → Bool
shares seat = not (yields_to_owner seat)

abbrev pub has_leaked : {C L : Type 0} → Seat C L → Bool
has_leaked seat = elim seat [ Leaked h ↦ true | _ ↦ false ]
