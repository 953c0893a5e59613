-- A run of a `Once` on threads, as a schedule of its object. In the object's table the name of a call says from the beginning whether its
-- closure fails. So if a closure fails later, the schedule begins its call under the name of a failing call. It leaves
-- out the move that reports the failure.
use Rattle.std.specs.Prelude.{ℕ, Bool, true, false, List, [], ◌∷◌, length, take, if◌then◌else◌, ◌==◌}
use Rattle.spin_core.specs.Own.{Numbered}
use Rattle.spin_step.specs.declared.once_calls.OnceCall.{OnceCall}
use Rattle.spin_step.specs.declared.once_calls.OnceCall.TheVariants.{TryCallOnceOk, TryCallOnceErr}
use Rattle.spin_step.specs.declared.place.Seat.TheVariants.{Idle, Calling}
use Rattle.spin_step.specs.declared.schedule.Move.TheVariants.{Begin, Weak}
use Rattle.spin_once.specs.OnceValues.{Made}
use Rattle.spin_once.specs.Once.{OneMove, View}

-- whether the closure of the party's call fails, by this move or (`later`) by a later one before another call begins
abbrev pub fails_by : OneMove → Bool → Bool
fails_by Weak later = true
fails_by (Begin c) later = false
fails_by _ later = later

-- whether the closure of the party's present call fails by these entries
abbrev pub will_fail : List Made → ℕ → Bool
will_fail [] p = false
will_fail (e ∷ es) p = if e.0 == p then fails_by e.1 (will_fail es p) else will_fail es p

-- the name that the object gives the call, by whether its closure fails
abbrev pub named : OnceCall (Unit {0}) → Bool → OnceCall (Unit {0})
named (TryCallOnceOk v) true = TryCallOnceErr
named c fails = c

-- the object's entry for this move, if it has one, followed by the entries for the later moves
abbrev pub told_earlier : ℕ → OneMove → Bool → List Made → List Made
told_earlier p (Begin c) fails later = (p, Begin (named c fails)) ∷ later
told_earlier p Weak fails later = later
told_earlier p move fails later = (p, move) ∷ later

abbrev pub foretold : List Made → List Made
foretold [] = []
foretold (e ∷ es) = told_earlier e.0 e.1 (will_fail es e.0) (foretold es)

-- where a party sits in the object; a party that reads has its answer, so it is idle there
abbrev pub place_of : View → View
place_of (Calling c l h) = Calling c l h
place_of _ = Idle

-- the party, with its place in the trace turned into a place in the object's schedule
abbrev pub counted : List Made → Numbered View → Numbered View
counted log v = (v.0, v.1, length (foretold (take v.2 log)))
