-- What the owner of a lock knows of it at its end.
use Rattle.std.specs.Prelude.{◌≡◌, ℕ, List}
use mathlib.Core.List.{[], ◌∷◌, IsPrefix}
use base.Fml.{Fml}
use denote.Builtin.{usize}
use denote.RattleType.{RattleType}
use denote.Struct.Tuple.{Tuple}
use Rattle.spin_core.specs.Cell.{writers_of}
use Rattle.spin_core.specs.Known as core
use Rattle.spin_core.specs.Own.{Numbered}
use Rattle.spin_core.specs.Values.{IsLast}
use Rattle.spin_core.specs.declared.tie.Opening.{Opening}
use Rattle.spin_core.specs.declared.trace.Trace.{Trace}
use Rattle.spin_core.specs.declared.trace.Watch.{Watch}
use Rattle.spin_step.specs.Acts.{Table}
use Rattle.spin_step.specs.Schedules.{Entry}
use Rattle.spin_step.specs.declared.answer.Answer.{Answer}
use Rattle.spin_step.specs.declared.place.Seat.{Seat}
use Rattle.spin_step.specs.contracts.schedule.Move as move
use Rattle.spin_session.specs.Meaning.{Meaning, Beside, RunsOn, use_of_party}
use Rattle.spin_session.specs.Turns.{SeatSpot, Calls, history, lock_of, new_in}

-- The whole history of this lock is a schedule of its model that leads to the lock's words and to these parties. Unless
-- one of them still writes the value, the value is the one written last.
abbrev pub Ends : {W V C L S : Type 0} → (ℕ → V → Table W V C L (Answer V)) → Meaning C L → Beside S → Opening V
    → V × Trace (Entry C V) S → Type 0
Ends {C = C} {L = L} t s k opening end =
    (word : ℕ) × (parties : List (Numbered (Seat C L))) × RunsOn t s k opening word end.1 parties
    × (writers_of (use_of_party s) parties ≡ 0 → IsLast opening end.1.entries end.0)

-- The same where no party still writes the value: the value is the one written last.
abbrev pub Settles : {W V C L S : Type 0} → (ℕ → V → Table W V C L (Answer V)) → Meaning C L → Beside S → Opening V
    → V × Trace (Entry C V) S → Type 0
Settles t s k opening end = Ends t s k opening end × IsLast opening end.1.entries end.0

module _ {V C L : Type 0} where
  -- the watch knows of the lock's history what the pass knows
  abbrev pub Recalls : SeatSpot V C L → Watch (Entry C V) → Type 0
  Recalls pass seen = (seen.name ≡ lock_of pass) × (seen.entries ≡ history pass)

  -- A new party of this lock has made exactly this call, with this answer. The watch knows what the party then knew.
  abbrev pub OneCall : {W : Type 0} → (ℕ → V → Table W V C L (Answer V)) → C → Answer (Unit {0}) → Opening V → Watch (Entry C V) → Type 0
  OneCall t call answer lock seen = (now : SeatSpot V C L) × Calls t call answer (new_in lock) now × Recalls now seen

  -- the whole history of the lock contains all that some pass knew which had done this
  abbrev pub Includes : {S : Type 0} → (SeatSpot V C L → Type 0) → Trace (Entry C V) S → Type 0
  Includes did whole = (pass : SeatSpot V C L) × did pass × IsPrefix (history pass) whole.entries

-- the type of an entry of a lock of values of type T, whose calls are of type C
abbrev pub entry : RattleType → RattleType → RattleType
entry C T = Tuple (usize ∷ move.the_row C T ∷ [])

-- what some watch of such a lock knew, of which this holds
abbrev pub known : (C T : RattleType) → (Watch (Entry C.Denot T.Denot) → Type 0) → Fml
known C T = core.known (entry C T)
