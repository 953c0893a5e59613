-- What kind of lock a barrier is: its words, the plain steps that it makes, which are arrivals, and its calls. Each of
-- its steps is a section under its own lock.
use Rattle.std.specs.Prelude.{ℕ, true, [], ◌∷◌, Option, List}
use Rattle.spin_step.specs.Plain.{count_word, generation_word}
use Rattle.spin_step.specs.declared.place.Hold.{Hold}
use Rattle.spin_step.specs.Calls.{Asked, LockKind, usual}
use Rattle.spin_step.specs.Asks.{is_arrival, meets}

abbrev pub barrier_calls : ℕ → Option Hold → List Asked
barrier_calls n h = meets ∷ []

abbrev pub barrier : LockKind
barrier = record (usual count_word (generation_word ∷ []) is_arrival barrier_calls) { steps_in_sections = true }
