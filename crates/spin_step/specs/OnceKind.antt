-- What kind of lock a `Once` is: its word, the plain steps that it makes, and its calls. A closure makes its value.
use Rattle.std.specs.Prelude.{ℕ, Bool, true, false, [], Option, List, ◌∷◌}
use Rattle.spin_step.specs.Plain.{to_begin, Change, gets, fails, once_word}
use Rattle.spin_step.specs.declared.place.Hold.{Hold}
use Rattle.spin_step.specs.Calls.{Asked, LockKind, usual}
use Rattle.spin_step.specs.Asks.{fails_to_initialize, initializes, looks_complete, looks_for_value, polls, waits_for_value}

abbrev pub once_plain_steps : Change → Bool
once_plain_steps c = elim c [ gets p to_begin ↦ true | fails p ↦ true | _ ↦ false ]

abbrev pub once_calls : ℕ → Option Hold → List Asked
once_calls n h = initializes ∷ fails_to_initialize ∷ waits_for_value ∷ polls ∷ looks_for_value ∷ looks_complete ∷ []

abbrev pub once : LockKind
once = record (usual once_word [] once_plain_steps once_calls) { makes_value = true }
