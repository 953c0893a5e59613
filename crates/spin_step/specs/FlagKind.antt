-- What kind of lock a flag is: its word, the plain steps that it makes, and its calls.
use Rattle.std.specs.Prelude.{ℕ, Bool, true, false, [], Option, List, ◌∷◌}
use Rattle.spin_step.specs.Plain.{writing, to_write, Change, gets, releases, flag_word}
use Rattle.spin_step.specs.declared.place.Hold.{Hold}
use Rattle.spin_step.specs.Calls.{Asked, LockKind, usual}
use Rattle.spin_step.specs.Asks.{gives_back, is_write, looks, tries, tries_weakly, waits_to_write}

-- the plain steps of a flag; each of its holders writes
abbrev pub flag_plain_steps : Change → Bool
flag_plain_steps c = elim c [ gets p to_write ↦ true | releases p writing ↦ true | _ ↦ false ]

abbrev pub flag_calls : ℕ → Option Hold → List Asked
flag_calls n h = waits_to_write ∷ tries to_write ∷ tries_weakly to_write ∷ looks ∷ gives_back is_write h ∷ []

abbrev pub flag : LockKind
flag = usual flag_word [] flag_plain_steps flag_calls
