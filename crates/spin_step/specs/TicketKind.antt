-- What kind of lock a ticket lock is: its words, the plain steps that it makes, and its calls.
use Rattle.std.specs.Prelude.{ℕ, Bool, true, false, [], ◌∷◌, Option, List}
use Rattle.spin_step.specs.Plain.{to_take_ticket, to_enter, to_take_and_enter, Change, gets, serves, next_word, serving_word}
use Rattle.spin_step.specs.declared.place.Hold.{Hold}
use Rattle.spin_step.specs.Calls.{Asked, LockKind, usual}
use Rattle.spin_step.specs.Asks.{gives_back, is_ticket, looks, tries_in, waits_to_enter}

abbrev pub ticket_plain_steps : Change → Bool
ticket_plain_steps (gets p to_take_ticket) = true
ticket_plain_steps (gets p to_enter) = true
ticket_plain_steps (gets p to_take_and_enter) = true
ticket_plain_steps (serves p) = true
ticket_plain_steps _ = false

abbrev pub ticket_calls : ℕ → Option Hold → List Asked
ticket_calls n h = waits_to_enter ∷ tries_in 3 to_take_and_enter ∷ looks ∷ gives_back is_ticket h ∷ []

abbrev pub ticket : LockKind
ticket = usual next_word (serving_word ∷ []) ticket_plain_steps ticket_calls
