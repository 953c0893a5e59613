-- What kind of lock a fair lock is: its word, the plain steps that it makes, and its calls.
use Rattle.std.specs.Prelude.{Bool, true, false, [], ℕ, Option, Some, List, ◌∷◌}
use Rattle.spin_step.specs.Plain.{writing, to_lock_unregistered, to_lock_starving, to_lock_starving_alone, to_starve, Change, gets, releases, stops_starving, fair_word}
use Rattle.spin_step.specs.declared.place.Hold.{Hold}
use Rattle.spin_step.specs.declared.place.Hold.TheVariants.{Write, Starver}
use Rattle.spin_step.specs.Calls.{Asked, LockKind, usual}
use Rattle.spin_step.specs.Asks.{gives_back, is_registered, is_write, looks, looks_and_tries, tries, tries_in, tries_to_know, waits_or_starves, waits_starving}

abbrev pub fair_plain_steps : Change → Bool
fair_plain_steps (gets p to_lock_unregistered) = true
fair_plain_steps (gets p to_lock_starving) = true
fair_plain_steps (gets p to_lock_starving_alone) = true
fair_plain_steps (gets p to_starve) = true
fair_plain_steps (releases p writing) = true
fair_plain_steps (stops_starving p) = true
fair_plain_steps _ = false

abbrev pub fair_calls : ℕ → Option Hold → List Asked
fair_calls patience h =
    waits_or_starves patience ∷ tries to_lock_unregistered ∷ tries_to_know to_lock_unregistered ∷ looks
    ∷ looks_and_tries to_starve ∷ tries_in 2 to_lock_starving_alone ∷ tries_in 2 to_lock_starving ∷ waits_starving
    ∷ gives_back is_registered (Some Starver) ∷ gives_back is_write (Some Write) ∷ []

abbrev pub fair : LockKind
fair = usual fair_word [] fair_plain_steps fair_calls
