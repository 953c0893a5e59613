-- What kind of lock a read-write lock is: its word, the plain steps that it makes, and its calls.
use Rattle.std.specs.Prelude.{ℕ, Bool, true, false, [], Option, List, ◌∷◌}
use Rattle.spin_step.specs.Plain.{reading, upgradable, to_read, to_read_upgradable, to_write, to_upgrade, to_upgrade_asked, Change, gets, releases, turns, rw_word}
use Rattle.spin_step.specs.declared.place.Hold.{Hold}
use Rattle.spin_step.specs.Calls.{Asked, LockKind, usual}
use Rattle.spin_step.specs.Asks.{counts_readers, counts_writers, gives_back, is_above_read, is_held_some, is_write, looks, looks_and_tries, spins_to_write, tries, tries_weakly, turns_to, waits, waits_to_upgrade}

abbrev pub rw_plain_steps : Change → Bool
rw_plain_steps (gets p to_read) = true
rw_plain_steps (gets p to_read_upgradable) = true
rw_plain_steps (gets p to_write) = true
rw_plain_steps (gets p to_upgrade) = true
rw_plain_steps (gets p to_upgrade_asked) = true
rw_plain_steps (releases p k) = true
rw_plain_steps (turns p k l) = true
rw_plain_steps _ = false

abbrev pub rw_calls : ℕ → Option Hold → List Asked
rw_calls n h =
    looks_and_tries to_read ∷ waits to_read ∷ looks_and_tries to_read_upgradable ∷ waits to_read_upgradable
    ∷ tries to_write ∷ tries_weakly to_write ∷ spins_to_write ∷ counts_readers ∷ counts_writers ∷ looks
    ∷ tries to_upgrade ∷ tries_weakly to_upgrade ∷ waits_to_upgrade
    ∷ turns_to is_above_read h reading ∷ turns_to is_write h upgradable ∷ gives_back is_held_some h ∷ []

abbrev pub rw : LockKind
rw = record (usual rw_word [] rw_plain_steps rw_calls) { spins_on_exchange = true }
