-- What kind of lock the seats are: the word, the plain steps that it makes, and its calls.
use Rattle.std.specs.Prelude.{ℕ, ◌==◌, ◌&&◌, ◌||◌, Bool, true, false, not, [], Option, is_some, List, ◌∷◌}
use Rattle.std.specs.List.{list_any}
use Rattle.spin_step.specs.Plain.{reading, to_read, Change, gets, releases, flag_word, is_open_to}
use Rattle.spin_step.specs.declared.place.Hold.{Hold}
use Rattle.spin_step.specs.Calls.{Asked, LockKind, Mark, usual, granted, refused, never, got, means}
use Rattle.spin_step.specs.Asks.{counts_readers, gives_back, is_read, looks_and_tries, tries_in, waits}

-- whether this is a plain step of the seats: a party takes a seat (becomes a reader), or frees it (releases as one)
abbrev pub seats_plain_steps : Change → Bool
seats_plain_steps (gets p to_read) = true
seats_plain_steps (releases p reading) = true
seats_plain_steps _ = false

-- at this mark all seats are taken, or another party takes or frees one
abbrev pub hinders : ℕ → Mark → Bool
hinders p m = not (is_open_to m.before p to_read) || (not (m.party == p) && is_some m.change)

-- A try of two steps. If it is refused, all seats are taken at some moment of the call, or another party takes or frees a
-- seat during the call.
abbrev pub tries_once : Asked
tries_once = record (tries_in 2 to_read) {
  answers = λ said. elim said [
    | granted ↦ got to_read
    | refused ↦ means (λ p. [] ∷ []) (λ p span. list_any (hinders p) span)
    | _ ↦ never
  ];
}

abbrev pub seats_calls : ℕ → Option Hold → List Asked
seats_calls n h = looks_and_tries to_read ∷ tries_once ∷ waits to_read ∷ counts_readers ∷ gives_back is_read h ∷ []

abbrev pub seats : LockKind
seats = usual flag_word [] seats_plain_steps seats_calls
