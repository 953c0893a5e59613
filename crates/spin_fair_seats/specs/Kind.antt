-- What kind of lock the fair seats are: the words, the plain steps that it makes, and its calls.
use Rattle.std.specs.Prelude.{ℕ, ◌+◌, ◌==◌, ◌&&◌, ◌||◌, Bool, true, false, not, [], Option, Some, None, List, ◌∷◌, length, min, nat_lt, nat_le, if◌then◌else◌}
use Rattle.std.specs.List.{list_any}
use Rattle.spin_step.specs.Plain.{Plain, ticket_limit, reading, to_take_ticket, to_sit, Change, gets, releases, next_word, is_open_to, is_holder}
use Rattle.spin_step.specs.declared.place.Hold.{Hold}
use Rattle.spin_step.specs.Calls.{Asked, LockKind, Mark, usual, granted, refused, counted, never, got, found, means, within, gets_within}
use Rattle.spin_step.specs.Asks.{a_call, gives_back, is_read, tries_in, waits}
use Rattle.spin_fair_seats.specs.FairSeats.{given_word}

abbrev pub fair_plain_steps : Change → Bool
fair_plain_steps (gets p to_take_ticket) = true
fair_plain_steps (gets p to_sit) = true
fair_plain_steps (releases p reading) = true
fair_plain_steps _ = false

-- how many seats are taken, or wait for a party that may sit down at once
abbrev pub taken : Plain → ℕ
taken s = min (length s.tickets + length s.holders) s.cap

-- a party that takes a ticket now may sit with it at once
abbrev pub is_free : Plain → Bool
is_free s = nat_lt s.next ticket_limit && nat_lt (length s.tickets + length s.holders) s.cap

-- The call takes a ticket within two steps, and one more for each change by others, or finds that none is left. Then it waits for its turn.
abbrev pub sits_in_turn : Asked
sits_in_turn = record (waits to_sit) {
  answers = λ said. elim said [ granted ↦ got to_sit | refused ↦ found (λ p s. not (is_open_to s p to_take_ticket)) | _ ↦ never ];
  limit = λ words. gets_within to_take_ticket 2;
  is_open_next = λ first k p s. if first then is_free s else (is_open_to s p to_sit || is_holder p reading s.holders);
  undisturbed_steps = 3;
}

abbrev pub takes_ticket : Option Change → Bool
takes_ticket (Some (gets p to_take_ticket)) = true
takes_ticket _ = false

-- at this mark each seat is taken or waited for, or no ticket is left; or another party takes a ticket
abbrev pub hinders : ℕ → Mark → Bool
hinders p m = not (is_free m.before) || (not (m.party == p) && takes_ticket m.change)

-- a try of four steps
abbrev pub tries_once : Asked
tries_once = record (tries_in 4 to_sit) {
  tries = None;
  answers = λ said. elim said [
    | granted ↦ got to_sit
    | refused ↦ means (λ p. [] ∷ []) (λ p span. list_any (hinders p) span)
    | _ ↦ never
  ];
}

-- at some moment at least so many seats were taken
abbrev pub counts_taken : Asked
counts_taken = record a_call {
  most = counted 0;
  answers = λ said. elim said [ counted n ↦ found (λ p s. nat_le n (taken s)) | _ ↦ never ];
  limit = λ words. within 2;
}

abbrev pub fair_calls : ℕ → Option Hold → List Asked
fair_calls n h = sits_in_turn ∷ tries_once ∷ counts_taken ∷ gives_back is_read h ∷ []

abbrev pub fair_seats : LockKind
fair_seats = usual next_word (given_word ∷ []) fair_plain_steps fair_calls
