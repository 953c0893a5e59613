-- What each call of the objects here promises.
use Rattle.std.specs.Prelude.{ℕ, ◌==◌, ◌&&◌, ◌||◌, Bool, true, false, not, nat_le, Option, Some, None, is_none, List, [], ◌∷◌, if◌then◌else◌}
use Rattle.std.specs.List.{list_any}
use Rattle.std.specs.Option.{option_map_or}
use Rattle.spin_step.specs.Plain.{Plain, Kind, reading, upgradable, asking, writing, Ask, to_write, to_upgrade, to_upgrade_asked, to_take_ticket, to_enter, to_take_and_enter, to_lock_unregistered, to_lock_starving, to_lock_starving_alone, to_begin, Change, gets, releases, serves, stops_starving, turns, completes, fails, arrives, is_open_to, is_empty, is_first, is_holder, is_nothing, is_complete}
use Rattle.spin_step.specs.Parties.{is_held}
use Rattle.spin_step.specs.Barriers.{may_leave_at, is_leading, filled_by}
use Rattle.spin_step.specs.declared.place.Hold.{Hold}
use Rattle.spin_step.specs.declared.place.Hold.TheVariants.{Read, Upgradable, Write, Ticket, Starver}
use Rattle.spin_step.specs.Calls.{Said, granted, refused, locked, starved, done, tells, counted, gives_value, has_no_value, failed, leads, follows, Mark, unlimited, within, within_changes, gets_within, changes_within, registers_after, Sense, never, got, got_or_starved, found, means, is_for, makes, is_starved, readers, writers, Asked}

-- What a party holds.

abbrev pub is_one_of : (Hold → Bool) → Option Hold → Bool
is_one_of may held = option_map_or may held false

abbrev pub is_read : Hold → Bool
is_read hold = elim hold [ Read ↦ true | _ ↦ false ]

abbrev pub is_upgradable : Hold → Bool
is_upgradable hold = elim hold [ Upgradable ↦ true | _ ↦ false ]

abbrev pub is_write : Hold → Bool
is_write hold = elim hold [ Write ↦ true | _ ↦ false ]

abbrev pub is_ticket : Hold → Bool
is_ticket hold = elim hold [ Ticket t ↦ true | _ ↦ false ]

abbrev pub is_registered : Hold → Bool
is_registered hold = elim hold [ Starver ↦ true | _ ↦ false ]

abbrev pub is_above_read : Hold → Bool
is_above_read hold = is_upgradable hold || is_write hold

abbrev pub is_held_some : Hold → Bool
is_held_some hold = is_read hold || is_above_read hold

-- A party that holds this may ask this. Only an upgradable reader upgrades, and only a starver locks or tries as a
-- starver. To ask anything else a party must hold nothing.
abbrev pub suits : Ask → Option Hold → Bool
suits to_upgrade = is_one_of is_upgradable
suits to_upgrade_asked = is_one_of is_upgradable
suits to_lock_starving = is_one_of is_registered
suits to_lock_starving_alone = is_one_of is_registered
suits _ = is_none

-- Plain steps.

-- the plain steps by which a party releases what it holds
abbrev pub let_go_of : ℕ → Option Hold → List Change
let_go_of p None = []
let_go_of p (Some Read) = releases p reading ∷ []
let_go_of p (Some Upgradable) = releases p upgradable ∷ []
let_go_of p (Some Write) = releases p writing ∷ []
let_go_of p (Some (Ticket t)) = serves p ∷ []
let_go_of p (Some Starver) = stops_starving p ∷ []

abbrev pub turn_to : ℕ → Option Hold → Kind → List Change
turn_to p (Some Write) kind = turns p writing kind ∷ []
turn_to p (Some Upgradable) kind = turns p upgradable kind ∷ []
turn_to p _ kind = []

abbrev pub is_completion : Change → Bool
is_completion change = elim change [ completes p ↦ true | _ ↦ false ]

abbrev pub is_failure : Change → Bool
is_failure change = elim change [ fails p ↦ true | _ ↦ false ]

abbrev pub is_arrival : Change → Bool
is_arrival change = elim change [ arrives p ↦ true | _ ↦ false ]

-- What holds at a moment of a call.

abbrev pub same : Bool → Bool → Bool
same a b = elim a [ true ↦ b | false ↦ not b ]

-- at this mark the party arrives; `leading` says whether it fills its group
abbrev pub arrives_leading : ℕ → Bool → Mark → Bool
arrives_leading p leading m = makes p is_arrival m && same leading (is_leading m.before m.after.arrivals)

-- at the mark m the group of this arrival is full
abbrev pub finds_full : Mark → Mark → Bool
finds_full arrival m = nat_le (filled_by m.before arrival.after.arrivals) m.before.arrivals

-- What answers say.

-- the party has made these plain steps
abbrev pub made : (ℕ → List Change) → Sense
made steps = means (λ p. steps p ∷ []) (λ p span. true)

-- The party gets the value, and has made one of these lists of plain steps. At some mark there is a value, or the
-- party's own step completes its closure.
abbrev pub gave : (ℕ → List (List Change)) → Sense
gave steps = means steps (λ p span. list_any (λ m. is_complete m.before.phase || makes p is_completion m) span)

-- A call of one step that makes no plain step and has no answers. Other calls are built from it.
abbrev pub a_call : Asked
a_call = record {
  begins = is_none;
  waits = false;
  tries = None;
  answers = λ said. never;
  most = done;
  limit = λ words. within 1;
  is_open_next = λ first k p s. false;
  undisturbed_steps = 4;
  goes_for = λ made. None;
  may_register = λ made. false;
  is_weak = false;
  before_weakly = λ p. [];
  gets_weakly = λ c. false;
  needs_no_cause = λ said. false;
}

-- Calls that wait.

-- The call looks first. It takes steps until it is granted, without a limit. Once its request is open, the call takes
-- at most two steps if undisturbed. After its plain step the request counts as open.
abbrev pub waits : Ask → Asked
waits ask = record a_call {
  begins = suits ask;
  waits = true;
  most = granted;
  answers = λ said. elim said [ granted ↦ got ask | _ ↦ never ];
  limit = λ words. unlimited;
  is_open_next = λ first k p s. not first || is_open_to s p ask;
  undisturbed_steps = 2;
}

-- what a call tries to get without a look first: this, if the list of plain steps is empty
abbrev pub goes_first_for : Ask → List Change → Option Ask
goes_first_for ask made = elim made [ [] ↦ Some ask | _ ↦ None ]

-- like `waits to_write`, but the call begins with a weak exchange, not with a look
abbrev pub waits_to_write : Asked
waits_to_write = record (waits to_write) { goes_for = goes_first_for to_write; is_weak = true; gets_weakly = λ c. true }

-- like `waits_to_write`, but the call repeats its exchange without a look in between
abbrev pub spins_to_write : Asked
spins_to_write = record waits_to_write { undisturbed_steps = 1 }

-- a starver waits for the lock; the call begins with an exchange that sets the flag, not with a look
abbrev pub waits_starving : Asked
waits_starving = record (waits to_lock_starving) { goes_for = goes_first_for to_lock_starving; undisturbed_steps = 3 }

-- A call that has made no plain step asks the first. After a plain step it asks the second, until it has got it.
abbrev pub opens_in_turn : Ask → Ask → (ℕ → Plain → Bool) → Bool → ℕ → ℕ → Plain → Bool
opens_in_turn a b has first k p s = if first then is_open_to s p a else is_open_to s p b || has p s

-- The call waits in a queue. After two steps, and one more for each change by others, it has a ticket, or has found
-- that none is left. While it has no ticket, its request is open if it could take a ticket and enter at once. Once it
-- has a ticket, its request is open if it may enter with this ticket.
abbrev pub waits_to_enter : Asked
waits_to_enter = record (waits to_enter) {
  limit = λ words. gets_within to_take_ticket 2;
  is_open_next = opens_in_turn to_take_and_enter to_enter (λ p s. is_first p true s.tickets);
  undisturbed_steps = 4;
}

-- The call asks to upgrade by its first step, and then upgrades by a weak exchange. Its asking is the only plain step before that exchange.
abbrev pub waits_to_upgrade : Asked
waits_to_upgrade = record (waits to_upgrade_asked) {
  limit = λ words. changes_within 1;
  is_open_next = opens_in_turn to_upgrade to_upgrade_asked (λ p s. is_holder p writing s.holders);
  goes_for = λ made. elim made [ [] ↦ None | c ∷ cs ↦ goes_first_for to_upgrade_asked cs ];
  is_weak = true;
  before_weakly = λ p. turns p upgradable asking ∷ [];
  gets_weakly = is_for to_upgrade_asked;
}

-- The call takes steps until it is granted. It asks for the lock as a newcomer; once it is registered, it asks as a
-- starver. Suppose that more than n looks found the lock held. Then the call registers, or finds the cap reached,
-- within two steps and one more for each change by others.
abbrev pub waits_or_starves : ℕ → Asked
waits_or_starves n = record a_call {
  waits = true;
  most = granted;
  answers = λ said. elim said [ granted ↦ got_or_starved to_lock_unregistered to_lock_starving | _ ↦ never ];
  limit = λ words. registers_after n 2;
  is_open_next = opens_in_turn to_lock_unregistered to_lock_starving (λ p s. is_holder p writing s.holders);
  goes_for = λ made. elim made [ [] ↦ Some to_lock_unregistered | c ∷ cs ↦ goes_first_for to_lock_starving cs ];
  may_register = is_empty;
  is_weak = true;
  gets_weakly = is_for to_lock_unregistered;
}

-- Tries.

-- a try that takes at most k steps
abbrev pub tries_in : ℕ → Ask → Asked
tries_in k ask = record a_call {
  begins = suits ask;
  tries = Some ask;
  most = granted;
  answers = λ said. elim said [ granted ↦ got ask | refused ↦ found (λ p s. not (is_open_to s p ask)) | _ ↦ never ];
  limit = λ words. within k;
}

abbrev pub tries : Ask → Asked
tries ask = tries_in 1 ask

-- the try loads first, and repeats its exchange at most once for each change by others
abbrev pub looks_and_tries : Ask → Asked
looks_and_tries ask = record (tries ask) { limit = λ words. within_changes 2 }

-- a try by a weak exchange, which may fail spuriously
abbrev pub tries_weakly : Ask → Asked
tries_weakly ask = record (tries ask) {
  tries = None;
  is_weak = true;
  gets_weakly = λ c. true;
  needs_no_cause = λ said. elim said [ refused ↦ true | _ ↦ false ];
}

-- a try that says why it fails
abbrev pub tries_to_know : Ask → Asked
tries_to_know ask = record a_call {
  begins = suits ask;
  most = granted;
  answers = λ said. elim said [
    | granted ↦ got ask
    | locked ↦ found (λ p s. is_held s && is_empty s.starvers)
    | starved ↦ found (λ p s. is_starved s)
    | _ ↦ never
  ];
}

-- Looks.

-- the call answers whether the lock is held; it takes one step for each word
abbrev pub looks : Asked
looks = record a_call {
  most = tells true;
  answers = λ said. elim said [ tells held ↦ found (λ p s. same held (is_held s)) | _ ↦ never ];
  limit = λ words. within words;
}

abbrev pub counts : (Plain → ℕ) → Asked
counts number = record a_call { most = counted 0; answers = λ said. elim said [ counted n ↦ found (λ p s. number s == n) | _ ↦ never ] }

-- the call counts the readers, including the upgradable one
abbrev pub counts_readers : Asked
counts_readers = counts readers

abbrev pub counts_writers : Asked
counts_writers = counts writers

-- Calls after which the party holds less.

abbrev pub does : (Hold → Bool) → (ℕ → List Change) → Asked
does may steps = record a_call { begins = is_one_of may; most = done; answers = λ said. elim said [ done ↦ made steps | _ ↦ never ] }

-- a party whose hold passes the test turns this hold into one of this kind
abbrev pub turns_to : (Hold → Bool) → Option Hold → Kind → Asked
turns_to may held kind = does may (λ p. turn_to p held kind)

-- a party whose hold passes the test releases this hold
abbrev pub gives_back : (Hold → Bool) → Option Hold → Asked
gives_back may held = does may (λ p. let_go_of p held)

-- Values.

-- the call gives a value, which its own closure may have made
abbrev pub initializes : Asked
initializes = record a_call {
  waits = true;
  most = gives_value;
  answers = λ said. elim said [ gives_value ↦ gave (λ p. (gets p to_begin ∷ completes p ∷ []) ∷ [] ∷ []) | _ ↦ never ];
  limit = λ words. unlimited;
  is_open_next = λ first k p s. not first || (is_nothing s.phase || is_complete s.phase);
  undisturbed_steps = 3;
}

-- like `initializes`, for a call whose own closure fails
abbrev pub fails_to_initialize : Asked
fails_to_initialize = record initializes {
  answers = λ said. elim said [
    | gives_value ↦ gave (λ p. [] ∷ [])
    | failed ↦ means (λ p. (gets p to_begin ∷ fails p ∷ []) ∷ []) (λ p span. list_any (makes p is_failure) span)
    | _ ↦ never
  ];
}

-- like `initializes`, for a call without a closure
abbrev pub waits_for_value : Asked
waits_for_value = record initializes {
  answers = λ said. elim said [ gives_value ↦ gave (λ p. [] ∷ []) | _ ↦ never ];
  is_open_next = λ first k p s. is_complete s.phase;
  undisturbed_steps = 1;
}

-- the answer is the value, or that there is none; the second is right at a moment when `none` holds of the plain lock
abbrev pub value_or : (Plain → Bool) → Said → Sense
value_or none gives_value = gave (λ p. [] ∷ [])
value_or none has_no_value = found (λ p s. none s)
value_or none _ = never

-- the call waits while a closure runs, and then answers the value or that there is none
abbrev pub polls : Asked
polls = record waits_for_value { answers = value_or (λ s. is_nothing s.phase); is_open_next = λ first k p s. is_nothing s.phase || is_complete s.phase }

abbrev pub looks_for_value : Asked
looks_for_value = record a_call { most = gives_value; answers = value_or (λ s. not (is_complete s.phase)) }

-- the call answers whether there is a value
abbrev pub looks_complete : Asked
looks_complete = record a_call { most = tells true; answers = λ said. elim said [ tells there ↦ found (λ p s. same there (is_complete s.phase)) | _ ↦ never ] }

-- Meetings at a barrier.

-- the call arrives by its first step, and waits until its group is full
abbrev pub meets : Asked
meets = record a_call {
  waits = true;
  most = leads;
  answers = λ said. elim said [
    | leads ↦ means (λ p. (arrives p ∷ []) ∷ []) (λ p span. list_any (arrives_leading p true) span)
    | follows ↦ means (λ p. (arrives p ∷ []) ∷ [])
        (λ p span. list_any (λ m. arrives_leading p false m && list_any (finds_full m) span) span)
    | _ ↦ never
  ];
  limit = λ words. changes_within 1;
  is_open_next = λ first k p s. not first && (may_leave_at s k || is_leading s k);
  undisturbed_steps = 1;
}
