-- The plain read-write lock. This file also exports the types of its history: `Opening`, `Call`, `Answer` and others.
use Rattle.std.specs.Prelude.{ℕ, ◌==◌, Bool, true, false, if◌then◌else◌, List, [], ◌∷◌, Option, Some, None, filter}
use Rattle.std.specs.Option.{unwrap_or}
use Rattle.spin_step.specs.Plain.{Plain, Kind, reading, writing, Holder, fresh, Change, gets, releases, turns, to_read, to_write, is_open, count_kind, reader_count, rw_word}
use Rattle.spin_step.specs.Parties.{apply_some}
use Rattle.spin_step_more.specs.Readers.{reader_limit, has_room}
pub use Rattle.spin_seated.specs.declared.lock.Opening.{Opening}
pub use Rattle.spin_seated.specs.declared.lock.Answer.{Answer}
pub use Rattle.spin_seated.specs.declared.lock.Answer.TheVariants.{Truth, Value, Done}
pub use Rattle.spin_seated.specs.declared.rwlock.Call.{Call}
pub use Rattle.spin_seated.specs.declared.rwlock.Call.TheVariants.{TryRead, TryWrite, ReaderCount, WriterCount, Read, Write, UnlockRead, UnlockWrite, Downgrade}
pub use Rattle.spin_seated.specs.declared.rwlock.SeatedHold.{SeatedHold}
use Rattle.spin_seated.specs.declared.rwlock.SeatedHold.TheVariants as hold
use Rattle.spin_seated.specs.Histories.{PlainObject}
pub use Rattle.spin_seated.specs.Locked.{Locked}

-- what a holder of this kind is to its pass; this lock has no upgradable holders
abbrev pub hold_of : Kind → SeatedHold
hold_of writing = hold.Write
hold_of _ = hold.Read

abbrev pub kind_of : SeatedHold → Kind
kind_of hold.Read = reading
kind_of hold.Write = writing

-- the hold of the first of these holders, if there is one
abbrev pub first_hold : List Holder → Option SeatedHold
first_hold [] = None
first_hold (h ∷ hs) = Some (hold_of h.kind)

abbrev pub hold_in : ℕ → Locked → Option SeatedHold
hold_in p s = first_hold (filter (λ h. h.party == p) s.lock.holders)

-- which calls a pass may make while it holds this
abbrev pub may_with : Call → Option SeatedHold → Bool
may_with TryRead None = true
may_with TryWrite None = true
may_with ReaderCount h = true
may_with WriterCount h = true
may_with Read (Some h) = true
may_with (Write v) (Some hold.Write) = true
may_with UnlockRead (Some hold.Read) = true
may_with UnlockWrite (Some hold.Write) = true
may_with Downgrade (Some hold.Write) = true
may_with _ _ = false

-- the step of the plain lock that a call asks for
abbrev pub asked_change : ℕ → Call → Option Change
asked_change p TryRead = Some (gets p to_read)
asked_change p TryWrite = Some (gets p to_write)
asked_change p UnlockRead = Some (releases p reading)
asked_change p UnlockWrite = Some (releases p writing)
asked_change p Downgrade = Some (turns p writing reading)
asked_change p _ = None

-- the step, or none if it is not open
abbrev pub where_open : Plain → Option Change → Option Change
where_open s None = None
where_open s (Some c) = if is_open s c then Some c else None

-- the value that a call writes
abbrev pub written : Call → Option ℕ
written (Write w) = Some w
written _ = None

abbrev pub after_call : ℕ → Call → Locked → Locked
after_call p c s = record { lock = apply_some s.lock (where_open s.lock (asked_change p c)); value = unwrap_or (written c) s.value }

abbrev pub plain_answer : ℕ → Call → Locked → Answer
plain_answer p TryRead s = Truth (is_open s.lock (gets p to_read))
plain_answer p TryWrite s = Truth (is_open s.lock (gets p to_write))
plain_answer p ReaderCount s = Value (reader_count s.lock.holders)
plain_answer p WriterCount s = Value (count_kind writing s.lock.holders)
plain_answer p Read s = Value s.value
plain_answer p _ s = Done

abbrev pub held_after : Call → Answer → Option SeatedHold → Option SeatedHold
held_after TryRead (Truth granted) h = if granted then Some hold.Read else h
held_after TryWrite (Truth granted) h = if granted then Some hold.Write else h
held_after UnlockRead a h = None
held_after UnlockWrite a h = None
held_after Downgrade a h = Some hold.Read
held_after c a h = h

abbrev pub rw : PlainObject Opening Locked Call Answer (Option SeatedHold)
rw =
    record {
      start = λ k. record { lock = fresh reader_limit 1 0; value = k.value };
      passes = λ k. k.passes;
      words = λ s. rw_word s.lock ∷ s.value ∷ [];
      may = λ p c s. may_with c (hold_in p s);
      answer = plain_answer;
      next = after_call;
      holds = hold_in;
      held_after = held_after;
    }

-- A `try_read` fails at a word without room. It succeeds by an exchange that finds the word it expects.
abbrev pub refused_by : ℕ → Option (Call × Answer)
refused_by found = if has_room reading found reader_limit then None else Some (TryRead, Truth false)
