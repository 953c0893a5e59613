-- Wrong locks of seats. Each is wrong in one call, in its number of
-- seats, or in how it opens. When a wrong step changes the word, its plain step is still one that the right lock makes.
use Rattle.std.specs.Prelude.{ℕ, zero, suc, true, false, Option, Some, None, nat_lt, ◌-◌}
use Rattle.spin_step.specs.Plain.{reading, to_read, gets, releases}
use Rattle.spin_seats.specs.Seats.{entered}
use Rattle.spin_step.specs.declared.place.Hold.{Hold}
use Rattle.spin_step.specs.declared.stepped.Next.TheVariants.{Continue, Answers}
use Rattle.spin_step.specs.declared.answer.Answer.{Answer}
use Rattle.spin_step.specs.declared.answer.Answer.TheVariants.{Refused, Done, Count}
use Rattle.spin_seats.specs.declared.calls.SeatsCall.{SeatsCall}
use Rattle.spin_seats.specs.declared.calls.SeatsCall.TheVariants as call
use Rattle.spin_seats.specs.declared.calls.SeatsPoint.{SeatsPoint}
use Rattle.spin_seats.specs.declared.calls.SeatsPoint.TheVariants.{First, Exchange}
use Rattle.spin_step.specs.Calls.{Asked, unlimited}
use Rattle.spin_step.specs.Acts.{Act, load, exchange, retry, store, section, machine_of}
use Rattle.spin_step.specs.declared.table.Operation.TheVariants as op
use Rattle.spin_seats.specs.Table.{granted, goes_for, enters_by, act_of, asks_of, seats_table, SeatsMachine, seats_machine}
use Rattle.spin_step.specs.Asks.{waits, gives_back}

pub data Mistake : Type 0 where
  seats_one_too_many tries_for_ever enters_in_one enters_by_chance looks_twice enters_by_a_guess enters_anew : Mistake
  enters_or_not looks_on leaves_for_two nobody_leaves keeps_all counts_free opens_taken seats_one_on_none : Mistake
  counts_without_a_limit tries_and_waits sits_in_sections : Mistake

-- how many seats the lock has
abbrev seats_of : Mistake → ℕ
seats_of seats_one_too_many = 1
seats_of seats_one_on_none = 0
seats_of _ = 2

-- the wrong steps; all other steps are right
abbrev acts : Mistake → SeatsCall → SeatsPoint → Option Hold → Act ℕ SeatsPoint (Answer (Unit {0}))
-- `try_enter` admits one party more than the lock has seats
acts seats_one_too_many call.TryEnter l h = enters_by 2 (Answers Refused h) l
-- `try_enter` loads the word for ever
acts tries_for_ever call.TryEnter l h = load (λ w. Continue First)
-- `try_enter` checks for a free seat and takes it in one event
acts enters_in_one call.TryEnter l h =
    section (λ w. true) (entered 2) (λ p. gets p to_read) (λ w. granted) (λ w. Answers Refused None)
-- `enter` looks twice before its exchange
acts looks_twice call.Enter First h = load (λ w. Continue (Exchange 2))
acts looks_twice call.Enter (Exchange (suc (suc zero))) h = act_of 2 call.Enter First h
-- `enter` guesses that nobody has a seat; a wrong guess does not count as a failed exchange
acts enters_by_a_guess call.Enter First h = exchange (op.Exchange 0 1) (λ p. gets p to_read) granted goes_for
-- `enter` loads the word again when its exchange has failed
acts enters_anew call.Enter (Exchange n) h =
    retry n (entered 2) (λ p. gets p to_read) granted (λ w. Continue First) (Continue First)
-- `enter` does what `try_enter` does
acts enters_or_not call.Enter l h = act_of 2 call.TryEnter l h
-- `enter` looks again and again, and promises its answer in a thousand steps
acts looks_on call.Enter l h = load (λ w. Continue First)
-- a party that leaves frees two seats
acts leaves_for_two call.Leave l h =
    store (λ w. nat_lt 0 w) (op.Subtract 2) (λ p. releases p reading) (Answers Done None)
-- `count` tells how many seats are free
acts counts_free call.Count l h = load (λ w. Answers (Count (2 - w)) h)
-- a lock without seats, on which one party can sit
acts seats_one_on_none c l h = act_of 1 c l h
acts m c l h = act_of (seats_of m) c l h

abbrev pub slow_enter : Asked
slow_enter = record (waits to_read) { undisturbed_steps = 1000 }

-- the wrong promises; all others are right
abbrev promises : Mistake → SeatsCall → Option Hold → Asked
promises enters_or_not call.Enter h = asks_of call.TryEnter h
promises looks_on call.Enter h = slow_enter
-- by the promise of `leave`, no party may begin this call
promises keeps_all call.Leave h = gives_back (λ hold. false) h
-- `count` may look for ever
promises counts_without_a_limit call.Count h = record (asks_of call.Count h) { limit = λ words. unlimited }
-- `try_enter` may wait
promises tries_and_waits call.TryEnter h = record (asks_of call.TryEnter h) { waits = true; limit = λ words. unlimited }
promises m c h = asks_of c h

-- the lock with this mistake
abbrev pub wrong : Mistake → SeatsMachine
-- `try_enter` may fail spuriously, though it is no weak try
wrong enters_by_chance =
    record (seats_machine 2) { refuse = λ c l h. elim c [ call.TryEnter ↦ Some (Answers Refused h) | _ ↦ None ] }
-- `leave` can never begin
wrong nobody_leaves =
    let m : SeatsMachine = seats_machine 2 in
    record m { begin = λ c h. elim c [ call.Leave ↦ None | other ↦ m.begin other h ] }
-- the word says at first that a seat is taken, but no party has a seat
wrong opens_taken = machine_of (record (seats_table 2) { words = 1 })
-- each step may be a section, so `try_enter` may check and take at once
wrong sits_in_sections =
    let m : SeatsMachine = seats_machine 2 in
    record m { lock_kind = record m.lock_kind { steps_in_sections = true } }
wrong m = machine_of (record (seats_table (seats_of m)) { act = acts m; asks = promises m })
