-- The calls of fair seats, step by step, and what each step is in the plain lock.
use Rattle.std.specs.Prelude.{ℕ, ◌-◌, ◌&&◌, Option, Some, None, min, nat_lt}
use Rattle.spin_step.specs.Plain.{reading, ticket_limit, to_take_ticket, to_sit, gets, releases}
use Rattle.spin_step.specs.Tickets.{take}
use Rattle.spin_step.specs.declared.place.Hold.{Hold}
use Rattle.spin_step.specs.declared.place.Hold.TheVariants.{Read}
use Rattle.spin_step.specs.declared.stepped.Next.{Next}
use Rattle.spin_step.specs.declared.stepped.Next.TheVariants.{Continue, Answers}
use Rattle.spin_step.specs.declared.answer.Answer.{Answer}
use Rattle.spin_step.specs.declared.answer.Answer.TheVariants.{Granted, Refused, Done, Count as Counted}
use Rattle.spin_step.specs.Calls.{Asked}
use Rattle.spin_step.specs.Asks.{is_read, gives_back}
use Rattle.spin_step.specs.Machines.{Machine}
use Rattle.spin_step.specs.Acts.{Memory, two_numbers, Act, load, load_if, load_for, enter, attempt, retry, store, Table, machine_of}
use Rattle.spin_step.specs.Tables.{usual_table}
use Rattle.spin_step.specs.declared.table.Operation.TheVariants as op
use Rattle.spin_fair_seats.specs.FairSeats.{seats, may_sit}
use Rattle.spin_fair_seats.specs.Kind as kind
use Rattle.spin_fair_seats.specs.declared.calls.FairSeatsWords.{FairSeatsWords}
use Rattle.spin_fair_seats.specs.declared.calls.FairSeatsCall.{FairSeatsCall}
use Rattle.spin_fair_seats.specs.declared.calls.FairSeatsCall.TheVariants.{Enter, TryEnter, Count, Leave}
use Rattle.spin_fair_seats.specs.declared.calls.FairSeatsPoint.{FairSeatsPoint}
use Rattle.spin_fair_seats.specs.declared.calls.FairSeatsPoint.TheVariants.{LoadNext, Take, Await, TryNext, TryGiven, TryTake, CountNext, CountGiven, Give}

abbrev pub FairSeatsNext : Type 0
FairSeatsNext = Next FairSeatsPoint (Answer (Unit {0}))

-- its two words: the next number, and how many seats were given back
abbrev pub fair_seats_memory : Memory FairSeatsWords
fair_seats_memory = two_numbers (λ w. w.next) (λ w. w.given) (λ k w. record w { next = k }) (λ k w. record w { given = k })

abbrev pub starts_at : FairSeatsCall → Option Hold → FairSeatsPoint
starts_at Enter h = LoadNext
starts_at TryEnter h = TryNext
starts_at Count h = CountNext
starts_at Leave h = Give

abbrev pub word_of : FairSeatsPoint → ℕ
word_of (Await t) = 1
word_of (TryGiven k) = 1
word_of (CountGiven k) = 1
word_of Give = 1
word_of _ = 0

abbrev pub goes_for : ℕ → FairSeatsNext
goes_for k = Continue (Take k)

abbrev pub act_of : ℕ → FairSeatsPoint → Option Hold → Act FairSeatsWords FairSeatsPoint (Answer (Unit {0}))
act_of n LoadNext h = load_for take (λ p. gets p to_take_ticket) goes_for (Answers Refused h)
act_of n (Take k) h = retry k take (λ p. gets p to_take_ticket) (Continue (Await k)) goes_for (Answers Refused h)
act_of n (Await t) h = enter (may_sit n t) (λ p. gets p to_sit) (Answers Granted (Some Read)) (Continue (Await t))
act_of n TryNext h = load (λ k. Continue (TryGiven k))
act_of n (TryGiven k) h = load_if (λ g. may_sit n k g && nat_lt k ticket_limit) (λ g. Continue (TryTake k)) (λ g. Answers Refused h)
act_of n (TryTake k) h = attempt k take (λ p. gets p to_take_ticket) (Continue (Await k)) (Answers Refused h)
act_of n CountNext h = load (λ k. Continue (CountGiven k))
act_of n (CountGiven k) h = load (λ g. Answers (Counted (min (k - g) (seats n))) h)
act_of n Give h = store (λ g. nat_lt g ticket_limit) (op.Add 1) (λ p. releases p reading) (Answers Done None)

abbrev pub asks_of : FairSeatsCall → Option Hold → Asked
asks_of Enter h = kind.sits_in_turn
asks_of TryEnter h = kind.tries_once
asks_of Count h = kind.counts_taken
asks_of Leave h = gives_back is_read h

abbrev pub TableOfFairSeats : Type 0
TableOfFairSeats = Table FairSeatsWords (Unit {0}) FairSeatsCall FairSeatsPoint (Answer (Unit {0}))

abbrev pub fair_seats_table : ℕ → TableOfFairSeats
fair_seats_table n = let opening : FairSeatsWords = record { next = 0; given = 0 } in
    record (usual_table (Some tt) kind.fair_seats opening fair_seats_memory starts_at (λ c l h. act_of n l h) asks_of) { cap = seats n; word = word_of }

abbrev pub FairSeatsMachine : Type 0
FairSeatsMachine = Machine FairSeatsWords (Unit {0}) FairSeatsCall FairSeatsPoint (Answer (Unit {0}))

abbrev pub fair_seats_machine : ℕ → FairSeatsMachine
fair_seats_machine n = machine_of (fair_seats_table n)
