-- A lock of two seats of which some promises say too little. `enter` looks for ever, both tries wait where they should
-- be refused, and `count` answers 7.
use Rattle.std.specs.Prelude.{ℕ, true, false, Option, None, List, [], ◌∷◌}
use Rattle.spin_step.specs.Plain.{to_read}
use Rattle.spin_step.specs.declared.place.Hold.{Hold}
use Rattle.spin_step.specs.declared.stepped.Next.TheVariants.{Continue, Answers}
use Rattle.spin_step.specs.declared.answer.Answer.{Answer}
use Rattle.spin_step.specs.declared.answer.Answer.TheVariants.{Count}
use Rattle.spin_step.specs.Calls.{Asked, LockKind, counted, means, never, unlimited}
use Rattle.spin_step.specs.Asks.{waits, tries, counts_readers, gives_back, is_read}
use Rattle.spin_step.specs.Acts.{Act, load, machine_of}
use Rattle.spin_seats.specs.Kind as kind
use Rattle.spin_seats.specs.declared.calls.SeatsCall.{SeatsCall}
use Rattle.spin_seats.specs.declared.calls.SeatsCall.TheVariants as call
use Rattle.spin_seats.specs.declared.calls.SeatsPoint.{SeatsPoint}
use Rattle.spin_seats.specs.declared.calls.SeatsPoint.TheVariants.{First}
use Rattle.spin_seats.specs.Table.{TableOfSeats, SeatsMachine, seats_table, act_of, enters_by}

-- the call waits, and what it asks never counts as open
abbrev pub enters_never : Asked
enters_never = record (waits to_read) { is_open_next = λ first k p s. false }

-- a try whose promise says that it waits
abbrev pub tries_by_waiting : Asked
tries_by_waiting = record (tries to_read) { waits = true; tries = None; limit = λ words. unlimited }

-- a count of anything
abbrev pub counts_anything : Asked
counts_anything = record counts_readers { answers = λ said. elim said [ counted n ↦ means (λ p. [] ∷ []) (λ p span. true) | _ ↦ never ] }

abbrev pub careless_calls : ℕ → Option Hold → List Asked
careless_calls n h = enters_never ∷ tries_by_waiting ∷ counts_anything ∷ gives_back is_read h ∷ []

abbrev pub careless : LockKind
careless = record kind.seats { calls = careless_calls }

abbrev pub careless_asks : SeatsCall → Option Hold → Asked
careless_asks call.TryEnter h = tries_by_waiting
careless_asks call.TryEnterWeak h = tries_by_waiting
careless_asks call.Enter h = enters_never
careless_asks call.Count h = counts_anything
careless_asks call.Leave h = gives_back is_read h

abbrev pub careless_act : SeatsCall → SeatsPoint → Option Hold → Act ℕ SeatsPoint (Answer (Unit {0}))
careless_act call.Enter l h = load (λ w. Continue First)
careless_act call.TryEnter l h = enters_by 2 (Continue First) l
careless_act call.TryEnterWeak l h = enters_by 2 (Continue First) l
careless_act call.Count l h = load (λ w. Answers (Count 7) h)
careless_act c l h = act_of 2 c l h

abbrev pub careless_table : TableOfSeats
careless_table = let t : TableOfSeats = seats_table 2 in record t { lock_kind = careless; act = careless_act; asks = careless_asks }

abbrev pub careless_machine : SeatsMachine
careless_machine = machine_of careless_table
