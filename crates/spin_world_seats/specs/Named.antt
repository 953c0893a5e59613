-- What a lock of seats is: its first state, how many seats it has, and what each of its calls promises. The promise of a
-- call also says what its party holds when the call begins.
use Rattle.std.specs.Prelude.{◌≡◌, ℕ, true, Option, Some, None, [], ◌∷◌}
use Rattle.spin_step.specs.Plain.{to_read, fresh}
use Rattle.spin_seats.specs.Seats.{seats}
use Rattle.spin_step.specs.declared.place.Hold.{Hold}
use Rattle.spin_step.specs.declared.place.Hold.TheVariants.{Read}
use Rattle.spin_step.specs.declared.answer.Answer.{Answer}
use Rattle.spin_seats.specs.declared.calls.SeatsCall.TheVariants as call
use Rattle.spin_step.specs.Calls.{says_of}
use Rattle.spin_step.specs.Asks.{counts_readers, gives_back, is_read, looks_and_tries, waits}
use Rattle.spin_seats.specs.Kind as kind
use Rattle.spin_step.specs.Machines.{opening_plain}
use Rattle.spin_seats.specs.Table.{SeatsMachine}
use Rattle.spin_world_core.specs.Kinds.{IsLock, BeginAt, AnswersIn}

pub record IsSeatsMachine (n : ℕ) (m : SeatsMachine) : Type 0 where
  pub is_lock : IsLock kind.seats 0 (λ w. w ∷ []) (Some tt) true m
  pub open is_lock use *
  -- at first nobody has a seat; there are as many seats as asked for, but no more than the limit
  pub plain : opening_plain m ≡ fresh (seats n) 0 0
  pub try_enter : (h : Option Hold) → m.asks call.TryEnter h ≡ looks_and_tries to_read
  pub try_enter_weak : (h : Option Hold) → m.asks call.TryEnterWeak h ≡ kind.tries_once
  pub enter : (h : Option Hold) → m.asks call.Enter h ≡ waits to_read
  pub count : (h : Option Hold) → m.asks call.Count h ≡ counts_readers
  pub leave : (h : Option Hold) → m.asks call.Leave h ≡ gives_back is_read h
  pub calls : BeginAt m ((call.TryEnter, None) ∷ (call.TryEnterWeak, None) ∷ (call.Enter, None) ∷ (call.Count, None) ∷ (call.Leave, Some Read) ∷ [])
  pub soon : AnswersIn m 2 call.Enter
