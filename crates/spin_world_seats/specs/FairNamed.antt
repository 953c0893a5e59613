-- What fair seats are: how they open, how many there are, and what each call promises.
use Rattle.std.specs.Prelude.{◌≡◌, ℕ, true, Option, Some, None, [], ◌∷◌}
use Rattle.spin_step.specs.Plain.{fresh}
use Rattle.spin_step.specs.declared.place.Hold.{Hold}
use Rattle.spin_step.specs.declared.place.Hold.TheVariants.{Read}
use Rattle.spin_step.specs.Asks.{gives_back, is_read}
use Rattle.spin_step.specs.Machines.{opening_plain}
use Rattle.spin_world_core.specs.Kinds.{IsLock, Asks, BeginAt, AnswersIn}
use Rattle.spin_fair_seats.specs.FairSeats.{seats}
use Rattle.spin_fair_seats.specs.Kind.{fair_seats, sits_in_turn, tries_once, counts_taken}
use Rattle.spin_fair_seats.specs.Table.{FairSeatsMachine}
use Rattle.spin_fair_seats.specs.declared.calls.FairSeatsCall.TheVariants.{Enter, TryEnter, Count, Leave}

pub record IsFairSeatsMachine (n : ℕ) (m : FairSeatsMachine) : Type 0 where
  pub is_lock : IsLock fair_seats (record { next = 0; given = 0 }) (λ w. w.next ∷ w.given ∷ []) (Some tt) true m
  pub open is_lock use *
  pub plain : opening_plain m ≡ fresh (seats n) 0 0
  pub enter : Asks m Enter sits_in_turn
  pub try_enter : Asks m TryEnter tries_once
  pub count : Asks m Count counts_taken
  pub leave : (h : Option Hold) → m.asks Leave h ≡ gives_back is_read h
  pub calls : BeginAt m ((Enter, None) ∷ (TryEnter, None) ∷ (Count, None) ∷ (Leave, Some Read) ∷ [])
  pub soon : AnswersIn m 3 Enter
