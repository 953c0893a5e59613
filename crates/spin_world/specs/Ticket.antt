-- What a ticket lock is: its first state, and what each of its calls promises. The promise also says what the party holds when the call begins.
use Rattle.spin_world_core.specs.Kinds.{IsLock, Asks}
use Rattle.std.specs.Prelude.{◌≡◌, ℕ, true, Option, Some, None, [], ◌∷◌}
use Rattle.spin_step.specs.Plain.{to_take_and_enter}
use Rattle.spin_step.specs.declared.place.Hold.{Hold}
use Rattle.spin_step.specs.declared.place.Hold.TheVariants.{Ticket}
use Rattle.spin_step.specs.declared.answer.Answer.{Answer}
use Rattle.spin_step.specs.declared.ticket_calls.TicketWords.{TicketWords}
use Rattle.spin_step.specs.declared.ticket_calls.TicketCall.{TicketCall}
use Rattle.spin_step.specs.declared.ticket_calls.TicketCall.TheVariants.{Lock, TryLock, IsLocked, Release}
use Rattle.spin_step.specs.declared.ticket_calls.TicketPoint.{TicketPoint}
use Rattle.spin_step.specs.Calls.{says_of}
use Rattle.spin_step.specs.Asks.{gives_back, is_ticket, looks, tries_in, waits_to_enter}
use Rattle.spin_step.specs.TicketKind.{ticket}
use Rattle.spin_step.specs.Machines.{Machine}
use Rattle.spin_world_core.specs.Kinds.{BeginAt}

abbrev pub TicketMachine : Type 0 → Type 0
TicketMachine V = Machine TicketWords V TicketCall TicketPoint (Answer V)

pub record IsTicketMachine {V : Type 0} (given : V) (first : ℕ) (m : TicketMachine V) : Type 0 where
  pub is_lock : IsLock ticket (record { next = first; serving = first }) (λ w. w.next ∷ w.serving ∷ []) (Some given) true m
  pub open is_lock use *
  pub first_ticket : m.first ≡ first
  pub lock : Asks m Lock waits_to_enter
  pub try_lock : Asks m TryLock (tries_in 3 to_take_and_enter)
  pub is_locked : Asks m IsLocked looks
  pub release : (h : Option Hold) → m.asks Release h ≡ gives_back is_ticket h
  pub calls : BeginAt m ((Lock, None) ∷ (TryLock, None) ∷ (IsLocked, None) ∷ [])
  pub releases : (t : ℕ) → BeginAt m ((Release, Some (Ticket t)) ∷ [])
