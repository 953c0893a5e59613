-- Wrong ticket locks, each with one mistake in its machine.
use Rattle.std.specs.Prelude.{ℕ, not, ◌==◌, Option, Some, None, ◌+◌, ◌-◌, nat_lt}
use Rattle.spin_step.specs.declared.place.Hold.{Hold}
use Rattle.spin_step.specs.declared.stepped.Next.{Next}
use Rattle.spin_step.specs.declared.stepped.Next.TheVariants.{Continue, Answers}
use Rattle.spin_step.specs.declared.answer.Answer.{Answer}
use Rattle.spin_step.specs.declared.answer.Answer.TheVariants.{Refused, Is}
use Rattle.spin_step.specs.declared.ticket_calls.TicketWords.{TicketWords}
use Rattle.spin_step.specs.declared.ticket_calls.TicketCall.{TicketCall}
use Rattle.spin_step.specs.declared.ticket_calls.TicketCall.TheVariants.{Lock, TryLock, IsLocked}
use Rattle.spin_step.specs.declared.ticket_calls.TicketPoint.{TicketPoint}
use Rattle.spin_step.specs.declared.ticket_calls.TicketPoint.TheVariants.{LoadNext, Take, Await, TryLoadNext, TryLoadServing, TryTake, LookServing, LookNext}
use Rattle.spin_step.specs.Plain.{Change, gets, to_enter, ticket_limit}
use Rattle.spin_step.specs.Machines.{Machine}
use Rattle.spin_step.specs.Acts.{either, stays}
use Rattle.spin_step.specs.TicketCalls.{is_free, granted, ticket_machine}

pub data Mistake : Type 0 where
  looks_backwards looks_at_both looks_in_vain queues_behind_nobody never_enters enters_by_look locks_again : Mistake
  never_tries tries_by_looking tries_by_one_load swaps_its_loads tries_until_it_wins leaves_the_last_ticket : Mistake
  takes_by_chance refuses_without_tickets opens_with_a_ticket : Mistake

-- the number of the first ticket
abbrev first_of : Mistake → ℕ
first_of leaves_the_last_ticket = ticket_limit - 1
first_of refuses_without_tickets = ticket_limit
first_of _ = 0

module _ {V : Type 0} (v : V) where
  abbrev TicketMachine : Type 0
  TicketMachine = Machine TicketWords V TicketCall TicketPoint (Answer V)

  abbrev TicketNext : Type 0
  TicketNext = Next TicketPoint (Answer V)

  -- Where the wrong steps lead to; they leave the words as they are. All other steps are right.
  abbrev goes : Mistake → TicketWords → TicketCall → TicketPoint → Option Hold → Option TicketNext
  -- `is_locked` loads the next number first, and then the served one
  goes looks_backwards w c LookServing h = Some (Continue (LookNext w.next))
  goes looks_backwards w c (LookNext n) h = Some (Answers (Is (not (w.serving == n))) h)
  -- `is_locked` loads both numbers in one step
  goes looks_at_both w c LookServing h = Some (Answers (Is (not (w.next == w.serving))) h)
  -- `is_locked` makes a useless load between its two loads
  goes looks_in_vain w IsLocked LookServing h = Some (Continue (TryLoadServing w.serving))
  goes looks_in_vain w IsLocked (TryLoadServing k) h = Some (Continue (LookNext k))
  -- `lock` takes a ticket only if nobody has one
  goes queues_behind_nobody w c LoadNext h = either (w.next == w.serving) None (Some (Continue LoadNext))
  -- `lock` never enters
  goes never_enters w c (Await t) h = Some (Continue (Await t))
  -- the party that looks first enters
  goes enters_by_look w c (Await t) h = Some (granted t)
  -- `try_lock` makes its two loads, and is always refused
  goes never_tries w c (TryLoadServing n) h = Some (Answers Refused h)
  -- `try_lock` loads only the served number, and takes it as its ticket
  goes tries_by_one_load w c TryLoadNext h = Some (Continue (TryTake w.serving))
  -- `try_lock` loads the served number before the next one
  goes swaps_its_loads w c TryLoadNext h = Some (Continue (TryLoadServing w.serving))
  goes swaps_its_loads w c (TryLoadServing k) h =
      Some (either (is_free k w.next) (Continue (TryTake k)) (Answers Refused h))
  -- `try_lock` makes its loads again when its exchange has failed
  goes tries_until_it_wins w c (TryTake n) h = either (w.next == n) None (Some (Continue TryLoadNext))
  -- `try_lock` does not take the last ticket
  goes leaves_the_last_ticket w c (TryLoadServing n) h =
      either (nat_lt (n + 1) ticket_limit) None (Some (Answers Refused h))
  -- `lock` is refused if no ticket is left, and none is left here
  goes refuses_without_tickets w c LoadNext h = either (nat_lt w.next ticket_limit) None (Some (Answers Refused h))
  goes m w c l h = None

  -- the plain step of a wrong look of `lock`; all others are right
  abbrev makes : Mistake → ℕ → TicketPoint → Option Change → Option Change
  makes never_enters p (Await t) made = None
  makes enters_by_look p (Await t) made = Some (gets p to_enter)
  makes m p l made = made

  -- the lock with the wrong steps
  abbrev stepping : Mistake → TicketMachine
  stepping m =
      let right : TicketMachine = ticket_machine v (first_of m) in
      record right {
        step = λ w value c l h. elim (goes m w c l h) [ Some next ↦ stays w next | None ↦ right.step w value c l h ];
        change = λ p w c l h. makes m p l (right.change p w c l h);
      }

  -- the lock with this mistake
  abbrev pub wrong : Mistake → TicketMachine
  -- `lock` can begin even if its party has a ticket already
  wrong locks_again =
      let m = ticket_machine v 0 in
      record m { begin = λ c h. elim c [ Lock ↦ Some LoadNext | other ↦ m.begin other h ] }
  -- `try_lock` does what `is_locked` does
  wrong tries_by_looking =
      let m = ticket_machine v 0 in
      let as_look : TicketCall → TicketCall = λ c. elim c [ TryLock ↦ IsLocked | other ↦ other ] in
      record m { begin = λ c h. m.begin (as_look c) h; asks = λ c h. m.asks (as_look c) h }
  -- a strong try, and a strong exchange of `lock`, may fail spuriously
  wrong takes_by_chance =
      let chance : Option Hold → TicketPoint → Option TicketNext =
      λ h l. elim l [ TryTake n ↦ Some (Answers Refused h) | Take n ↦ Some (Continue LoadNext) | _ ↦ None ] in
      record (ticket_machine v 0) { refuse = λ c l h. chance h l }
  -- the words say at first that a ticket is in the queue, but no party has a ticket
  wrong opens_with_a_ticket = record (ticket_machine v 0) { words = record { next = 1; serving = 0 } }
  wrong m = stepping m
