-- The ticket lock's calls, step by step, and what each step is in the plain lock.
use Rattle.std.specs.Prelude.{ℕ, Bool, not, ◌&&◌, Option, Some, None, ◌==◌, nat_lt}
use Rattle.spin_step.specs.Plain.{ticket_limit, to_take_ticket, to_enter, to_take_and_enter, gets, serves}
use Rattle.spin_step.specs.Tickets.{take, served}
use Rattle.spin_step.specs.declared.place.Hold.{Hold}
use Rattle.spin_step.specs.declared.place.Hold.TheVariants as hold
use Rattle.spin_step.specs.declared.stepped.Next.{Next}
use Rattle.spin_step.specs.declared.stepped.Next.TheVariants.{Continue, Answers}
use Rattle.spin_step.specs.declared.answer.Answer.{Answer}
use Rattle.spin_step.specs.declared.answer.Answer.TheVariants.{Granted, Refused, Done, Is}
use Rattle.spin_step.specs.declared.ticket_calls.TicketWords.{TicketWords}
use Rattle.spin_step.specs.declared.ticket_calls.TicketCall.{TicketCall}
use Rattle.spin_step.specs.declared.ticket_calls.TicketCall.TheVariants.{Lock, TryLock, IsLocked, Release}
use Rattle.spin_step.specs.declared.ticket_calls.TicketPoint.{TicketPoint}
use Rattle.spin_step.specs.declared.ticket_calls.TicketPoint.TheVariants.{LoadNext, Take, Await, TryLoadNext, TryLoadServing, TryTake, LookServing, LookNext, Serve}
use Rattle.spin_step.specs.Calls.{Asked}
use Rattle.spin_step.specs.Asks.{is_ticket, tries_in, waits_to_enter, looks, gives_back}
use Rattle.spin_step.specs.TicketKind.{ticket}
use Rattle.spin_step.specs.Machines.{Machine}
use Rattle.spin_step.specs.Acts.{Memory, two_numbers, Act, load, load_if, load_for, enter, attempt, retry, store, Table, machine_of}
use Rattle.spin_step.specs.Tables.{usual_table}
use Rattle.spin_step.specs.declared.table.Operation.TheVariants as op

-- the point at which a call begins; a release begins with the ticket that its party holds
abbrev pub starts_at : TicketCall → Option Hold → TicketPoint
starts_at Lock h = LoadNext
starts_at TryLock h = TryLoadNext
starts_at IsLocked h = LookServing
starts_at Release (Some (hold.Ticket t)) = Serve t
starts_at Release _ = Serve 0

-- its two words: the next number, and the served one
abbrev pub ticket_memory : Memory TicketWords
ticket_memory = two_numbers (λ w. w.next) (λ w. w.serving) (λ k w. record w { next = k }) (λ k w. record w { serving = k })

abbrev pub word_of : TicketPoint → ℕ
word_of (Await t) = 1
word_of (TryLoadServing n) = 1
word_of LookServing = 1
word_of (Serve t) = 1
word_of _ = 0

-- this number can still be taken, if it is the next one
abbrev pub is_left : ℕ → Bool
is_left n = nat_lt n ticket_limit

-- the number n is served, and can still be taken if it is the next one
abbrev pub is_free : ℕ → ℕ → Bool
is_free n serving = (serving == n) && is_left n

abbrev pub granted : {V : Type 0} → ℕ → Next TicketPoint (Answer V)
granted t = Answers Granted (Some (hold.Ticket t))

-- `lock` has found n as the next number, and goes on to take it
abbrev pub goes_for : {V : Type 0} → ℕ → Next TicketPoint (Answer V)
goes_for n = Continue (Take n)

abbrev pub act_of : {V : Type 0} → TicketPoint → Option Hold → Act TicketWords TicketPoint (Answer V)
act_of LoadNext h = load_for take (λ p. gets p to_take_ticket) goes_for (Continue LoadNext)
act_of (Take n) h = retry n take (λ p. gets p to_take_ticket) (Continue (Await n)) goes_for (Continue LoadNext)
act_of (Await t) h = enter (λ k. k == t) (λ p. gets p to_enter) (granted t) (Continue (Await t))
act_of TryLoadNext h = load (λ n. Continue (TryLoadServing n))
act_of (TryLoadServing n) h = load_if (is_free n) (λ k. Continue (TryTake n)) (λ k. Answers Refused h)
act_of (TryTake n) h = attempt n take (λ p. gets p to_take_and_enter) (granted n) (Answers Refused h)
act_of LookServing h = load (λ k. Continue (LookNext k))
act_of (LookNext k) h = load (λ n. Answers (Is (not (n == k))) h)
act_of (Serve t) h = store (λ k. is_left t) (op.Store (served t)) (λ p. serves p) (Answers Done None)

abbrev pub asks_of : TicketCall → Option Hold → Asked
asks_of Lock h = waits_to_enter
asks_of TryLock h = tries_in 3 to_take_and_enter
asks_of IsLocked h = looks
asks_of Release h = gives_back is_ticket h

abbrev pub ticket_table : {V : Type 0} → V → ℕ → Table TicketWords V TicketCall TicketPoint (Answer V)
ticket_table v first = let opening : TicketWords = record { next = first; serving = first } in
    record (usual_table (Some v) ticket opening ticket_memory starts_at (λ c l h. act_of l h) asks_of) { first = first; word = word_of }

abbrev pub ticket_machine : {V : Type 0} → V → ℕ → Machine TicketWords V TicketCall TicketPoint (Answer V)
ticket_machine v first = machine_of (ticket_table v first)
