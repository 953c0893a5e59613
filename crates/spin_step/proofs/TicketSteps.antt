-- The step functions of a ticket lock decide as the plain lock does.
use Rattle.std.proofs.Common.{◌≡◌, ℕ, ◌≤◌, length, arith}
use Rattle.spin_step.specs.Plain.{Plain, gets, serves, to_take_ticket, to_take_and_enter, next_word, serving_word}
use Rattle.spin_step.specs.Steps.{Decides, GivesWord}
use Rattle.spin_step.specs.Tickets.{take, served}

pub ticket_take-grants : (s : Plain) (p n : ℕ) → next_word s ≡ n → Decides s (gets p to_take_ticket) next_word (take n)
ticket_take-grants s p n is = grind arith

-- `take` while the next number is being served
pub ticket_take-grants_alone : (s : Plain) (p n : ℕ) → length s.tickets ≤ next_word s → next_word s ≡ n → serving_word s ≡ n → Decides s (gets p to_take_and_enter) next_word (take n)
ticket_take-grants_alone s p n within is served = grind arith

pub ticket_serve-gives : (s : Plain) (p n : ℕ) → length s.tickets ≤ next_word s → serving_word s ≡ n → GivesWord s (serves p) serving_word (served n)
ticket_serve-gives s p n within served may = grind arith
