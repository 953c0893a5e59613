-- The step functions of seats decide as the plain lock does.
use Rattle.std.proofs.Common.{◌≡◌, ℕ, ◌-◌, arith, nat_lt, length-append}
use Rattle.spin_step.specs.Plain.{Plain, reading, gets, releases, to_read, may_come}
use Rattle.spin_step.specs.Steps.{Decides, GivesWord}
use Rattle.spin_step.proofs.Holders.{length-without_holder}
use Rattle.spin_step_more.proofs.Readers.{nobody_against}
use Rattle.spin_seats.specs.Seats.{AllRead, seats, seats_word, entered}

-- if all holders read, the plain lock has a free seat exactly if the word is below the cap
pub open_is : (s : Plain) (n w : ℕ) → AllRead s → s.cap ≡ seats n → seats_word s ≡ w → may_come reading s ≡ nat_lt w (seats n)
open_is s n w all room is = grind (arith, nobody_against s.holders all)

pub enter-grants : (s : Plain) (p n w : ℕ) → AllRead s → s.cap ≡ seats n → seats_word s ≡ w → Decides s (gets p to_read) seats_word (entered n w)
enter-grants s p n w all room is = grind (arith, open_is s n w all room is, length-append)

pub leave-gives : (s : Plain) (p w : ℕ) → seats_word s ≡ w → GivesWord s (releases p reading) seats_word (w - 1)
leave-gives s p w is = λ found. omega (arith, is, length-without_holder p reading s.holders found)
