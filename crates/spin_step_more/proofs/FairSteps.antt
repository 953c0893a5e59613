-- The step functions of a fair lock decide as the plain lock does.
use Rattle.std.proofs.Common.{◌≡◌, ℕ, ◌/◌, ◌%◌, true, [], length, arith, length-append}
use Rattle.std.specs.Prelude.{min}
use Rattle.spin_step.specs.Plain.{Plain, Kind, is_starver, gets, releases, stops_starving, to_lock_unregistered, to_lock_starving, to_lock_starving_alone, to_starve, fair_word}
use Rattle.spin_step.specs.Parties.{is_held}
use Rattle.spin_step.specs.Steps.{Decides, GivesWord}
use Rattle.spin_step_more.specs.Starvers.{most_starvers, is_held_word, lock, starve, unstarved, lock_fair, lock_starved, unlocked}
use Rattle.spin_step.specs.Parties.{OneHolds}
use Rattle.spin_step.proofs.Holders.{length-without_holder}
use Rattle.spin_step.proofs.Starvers.{length-without_starver}

-- the word's lowest bit shows the holder, the rest of it counts the starvers
pub flag_is : (s : Plain) (w : ℕ) → OneHolds s → fair_word s ≡ w → (length s.holders ≡ w % 2) × (length s.starvers ≡ w / 2)
flag_is s w one is = (omega (arith, one, is), omega (arith, one, is))

-- The step functions.

pub fair_lock-grants : (s : Plain) (p w : ℕ) → fair_word s ≡ w → Decides s (gets p to_lock_unregistered) fair_word (lock w)
fair_lock-grants s p w is = grind (arith, length-append)

pub fair_starve-grants : (s : Plain) (p w cap : ℕ) → OneHolds s → s.cap ≡ min cap most_starvers → fair_word s ≡ w → Decides s (gets p to_starve) fair_word (starve cap w)
fair_starve-grants s p w cap one room is = grind (arith, length-append)

pub fair_lock_fair-grants : (s : Plain) (p w : ℕ) → OneHolds s → is_starver p s.starvers ≡ true → fair_word s ≡ w → Decides s (gets p to_lock_starving_alone) fair_word (lock_fair w)
fair_lock_fair-grants s p w one starves is = grind (arith, length-append)

pub fair_lock_starved-grants : (s : Plain) (p w : ℕ) → OneHolds s → is_starver p s.starvers ≡ true → fair_word s ≡ w → Decides s (gets p to_lock_starving) fair_word (lock_starved w)
fair_lock_starved-grants s p w one starves is = grind (arith, length-append)

pub fair_unstarve-gives : (s : Plain) (p w : ℕ) → fair_word s ≡ w → GivesWord s (stops_starving p) fair_word (unstarved w)
fair_unstarve-gives s p w is = λ found. omega (arith, length-without_starver p s.starvers found, is)

pub fair_unlock-gives : (s : Plain) (p : ℕ) (k : Kind) (w : ℕ) → fair_word s ≡ w → GivesWord s (releases p k) fair_word (unlocked w)
fair_unlock-gives s p k w is = λ found. omega (arith, length-without_holder p k s.holders found, is)

pub fair_is_locked-tells : (s : Plain) (w : ℕ) → OneHolds s → s.tickets ≡ [] → fair_word s ≡ w → is_held s ≡ is_held_word w
fair_is_locked-tells s w one queue is = grind arith

-- the rules for the contracts of functions that never fail
pub ruleset gives = (fair_unstarve-gives, fair_unlock-gives)
