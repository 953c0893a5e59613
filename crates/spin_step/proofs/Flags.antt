-- The step functions of a flag decide as the plain lock does.
use Rattle.std.proofs.Common.{◌≡◌, ℕ, Bool, false, arith, length-append}
use Rattle.std.specs.Option.{option_map}
use Rattle.spin_step.specs.Plain.{Plain, Kind, gets, releases, to_write, flag_word}
use Rattle.spin_step.specs.Flags.{lock}
use Rattle.spin_step.specs.Steps.{bit, Decides, GivesWord}
use Rattle.spin_step.proofs.Holders.{length-without_holder, is_empty-none}

pub flag_lock-grants : (s : Plain) (p : ℕ) (w : Bool) → flag_word s ≡ bit w → Decides s (gets p to_write) flag_word (option_map bit (lock w))
flag_lock-grants s p w e = grind (arith, length-append)

pub flag_unlock-gives : (s : Plain) (p : ℕ) (k : Kind) (w : Bool) → flag_word s ≡ bit w → GivesWord s (releases p k) flag_word (bit false)
flag_unlock-gives s p k w e found = grind (arith, length-without_holder p k s.holders found)

-- the rules that the contract of `unlock` uses
pub ruleset gives = (length-without_holder)
