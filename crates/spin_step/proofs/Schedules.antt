-- Two schedules played one after the other.
use Rattle.std.proofs.Common.{◌≡◌, ℕ, List, [], ◌∷◌, ◌++◌, refl}
use Rattle.spin_step.specs.declared.schedule.Move.{Move}
use Rattle.spin_step.specs.Machines.{Machine}
use Rattle.spin_step.specs.Schedules.{State, happens, after}

module _ {W V C L A : Type 0} (m : Machine W V C L A) where
  pub after-append : (s : State W V C L) (xs ys : List (ℕ × Move C V)) → after m s (xs ++ ys) ≡ after m (after m s xs) ys
  after-append s [] ys = refl
  after-append s (x ∷ xs) ys = after-append (happens m s x.0 x.1).next xs ys
