-- The phase of a `Once` belongs to the party that runs its closure.
use Rattle.std.proofs.Common.{◌≡◌, ℕ, Option, arith}
use Rattle.spin_step.specs.Plain.{Plain, running, Change}
use Rattle.spin_step.specs.Parties.{apply_some, IsOpenStep}

-- while a party runs a closure, no step of another party changes the phase
pub runs-others : (s : Plain) (p q : ℕ) (step : Option Change) → (q ≡ p → ⊥) → IsOpenStep s q step → s.phase ≡ running p → (apply_some s step).phase ≡ running p
runs-others s p q step ne may is = grind arith
