-- Schedules, call by call.
use Rattle.std.specs.Prelude.{ℕ, zero, suc, List, [], ◌∷◌}
use Rattle.spin_step.specs.declared.schedule.Move.{Move}
use Rattle.spin_step.specs.declared.schedule.Move.TheVariants.{Begin, Step, Weak}

module _ {C V : Type 0} (p : ℕ) where
  -- n steps of party p
  abbrev pub steps : ℕ → List (ℕ × Move C V)
  steps zero = []
  steps (suc n) = (p, Step) ∷ steps n

  -- party p begins a call, and makes n steps
  abbrev pub calls : C → ℕ → List (ℕ × Move C V)
  calls c n = (p, Begin c) ∷ steps n

  -- a weak move of party p
  abbrev pub weak : List (ℕ × Move C V)
  weak = (p, Weak) ∷ []
