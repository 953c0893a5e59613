use Rattle.std.proofs.Common.{◌≡◌, ℕ, ◌<◌, List, [], ◌∷◌, arith, eq-eqb}
use Rattle.spin_step.specs.Calls.{Mark}
use Rattle.spin_step.specs.declared.answer.Answer.TheVariants.{Granted}
use Rattle.spin_step_more.specs.Readers.{reader_limit}
use Rattle.spin_step_more.specs.declared.rw_calls.RwCall.TheVariants.{Upgrade}
use Rattle.spin_world.proofs.RwOwed.{rw_facts}
use Rattle.spin_world_core.specs.Runs.{own, own_count}
use Rattle.spin_laws.specs.Counts.{HasChanged}
use Rattle.spin_laws.proofs.Counts.{steps_of_call}
use Rattle.spin_laws.proofs.limits.an_upgrade_of_a_rwlock_asks_by_its_first_step.Goals as goal

-- a call that makes its first plain step in fewer than two steps has made it by any step of its own
has_changed : (p : ℕ) (step : Mark) (older : List Mark) → step.party ≡ p → (own p (step ∷ older) ≡ [] → own_count p (step ∷ older) < 1) → HasChanged p (step ∷ older)
has_changed p step older its within none = absurd (grind (arith, within none, eq-eqb step.party p its))

pub returns : goal.returns
returns g c = λ opening view now old new made. steps_of_call (rw_facts opening reader_limit) Upgrade Granted view now old new HasChanged (λ h p step older its within. has_changed p step older its within) made
