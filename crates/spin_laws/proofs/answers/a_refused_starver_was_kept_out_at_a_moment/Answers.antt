use Rattle.std.proofs.Common.{◌≡◌, ◌⊎◌, ◌<◌, ℕ, true, Option, refl, arith, not}
use mathlib.Core.Logic.{inl, inr}
use Rattle.spin_step.specs.Plain.{is_open_to, is_starver, to_lock_starving, to_lock_starving_alone}
use Rattle.spin_step_more.specs.declared.fair_calls.FairCall.TheVariants.{StarverTryLock, StarverTryLockFair}
use Rattle.spin_step.specs.declared.place.Hold.{Hold}
use Rattle.spin_step_more.specs.declared.fair_calls.FairCall.{FairCall}
use Rattle.spin_step_more.specs.declared.fair_calls.FairPoint.{FairPoint}
use Rattle.spin_world_core.specs.Runs.{Seen}
use Rattle.spin_world_core.proofs.Shapes.{InCall}
use Rattle.spin_step.proofs.Starvers.{is_starver-from_entries, length-without_starver}
use Rattle.spin_fair.specs.Fair.{patience}
use Rattle.spin_step_more.specs.Starvers.{most_starvers}
use Rattle.spin_world.proofs.FairOwed.{fair_notes, fair_facts}
use Rattle.spin_laws.proofs.Moments.{found}
use Rattle.spin_laws.proofs.answers.a_refused_starver_was_kept_out_at_a_moment.Goals as goal

-- a party that makes this try is registered as a starver
starving : {T : Type 0} (opening : T) (c : FairCall) (p : ℕ) (l : FairPoint) (h : Option Hold) (seen : Seen ℕ T FairCall FairPoint) → (c ≡ StarverTryLock) ⊎ (c ≡ StarverTryLockFair)
    → InCall (fair_notes opening most_starvers patience) p c l h seen.plain seen.state.words (seen.span p) → is_starver p seen.plain.starvers ≡ true
starving opening c p l h seen is call = grind (arith, is, call.knows, is_starver-from_entries p seen.plain.starvers)

pub returns-clause-try_lock : goal.returns-clause-try_lock
returns-clause-try_lock g c = λ opening.
    found (fair_facts opening most_starvers patience) (λ p s. not (is_open_to s p to_lock_starving)) (λ h. refl) (λ p l h seen call closed.
    let found = starving opening StarverTryLock p l h seen (inl refl) call in grind (arith, found, closed))

pub returns-clause-try_lock_fair : goal.returns-clause-try_lock_fair
returns-clause-try_lock_fair g c = λ opening.
    found (fair_facts opening most_starvers patience) (λ p s. not (is_open_to s p to_lock_starving_alone)) (λ h. refl) (λ p l h seen call closed.
    let found = starving opening StarverTryLockFair p l h seen (inr refl) call in
    grind (arith, found, closed, length-without_starver p seen.plain.starvers))
