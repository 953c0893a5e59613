use Rattle.std.proofs.Common.{◌≡◌, ◌<◌, ℕ, Option, Some, length, arith, not, refl, true}
use Rattle.spin_step.specs.Plain.{Plain, upgradable, is_open_to, to_upgrade}
use Rattle.spin_step.specs.Parties.{entries}
use Rattle.spin_step.specs.declared.place.Hold.{Hold}
use Rattle.spin_step.specs.declared.place.Hold.TheVariants as hold
use Rattle.spin_step_more.specs.declared.rw_calls.RwCall.TheVariants.{TryUpgrade}
use Rattle.spin_step_more.specs.declared.rw_calls.RwCall.{RwCall}
use Rattle.spin_step_more.specs.declared.rw_calls.RwPoint.{RwPoint}
use Rattle.spin_step_more.specs.declared.rw_calls.RwPoint.TheVariants.{First}
use Rattle.spin_world_core.specs.Runs.{Seen}
use Rattle.spin_world_core.proofs.Shapes.{InCall}
use Rattle.spin_step_more.specs.Readers.{reader_limit}
use Rattle.spin_world_core.proofs.Stands.{holds, entries_at}
use Rattle.spin_world.proofs.RwOwed.{holder_by, rw_notes, rw_facts}
use Rattle.spin_laws.proofs.Moments.{found}
use Rattle.spin_laws.proofs.answers.a_refused_try_upgrade_was_kept_out_at_a_moment.Goals as goal

not_alone : (s : Plain) (p : ℕ) → entries p s ≡ entries_at p (holds upgradable) → not (is_open_to s p to_upgrade) ≡ true → 1 < length s.holders
not_alone s p mine closed = grind (arith, holder_by p upgradable s mine, closed)

-- a party that tries to upgrade is an upgradable reader
stands : {T : Type 0} (opening : T) (p : ℕ) (l : RwPoint) (h : Option Hold) (seen : Seen ℕ T RwCall RwPoint)
    → InCall (rw_notes opening reader_limit) p TryUpgrade l h seen.plain seen.state.words (seen.span p) → entries p seen.plain ≡ entries_at p (holds upgradable)
stands opening p First (Some hold.Upgradable) seen call = call.knows.0.stand
stands opening p _ _ seen call = absurd call.knows

pub returns : goal.returns
returns g c = λ opening.
    found (rw_facts opening reader_limit) (λ p s. not (is_open_to s p to_upgrade)) (λ h. refl) (λ p l h seen call closed. not_alone seen.plain p (stands opening p l h seen call) closed)
