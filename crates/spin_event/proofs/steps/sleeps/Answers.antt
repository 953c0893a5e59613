use Rattle.std.proofs.Common.{inl}
use Rattle.spin_event.specs.Threads.{Parks}
use Rattle.spin_event.proofs.Threads.{parks_with, after_step}
use Rattle.spin_event.proofs.steps.sleeps.Goals as goal

pub park-permit-requires : goal.park-permit-requires
park-permit-requires g c = (inl c.nothing.ensures, parks_with c.args.permit.key c.args.permit.view c.args.heard c.requires)

pub returns : goal.returns
returns g c = after_step _ _ _ (λ log es n v. Parks c.args.heard c.args.permit.view log es n v) c.args.heard (λ log es v. Parks c.args.heard c.args.permit.view log es c.args.heard v) c.park-permit.result.0.view (λ log es v so. so) c.park-permit.ensures.moved
