use Rattle.std.proofs.Common.{ℕ, inl}
use Rattle.spin_event.proofs.Threads.{after_step}
use Rattle.spin_event.proofs.steps.counts.Goals as goal

pub add_second-permit-requires : goal.add_second-permit-requires
add_second-permit-requires g c = (inl c.nothing.ensures, c.requires)

pub returns : goal.returns
returns g c = after_step _ _ _ (λ log es n v. g.M.Play.told c.args.permit.key c.args.permit.view log es n v) c.add_second-permit.result.0 (λ log es v. (n : ℕ) × g.M.Play.told c.args.permit.key c.args.permit.view log es n v)
    c.add_second-permit.result.1.view (λ log es v so. (c.add_second-permit.result.0, so)) c.add_second-permit.ensures.moved
