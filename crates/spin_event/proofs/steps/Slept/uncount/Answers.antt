use Rattle.std.proofs.Common.{inl, subst}
use Rattle.spin_event.specs.Threads.{Uncounts}
use Rattle.spin_event.proofs.Threads.{uncounts, tells, may_leave}
use Rattle.spin_event.proofs.steps.Slept.uncount.Goals as goal

pub add_second-permit-requires : goal.add_second-permit-requires
add_second-permit-requires c = (inl c.nothing.ensures, uncounts c.self.inside.permit.key c.self.inside.permit.view c.self.invariant)

pub leave-left-requires : goal.leave-left-requires
leave-left-requires c = let (v, e, log, es, so) = tells _ _ _ (Uncounts c.self.inside.permit.view) c.add_second-permit.result.0 c.add_second-permit.result.1.view c.add_second-permit.ensures.moved in record { rests = may_leave c.add_second-permit.result.1.key c.add_second-permit.result.1.view v e so.0 }

pub returns : goal.returns
returns c = let (v, e, log, es, so) = tells _ _ _ (Uncounts c.self.inside.permit.view) c.add_second-permit.result.0 c.add_second-permit.result.1.view c.add_second-permit.ensures.moved in
    (v, log, es, c.add_second-permit.result.0, subst (λ o. Uncounts o log es c.add_second-permit.result.0 v) c.self.view_is so)
