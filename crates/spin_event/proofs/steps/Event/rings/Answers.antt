use Rattle.std.proofs.Common.{None, inl}
use Rattle.spin_core.specs.Cell.{by_first}
use Rattle.spin_event.specs.Threads.{Listens}
use Rattle.spin_event.proofs.Threads.{listens, fresh, tells, may_leave}
use Rattle.spin_event.proofs.steps.Event.rings.Goals as goal

pub load-rings-requires : goal.load-rings-requires
load-rings-requires c = (inl c.nothing.ensures, fresh c.enter.result.key c.enter.result.view (by_first (λ n. n)) (Listens None) c.enter.ensures.fresh.0 (listens c.enter.result.key))

pub leave-left-requires : goal.leave-left-requires
leave-left-requires c = let (v, e, log, es, so) = tells _ _ _ (Listens None) c.load-rings.result.0 c.load-rings.result.1.view c.load-rings.ensures.moved in record { rests = may_leave c.load-rings.result.1.key c.load-rings.result.1.view v e so.0 }

pub returns : goal.returns
returns c = let (v, e, log, es, so) = tells _ _ _ (Listens None) c.load-rings.result.0 c.load-rings.result.1.view c.load-rings.ensures.moved in (v, log, es, so)
