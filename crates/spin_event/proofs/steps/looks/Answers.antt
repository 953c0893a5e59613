use Rattle.std.proofs.Common.{inl}
use Rattle.spin_event.specs.Threads.{Looks}
use Rattle.spin_event.proofs.Threads.{looks_at, tells, may_leave, is_none, is_some_one}
use Rattle.spin_event.proofs.steps.looks.Goals as goal

pub load_second-counted-requires : goal.load_second-counted-requires
load_second-counted-requires c = (inl c.nothing.ensures, looks_at c.args.permit.key c.args.permit.view c.requires.0 c.requires.1)

pub leave-left-requires : goal.leave-left-requires
leave-left-requires c = let (v, e, log, es, so) = tells _ _ _ (Looks c.args.permit.view) c.load_second-counted.result.0 c.load_second-counted.result.1.view c.load_second-counted.ensures.moved in record { rests = may_leave c.load_second-counted.result.1.key c.load_second-counted.result.1.view v e so.0 }

pub returns : goal.returns
returns c = let (v, e, log, es, so) = tells _ _ _ (Looks c.args.permit.view) c.load_second-counted.result.0 c.load_second-counted.result.1.view c.load_second-counted.ensures.moved in (v, log, es, c.load_second-counted.result.0, so, (λ e. is_none c.load_second-counted.result.0 e), (λ e none. is_some_one c.load_second-counted.result.0 e none))
