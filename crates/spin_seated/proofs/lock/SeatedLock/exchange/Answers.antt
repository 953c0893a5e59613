use Rattle.std.proofs.Common.{◌==◌}
use prog.Atomic.{either}
use Rattle.spin_seated.proofs.Passes.{may_step}
use Rattle.spin_seated.proofs.lock.SeatedLock.exchange.Goals as goal

pub compare_exchange-requires : goal.compare_exchange-requires
compare_exchange-requires g c = may_step g.C.Calls.machine _ _ _ c.in-Some.is c.place.invariant c.place.view_is c.laws.ensures.tracked _ _ _ c.args.old c.args.new (λ n. either (n == c.args.old) c.args.new n) g.T.Tells.told c.requires.own c.requires.word c.args.self.now.two_words c.requires.owes
