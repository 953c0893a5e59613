use Rattle.spin_seated.proofs.Passes.{may_step}
use Rattle.spin_seated.proofs.lock.SeatedLock.load.Goals as goal

pub load-requires : goal.load-requires
load-requires g c = may_step g.C.Calls.machine _ _ _ c.in-Some.is c.place.invariant c.place.view_is c.laws.ensures.tracked _ _ _ 0 0 (λ n. n) g.T.Tells.told c.requires.own c.requires.word c.args.self.now.two_words c.requires.owes
