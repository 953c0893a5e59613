use Rattle.spin_seated.proofs.Passes.{may_step}
use Rattle.spin_seated.proofs.lock.SeatedLock.store.Goals as goal

pub store-requires : goal.store-requires
store-requires g c = may_step g.C.Calls.machine _ _ _ c.in-Some.is c.place.invariant c.place.view_is c.laws.ensures.tracked _ _ _ c.args.new 0 (λ _. c.args.new) (λ o n. g.T.Tells.told o c.args.new) c.requires.own c.requires.word c.args.self.now.two_words c.requires.owes
