use Rattle.std.proofs.Common.{◌+◌, ◌-◌, ◌%◌, ◌^◌}
use Rattle.spin_seated.proofs.Passes.{may_step}
use Rattle.spin_seated.proofs.lock.SeatedLock.subtract.Goals as goal

pub fetch_sub-requires : goal.fetch_sub-requires
fetch_sub-requires g c = may_step g.C.Calls.machine _ _ _ c.in-Some.is c.place.invariant c.place.view_is c.laws.ensures.tracked _ _ _ c.args.by 0 (λ n. (n + (2 ^ 64 - c.args.by)) % 2 ^ 64) g.T.Tells.told c.requires.own c.requires.word c.args.self.now.two_words c.requires.owes
