use Rattle.spin_once.proofs.Valued.{agrees}
use Rattle.spin_once.proofs.once_core.pass.Pass.agrees.Goals as goal

pub returns : goal.returns
returns g c = let r = c.requires in agrees c.args.self.now.0.opening _ _ _ _ r.told c.compare.ensures r.mine (rw (← r.lock.0) at r.theirs)
