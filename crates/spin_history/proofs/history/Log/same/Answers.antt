use Rattle.std.proofs.Common.{arith}
use base.Growing.{prefix_anti}
use Rattle.spin_history.proofs.history.Log.same.Goals as goal

pub returns : goal.returns
returns g c = grind (arith, prefix_anti)
