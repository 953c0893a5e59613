use Rattle.std.proofs.Common.{rules}
use Rattle.spin_once.specs.Accounts.{here}
use Rattle.spin_once.proofs.once.Once.call_once.Goals as goal

pub returns : goal.returns
returns g c = (here c.read-account.result.1, search rules)
