use Rattle.std.proofs.Common.{rules}
use Rattle.spin_once.specs.Accounts.{here}
use Rattle.spin_once.proofs.lazylock.LazyLock.force.Goals as goal

pub returns-clause-found : goal.returns-clause-found
returns-clause-found g c = (here c.read-account.result.1, search rules)
