use Rattle.spin_laws.proofs.Several.{no_deadlock}
use Rattle.spin_laws.proofs.order.some_party_goes_on.Goals as goal

pub returns : goal.returns
returns c = λ n lock waits. no_deadlock n lock waits
