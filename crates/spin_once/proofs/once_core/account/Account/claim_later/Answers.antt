use Rattle.spin_once.proofs.Accounts.{gets}
use Rattle.spin_once.proofs.once_core.account.Account.claim_later.Goals as goal

pub invariant_of-result : goal.invariant_of-result
invariant_of-result g c = let f = c.go_on-next.ensures in record { reads = (gets f.made c.requires.closure f.stops.0 c.in-Answers.is).view }
