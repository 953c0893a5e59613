use Rattle.spin_examples.proofs.Transfers.{came_less_went}
use Rattle.spin_examples.proofs.ledger.a_balance_is_what_came_less_what_went.Goals as goal

pub returns : goal.returns
returns c opening balances journal account e = came_less_went opening balances journal account e
