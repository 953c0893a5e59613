use Rattle.std.proofs.Common.{arith}
use Rattle.spin_examples.proofs.Transfers.{fits}
use Rattle.spin_examples.proofs.ledger.make.Goals as goal

pub overflow_add-balances : goal.overflow_add-balances
overflow_add-balances c =
    let room = fits c.args.transfer.now c.args.balances.now c.requires.possible in
    let few = c.requires.fits in
    omega arith
