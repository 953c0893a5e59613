use Rattle.spin_once.specs.Accounts.{Moves}
use Rattle.spin_once.specs.OncePasses.{given, party, moves_made}
use Rattle.spin_laws.proofs.uses.look_at_a_once.Goals as goal

pub returns : goal.returns
unfolding Moves
returns g c =
    let law = c.a_look_at_a_once_was_so_at_a_moment.ensures in let was = c.args.pass in let there = c.is_completed.result.0 in let now = c.is_completed.result.1 in
    law there (given was) (party was) (party now) (moves_made was) (moves_made now) c.is_completed.ensures.2.0
