use Rattle.spin_run.proofs.Commands.{asks_count}
use Rattle.spin_run.proofs.run.command.count_of.Goals as goal

pub returns-clause-some : goal.returns-clause-some
returns-clause-some c =
    asks_count c.args.words.now _ _ _ _ _ c.if-words-ne3.false _ c.ne.ensures c.if-ne.false c.in_ok-workers.ensures.some c.if-workers.false c.in_ok-times.ensures.some c.if-times-gt-MAX_TIMES.false
