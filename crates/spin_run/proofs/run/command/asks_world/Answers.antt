use Rattle.std.proofs.Common.{◌∙◌, sym}
use Rattle.spin_run.proofs.Commands.{asks_world}
use Rattle.spin_run.proofs.run.command.asks_world.Goals as goal

pub returns-then-words-eq1-clause-yes : goal.returns-then-words-eq1-clause-yes
returns-then-words-eq1-clause-yes c same = asks_world c.args.words.now _ c.if-words-eq1.true (sym c.eq.ensures ∙ same)
