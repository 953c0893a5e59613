use Rattle.std.proofs.Common.{◌∙◌}
use Rattle.spin_examples.proofs.Logged.{stays}
use Rattle.spin_examples.proofs.cache.logged.LoggedTable.answer.Goals as goal

pub returns-clause-same : goal.returns-clause-same
returns-clause-same g c = λ answer e. c.answer.ensures.exact ∙ c.args.self.now.told c.args.key.now ∙ stays _ _ _ answer c.observe.ensures.0 e
