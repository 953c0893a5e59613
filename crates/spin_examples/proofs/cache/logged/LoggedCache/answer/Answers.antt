use base.Growing.{prefix_trans}
use Rattle.spin_examples.proofs.cache.logged.LoggedCache.answer.Goals as goal

pub returns-clause-later : goal.returns-clause-later
returns-clause-later g c = prefix_trans _ _ _ c.answer.ensures.later c.fill.ensures.later
