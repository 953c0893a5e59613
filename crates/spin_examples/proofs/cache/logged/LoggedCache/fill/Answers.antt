use Rattle.std.proofs.Common.{refl}
use base.Growing.{prefix_trans}
use Rattle.spin_examples.proofs.cache.logged.LoggedCache.fill.Goals as goal

pub add-requires-clause-may : goal.add-requires-clause-may
add-requires-clause-may g c = c.requires.may c.in_ok-value.value (_, c.in_ok-value.ensures, refl)

pub returns-clause-may : goal.returns-clause-may
returns-clause-may g c = g.met.C.Answers.respects_clone c.args.key c.in_ok-value.value c.in_ok-answer.answer c.in_ok-answer.ensures.cases (c.requires.may c.in_ok-value.value (_, c.in_ok-value.ensures, refl))

pub returns-clause-later : goal.returns-clause-later
returns-clause-later g c = prefix_trans _ _ _ c.answer.ensures.later c.in_ok-add.ensures.later
