use Rattle.std.specs.Fn.{FnOnceReturnsAt}
use Rattle.spin_history.proofs.Entries.{at_both}
use Rattle.spin_history.proofs.register.Register.update.Goals as goal

pub change-requires-clause-grows : goal.change-requires-clause-grows
change-requires-clause-grows g c = λ x y answer changed. c.requires.grows x y (at_both (FnOnceReturnsAt g.F.FnOnce c.args.by) changed.shows changed.leaves changed.met)

pub returns-clause-called : goal.returns-clause-called
returns-clause-called g c = let changed = c.change.ensures.called in at_both (FnOnceReturnsAt g.F.FnOnce c.args.by) changed.shows changed.leaves changed.met
