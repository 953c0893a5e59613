use Rattle.std.specs.Fn.{FnOnceReturnsAt}
use Rattle.spin_history.proofs.Entries.{at_both}
use Rattle.spin_history.proofs.register.update.Goals as goal

pub change-requires-clause-grows : goal.change-requires-clause-grows
change-requires-clause-grows g c = λ x y answer changed. c.requires.grows x y (at_both (FnOnceReturnsAt g.F.FnOnce c.args.by) changed.shows changed.leaves changed.met)

pub returns : goal.returns
returns g c = let e = c.change.ensures in let changed = e.2.0 in (e.0, e.1, (at_both (FnOnceReturnsAt g.F.FnOnce c.args.by) changed.shows changed.leaves changed.met, e.2.1))
