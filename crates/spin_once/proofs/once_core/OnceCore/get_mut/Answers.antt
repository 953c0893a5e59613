use Rattle.std.proofs.Common.{refl}
use Rattle.spin_once.specs.OnceValues.{lent_key}
use Rattle.spin_once.proofs.Kept.{stabilizes, lends}
use Rattle.spin_once.proofs.once_core.OnceCore.get_mut.Goals as goal

pub get_stable-requires-clause-stable : goal.get_stable-requires-clause-stable
get_stable-requires-clause-stable g c = stabilizes g.S.Seed.makes (lent_key c.args.self.now.cell) refl c.requires.any

pub get_stable-requires-clause-lends : goal.get_stable-requires-clause-lends
get_stable-requires-clause-lends g c = lends g.S.Seed.makes c.args.self.now.cell
