use Rattle.std.proofs.Common.{refl}
use Rattle.spin_examples.proofs.cache.Cache.fill.Goals as goal

pub add-requires-clause-may : goal.add-requires-clause-may
add-requires-clause-may g c = c.requires.may c.in_ok-value.value (_, c.in_ok-value.ensures, refl)
