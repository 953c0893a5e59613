use Rattle.std.specs.Option.{option_copied}
use Rattle.spin_fair.proofs.fair.texts.FairMutexDebug.fmt.Goals as goal

pub returns : goal.returns
returns g c = (option_copied c.map.result, c.write_named.ensures)
