use Rattle.std.specs.Option.{option_copied}
use Rattle.spin_once.proofs.once.texts.OnceDebug.fmt.Goals as goal

pub returns : goal.returns
returns g c = (option_copied c.get.result, c.write_once.ensures)
