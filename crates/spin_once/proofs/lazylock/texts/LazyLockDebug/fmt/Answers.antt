use Rattle.std.specs.Option.{option_copied}
use Rattle.spin_once.proofs.lazylock.texts.LazyLockDebug.fmt.Goals as goal

pub returns : goal.returns
returns g c = (option_copied c.get-pass.result.0, c.write_once.ensures)
