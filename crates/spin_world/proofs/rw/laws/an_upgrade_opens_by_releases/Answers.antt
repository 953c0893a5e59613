use Rattle.spin_world.proofs.Standing.{opens_by_releases}
use Rattle.spin_world.proofs.rw.laws.an_upgrade_opens_by_releases.Goals as goal

pub returns : goal.returns
returns g c = λ rw n past further. opens_by_releases rw.value rw.cap n past further
