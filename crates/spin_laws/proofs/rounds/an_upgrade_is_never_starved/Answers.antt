use Rattle.spin_laws.proofs.Names.{HasAsked, either, grants_party, refuses_weakly, rw_machine}
use Rattle.spin_laws.proofs.Endless.{at_last}
use Rattle.spin_laws.proofs.Rw.{upgrades_in_three}
use Rattle.spin_laws.proofs.rounds.an_upgrade_is_never_starved.Goals as goal

pub returns : goal.returns
returns g c = λ object n past. let m = rw_machine object.value object.cap in
    at_last m HasAsked 3 (λ p. either (grants_party m p) (refuses_weakly p)) n past (upgrades_in_three object.value object.cap n past)
