use Rattle.spin_world_core.specs.Users.{seen_at}
use Rattle.spin_world_core.specs.Runs.{scene}
use Rattle.spin_world_core.proofs.Every.{kept}
use Rattle.spin_world_core.proofs.Reached.{good}
use Rattle.spin_step_more.specs.FairCalls.{fair_machine}
use Rattle.spin_world.proofs.Fairness.{comes_after_starvers}
use Rattle.spin_world.proofs.FairOwed.{fair_facts}
use Rattle.spin_world.proofs.fair.laws.starvers_come_first.Goals as goal

pub returns : goal.returns
returns g c = λ fair n past p move. let m = fair_machine fair.value fair.cap fair.patience in
    let f = fair_facts fair.value fair.cap fair.patience in
    let before = seen_at m n past in
    let keeps = (kept f before p move (good f n past)).keeps in
    comes_after_starvers before.plain p (scene m before p move).change keeps.opens keeps.belongs
