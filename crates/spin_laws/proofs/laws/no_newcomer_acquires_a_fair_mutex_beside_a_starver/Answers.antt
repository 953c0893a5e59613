use Rattle.std.proofs.Common.{length, map}
use Rattle.spin_core.specs.Own.{kind}
use Rattle.spin_step_more.specs.Starvers.{most_starvers}
use Rattle.spin_fair.specs.Fair.{model, patience}
use Rattle.spin_world_core.specs.Users.{seen_at}
use Rattle.spin_world_core.specs.Runs.{scene}
use Rattle.spin_world_core.proofs.Every.{kept}
use Rattle.spin_world_core.proofs.Reached.{good}
use Rattle.spin_world.proofs.Fairness.{comes_after_starvers}
use Rattle.spin_world.proofs.FairOwed.{fair_facts}
use Rattle.spin_laws.proofs.laws.no_newcomer_acquires_a_fair_mutex_beside_a_starver.Goals as goal

pub returns : goal.returns
returns g c = λ opening word trace parties is.
    let run = is.2 in
    let n = length (map kind run.0) in
    let m = model opening.value in
    let f = fair_facts opening.value most_starvers patience in (
      n,
      run.6,
      λ past rest next at.
          let before = seen_at m n past in
          let keeps = (kept f before next.0 next.1 (good f n past)).keeps in
          comes_after_starvers before.plain next.0 (scene m before next.0 next.1).change keeps.opens keeps.belongs,
    )
