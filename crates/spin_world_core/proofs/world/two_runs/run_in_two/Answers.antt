use Rattle.std.proofs.Common.{rules}
use Rattle.std.proofs.Common.{refl}
use Rattle.spin_world_core.proofs.Begins.{begins_told}
use Rattle.spin_world_core.proofs.Joined.{two_in_one, promised_after}
use Rattle.spin_world_core.proofs.world.two_runs.run_in_two.Goals as goal

pub returns-in_err-second-clause-promised : goal.returns-in_err-second-clause-promised
returns-in_err-second-clause-promised g c = promised_after (g.O.Object.machine c.args.world.now.object) c.args.world.now.state c.args.schedule.now (c.laws.ensures c.args.world.now.object)

pub returns : goal.returns
returns g c =
    let first = c.in_ok-first.ensures in
    let second = c.in_ok-second.ensures in
    let split = c.split_at.ensures in
    let one = two_in_one g.O.Object.machine _ _ _ _ _ _ _ _ _ _ _ c.run.ensures.object split.front split.back
    split.front_len first.state second.state first.events second.events in
    record {
      state = one.0;
      events = one.1;
      tells = one.2;
      object = search rules;
      err = tt;
      reached = search rules;
      promised = promised_after (g.O.Object.machine c.args.world.now.object) c.args.world.now.state c.args.schedule.now (c.laws.ensures c.args.world.now.object);
      begins = (begins_told _ _ refl, first.begins, second.begins);
    }
