use Rattle.spin_world_core.proofs.Names.{◌≡◌, ℕ, List, ◌++◌, length, take, subst, arith, IsReached}
use Rattle.spin_world_core.proofs.Transcripts.{tells_after}
use Rattle.spin_world_core.proofs.Playing.{can_reached, further}
use Rattle.spin_world_core.proofs.Joined.{promised_after}
use Rattle.spin_world_core.proofs.Begins.{begins_told}
use Rattle.spin_world_core.proofs.world.World.run.Goals as goal

pub play_into-requires-clause-can : goal.play_into-requires-clause-can
play_into-requires-clause-can g c = grind (arith, further, can_reached)

pub invariant_of-self : goal.invariant_of-self
invariant_of-self g c = grind (arith, further)

pub returns-in_err-begins-clause-reached : goal.returns-in_err-begins-clause-reached
returns-in_err-begins-clause-reached g c = rw (← c.self.view_is) c.self.invariant

pub returns-in_err-begins-clause-promised : goal.returns-in_err-begins-clause-promised
returns-in_err-begins-clause-promised g c =
    promised_after (g.O.Object.machine c.args.self.now.object) c.args.self.now.state c.args.schedule.now (c.laws.ensures c.args.self.now.object)

pub returns-in_err-events-clause-reached : goal.returns-in_err-events-clause-reached
returns-in_err-events-clause-reached g c = rw (← c.self.view_is) c.self.invariant

pub returns-in_err-events-clause-promised : goal.returns-in_err-events-clause-promised
returns-in_err-events-clause-promised g c =
    promised_after (g.O.Object.machine c.args.self.now.object) c.args.self.now.state c.args.schedule.now (c.laws.ensures c.args.self.now.object)

pub returns-clause-reached : goal.returns-clause-reached
returns-clause-reached g c = grind (arith, further)

pub returns-clause-promised : goal.returns-clause-promised
returns-clause-promised g c =
    promised_after (g.O.Object.machine c.args.self.now.object) c.args.self.now.state c.args.schedule.now (c.laws.ensures c.args.self.now.object)

pub returns-clause-tells : goal.returns-clause-tells
returns-clause-tells g c =
    rw (← c.self.view_is) (tells_after (g.O.Object.machine c.self.inside.object) _ _ _ c.play_into.ensures.events)

pub returns-clause-begins : goal.returns-clause-begins
returns-clause-begins g c = begins_told _ c.play_into.new.events.items c.play_into.ensures.events
