use Rattle.std.proofs.Common.{subst}
use Rattle.spin_world_core.specs.Transcripts.{SaysAfterAnyPast}
use Rattle.spin_world_core.proofs.Transcripts.{says_after}
use Rattle.spin_world_core.proofs.world.World.place.Goals as goal

pub returns-clause-says : goal.returns-clause-says
returns-clause-says g c =
    subst (λ w. SaysAfterAnyPast (g.O.Object.machine w.object) w.state c.args.party c.place.result) {x = record { object = c.self.inside.object; state = c.self.inside.table }} c.self.view_is
    (says_after (g.O.Object.machine c.self.inside.object) c.self.inside.table c.args.party (c.laws.ensures c.self.inside.object).keeps c.place.result c.place.ensures)
