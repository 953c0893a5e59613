use Rattle.std.proofs.Common.{ℕ, Option, subst}
use Rattle.spin_event.specs.Threads.{After, EventParty, Parks}
use Rattle.spin_event.proofs.steps.Counted.park_timeout.Goals as goal

pub returns : goal.returns
returns g c = subst (λ (x : ℕ × Option EventParty). After (λ log es v. Parks x.0 x.1 log es x.0 v) c.sleeps-permit.result.view) c.self.view_is c.sleeps-permit.ensures
