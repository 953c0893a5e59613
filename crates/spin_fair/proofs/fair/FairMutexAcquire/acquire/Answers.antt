use Rattle.std.proofs.Common.{subst}
use Rattle.spin_step_more.specs.declared.fair_calls.FairCall.TheVariants.{Lock}
use Rattle.spin_fair.specs.FairPasses.{Grants}
use Rattle.spin_fair.proofs.fair.FairMutexAcquire.acquire.Goals as goal

pub returns : goal.returns
returns g c = subst (λ new. Grants Lock new c.acquire.result) c.enter-session.ensures c.acquire.ensures
