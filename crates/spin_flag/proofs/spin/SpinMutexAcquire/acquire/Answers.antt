use Rattle.std.proofs.Common.{subst}
use Rattle.spin_step.specs.declared.flag_calls.FlagCall.TheVariants.{Lock}
use Rattle.spin_flag.specs.Passes.{Grants}
use Rattle.spin_flag.proofs.spin.SpinMutexAcquire.acquire.Goals as goal

pub returns : goal.returns
returns g c = subst (λ new. Grants Lock new c.acquire.result) c.enter-session.ensures c.acquire.ensures
