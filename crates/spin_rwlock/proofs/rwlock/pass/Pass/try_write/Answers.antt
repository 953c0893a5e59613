use Rattle.std.proofs.Common.{subst}
use Rattle.spin_step.specs.declared.answer.Answer.TheVariants.{Refused}
use Rattle.spin_session.specs.Turns.{spot_of}
use Rattle.spin_step_more.specs.declared.rw_calls.RwCall.TheVariants.{TryWrite}
use Rattle.spin_rwlock.specs.RwPasses.{Calls, Grants}
use Rattle.spin_rwlock.proofs.rwlock.pass.Pass.try_write.Goals as goal

pub returns-in-Ok-clause-granted : goal.returns-in-Ok-clause-granted
returns-in-Ok-clause-granted g c = let made = c.in-Ok.ensures.granted in
    subst (λ b. Grants TryWrite b c.written.result) c.self.view_is (c.written.ensures.grants made.1 TryWrite (spot_of c.self.inside.session) made.2)

pub returns-in-Err-clause-refused : goal.returns-in-Err-clause-refused
returns-in-Err-clause-refused g c = subst (λ b. Calls TryWrite Refused b (spot_of c.in-Err.session)) c.self.view_is c.in-Err.ensures.refused.2
