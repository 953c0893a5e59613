use Rattle.std.proofs.Common.{subst}
use Rattle.spin_step.specs.declared.answer.Answer.TheVariants.{Count}
use Rattle.spin_step_more.specs.declared.rw_calls.RwCall.TheVariants.{WriterCount}
use Rattle.spin_session.specs.Turns.{spot_of}
use Rattle.spin_rwlock.specs.RwPasses.{Calls}
use Rattle.spin_rwlock.proofs.rwlock.pass.Pass.writer_count.Goals as goal

pub returns-clause-made : goal.returns-clause-made
returns-clause-made g c = let arm = c.in-Count-default in
    subst (λ from. Calls WriterCount (Count arm.number) from (spot_of c.ask.result.1)) c.self.view_is (rw arm.is-0 at c.ask.ensures.calls)
