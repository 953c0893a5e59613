use Rattle.std.proofs.Common.{false, subst}
use Rattle.spin_session.specs.Turns.{spot_of}
use Rattle.spin_step.specs.declared.answer.Answer.TheVariants.{Granted, Refused}
use Rattle.spin_rwlock.specs.Rw.{call_of}
use Rattle.spin_rwlock.specs.RwPasses.{Calls, Lends}
use Rattle.spin_rwlock.proofs.RwCalls.{tries}
use Rattle.spin_rwlock.proofs.rwlock.pass.Pass.try_lend.Goals as goal

pub try_for-requires-clause-tries : goal.try_for-requires-clause-tries
try_for-requires-clause-tries g c = rw (c.call_of.ensures, c.hold.ensures, c.hold-2.ensures) (tries c.self.inside.session.permit.key g.K.Kind.hold g.met.K.Kind.comes)

pub returns-in-Ok-clause-granted : goal.returns-in-Ok-clause-granted
returns-in-Ok-clause-granted g c =
    let call = call_of g.K.Kind.hold false in let made = rw (c.call_of.ensures, c.hold.ensures) at c.in-Ok.ensures.granted in
    subst (λ b. Lends call Granted b c.lent.result) c.self.view_is (c.lent.ensures.lends made.1 call Granted (spot_of c.self.inside.session) made.2)

pub returns-in-Err-clause-refused : goal.returns-in-Err-clause-refused
returns-in-Err-clause-refused g c =
    subst (λ b. Calls (call_of g.K.Kind.hold false) Refused b (spot_of c.in-Err.session)) c.self.view_is (rw (c.call_of.ensures, c.hold.ensures) at c.in-Err.ensures.refused.1)
