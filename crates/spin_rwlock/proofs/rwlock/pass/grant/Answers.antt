use Rattle.std.proofs.Common.{None, Some}
use Rattle.spin_step.specs.declared.answer.Answer.TheVariants.{Granted}
use Rattle.spin_step.specs.declared.place.Hold.TheVariants as hold
use Rattle.spin_step_more.specs.declared.rw_calls.RwCall.TheVariants.{Write}
use Rattle.spin_session.specs.Turns.{spot_of}
use Rattle.spin_session.proofs.Course.{settled_at_once, settled_in_time}
use Rattle.spin_rwlock.specs.Rw.{rw_meaning, rw_tables}
use Rattle.spin_rwlock.proofs.RwCalls.{writes}
use Rattle.spin_rwlock.proofs.rwlock.pass.grant.Goals as goal

pub written-requires : goal.written-requires
written-requires g c =
    let f = c.begin_ahead-next in let p = spot_of c.args.session in
    (settled_at_once rw_tables rw_meaning Write None p (spot_of f.result.3) f.result.0 f.ensures.comes Granted (Some hold.Write) (writes p.0) f.ensures.made.knows _ _ c.in-Answers.is).0

pub returns-in-Answers : goal.returns-in-Answers
returns-in-Answers g c =
    let f = c.begin_ahead-next in let p = spot_of c.args.session in
    c.written.ensures.grants f.ensures.made.last Write p
    (settled_at_once rw_tables rw_meaning Write None p (spot_of f.result.3) f.result.0 f.ensures.comes Granted (Some hold.Write) (writes p.0) f.ensures.made.knows _ _ c.in-Answers.is).1

pub written-requires-in-Continue : goal.written-requires-in-Continue
written-requires-in-Continue g c =
    let f = c.begin_ahead-next in let w = c.wait in let p = spot_of c.args.session in
    (settled_in_time rw_tables rw_meaning Write None p (spot_of f.result.3) f.result.0 f.ensures.comes Granted (Some hold.Write) (writes p.0) (spot_of w.result.0) _ c.in-Continue.is w.ensures.knows w.ensures.ended).0

pub returns-in-Continue : goal.returns-in-Continue
returns-in-Continue g c =
    let f = c.begin_ahead-next in let w = c.wait in let p = spot_of c.args.session in
    c.written-in-Continue.ensures.grants w.ensures.last Write p
    (settled_in_time rw_tables rw_meaning Write None p (spot_of f.result.3) f.result.0 f.ensures.comes Granted (Some hold.Write) (writes p.0) (spot_of w.result.0) _ c.in-Continue.is w.ensures.knows w.ensures.ended).1
