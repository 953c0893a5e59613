use Rattle.std.proofs.Common.{true, None, Some, sym, ap, ◌∙◌}
use Rattle.spin_step.specs.declared.answer.Answer.TheVariants.{Granted}
use Rattle.spin_session.specs.Meaning.{use_at}
use Rattle.spin_session.specs.Turns.{spot_of}
use Rattle.spin_session.proofs.Course.{settled_at_once, settled_in_time}
use Rattle.spin_rwlock.specs.Rw.{call_of, rw_meaning, rw_tables}
use Rattle.spin_rwlock.proofs.RwCalls.{lent_uses, reads}
use Rattle.spin_rwlock.proofs.rwlock.pass.lend.Goals as goal

pub lent-requires : goal.lent-requires
lent-requires g c =
    let h = g.K.Kind.hold in let f = rw (c.call_of-call.ensures, c.hold.ensures) at c.begin_ahead-next.ensures in let x = c.begin_ahead-next.result in let p = spot_of c.args.session in
    let all = settled_at_once rw_tables rw_meaning (call_of h true) None p (spot_of x.3) x.0 f.comes Granted (Some h) (reads p.0 h g.met.K.Kind.comes) f.made.knows _ _ c.in-Answers.is in
    (all.0, (f.sees (λ off. lent_uses h g.met.K.Kind.comes (ap (use_at rw_meaning) (sym all.0.2) ∙ off))).0)

pub returns-in-Answers : goal.returns-in-Answers
returns-in-Answers g c =
    let h = g.K.Kind.hold in let f = rw (c.call_of-call.ensures, c.hold.ensures) at c.begin_ahead-next.ensures in let x = c.begin_ahead-next.result in let p = spot_of c.args.session in
    let all = settled_at_once rw_tables rw_meaning (call_of h true) None p (spot_of x.3) x.0 f.comes Granted (Some h) (reads p.0 h g.met.K.Kind.comes) f.made.knows _ _ c.in-Answers.is in
    c.lent.ensures.lends f.made.last (call_of h true) Granted p all.1

pub lent-requires-in-Continue : goal.lent-requires-in-Continue
lent-requires-in-Continue g c =
    let h = g.K.Kind.hold in let f = rw (c.call_of-call.ensures, c.hold.ensures) at c.begin_ahead-next.ensures in let x = c.begin_ahead-next.result in
    let w = rw (c.call_of-call.ensures, c.hold.ensures) at c.wait.ensures in let p = spot_of c.args.session in
    let all = settled_in_time rw_tables rw_meaning (call_of h true) None p (spot_of x.3) x.0 f.comes Granted (Some h) (reads p.0 h g.met.K.Kind.comes) (spot_of c.wait.result.0) _ c.in-Continue.is w.knows w.ended in
    (all.0, (w.sees c.args.session.permit.value f.sees (λ off. lent_uses h g.met.K.Kind.comes (ap (use_at rw_meaning) (sym all.0.2) ∙ off))).0)

pub returns-in-Continue : goal.returns-in-Continue
returns-in-Continue g c =
    let h = g.K.Kind.hold in let f = rw (c.call_of-call.ensures, c.hold.ensures) at c.begin_ahead-next.ensures in let x = c.begin_ahead-next.result in
    let w = rw (c.call_of-call.ensures, c.hold.ensures) at c.wait.ensures in let p = spot_of c.args.session in
    let all = settled_in_time rw_tables rw_meaning (call_of h true) None p (spot_of x.3) x.0 f.comes Granted (Some h) (reads p.0 h g.met.K.Kind.comes) (spot_of c.wait.result.0) _ c.in-Continue.is w.knows w.ended in
    c.lent-in-Continue.ensures.lends w.last (call_of h true) Granted p all.1
