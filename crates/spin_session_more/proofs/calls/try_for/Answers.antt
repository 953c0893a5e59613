use Rattle.std.proofs.Common.{Some, ap, ◌∙◌, sym}
use Rattle.spin_session.specs.Meaning.{seat_after}
use Rattle.spin_session.specs.Turns.{spot_of}
use Rattle.spin_session.proofs.Course.{under, ended, granted, refused, sees_then}
use Rattle.spin_session_more.proofs.calls.try_for.Goals as goal

pub returns-then-is_granted-clause-granted : goal.returns-then-is_granted-clause-granted
returns-then-is_granted-clause-granted g c =
    let a = c.args in let t = g.P.Runs.tables in let s = g.P.Runs.meaning in let from = spot_of a.session in let i = c.loop.invariant in
    let end = ended t s a.call a.holds from (spot_of c.loop.party) c.loop.next i.4 _ _ c.in-Answers.is in
    let all = granted t s a.call a.holds from (spot_of c.loop.party) i.2 _ _ end a.after c.requires.tries (sym c.is_granted.ensures ∙ c.if-is_granted.true) in
    (all.0, i.6, all.1)

pub returns-in-Answers-clause-refused : goal.returns-in-Answers-clause-refused
returns-in-Answers-clause-refused g c =
    let a = c.args in let t = g.P.Runs.tables in let s = g.P.Runs.meaning in let from = spot_of a.session in let i = c.loop.invariant in
    let end = ended t s a.call a.holds from (spot_of c.loop.party) c.loop.next i.4 _ _ c.in-Answers.is in
    refused t s a.call a.holds from (spot_of c.loop.party) i.2 _ _ end _ c.requires.tries (sym c.is_granted.ensures ∙ c.if-is_granted.false)

pub loop-preserved : goal.loop-preserved
loop-preserved g c =
    let a = c.args in let f = c.step-made in let t = g.P.Runs.tables in let s = g.P.Runs.meaning in let from = spot_of a.session in let i = c.loop.invariant in
    let on = under t s a.call a.holds from (spot_of c.loop.party) c.loop.next i.4 c.in-Continue.point c.in-Continue.is in (
      tt,
      tt,
      f.ensures.made.knows,
      f.ensures.made.seat,
      (f.ensures.comes from) on,
      f.ensures.key ∙ i.5,
      f.ensures.made.last,
      sees_then s a.call c.in-Continue.point a.holds a.session.permit.value c.loop.party f.result.2 (i.3 ∙ ap (λ x. Some (seat_after a.call a.holds x)) c.in-Continue.is) i.2.2 i.7 f.ensures.sees,
    )
