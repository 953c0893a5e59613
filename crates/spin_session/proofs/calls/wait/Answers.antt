use Rattle.std.proofs.Common.{Some, ap, ◌∙◌, sym}
use Rattle.spin_session.specs.Meaning.{seat_after}
use Rattle.spin_session.specs.Turns.{spot_of}
use Rattle.spin_session.proofs.Course.{under, ended, sees_then}
use Rattle.spin_session.proofs.calls.wait.Goals as goal

pub returns-in-Answers-clause-ended : goal.returns-in-Answers-clause-ended
returns-in-Answers-clause-ended g c p on =
    let a = c.args in let x = c.step-next in
    (_, _, ended g.P.Runs.tables g.P.Runs.meaning a.call a.holds p (spot_of x.result.2) x.result.0 (x.ensures.comes p (c.loop.invariant.4 p on)) _ _ c.in-Answers.is, sym c.is_granted.ensures)

pub returns-in-Answers-clause-sees : goal.returns-in-Answers-clause-sees
returns-in-Answers-clause-sees g c v on =
    let a = c.args in let i = c.loop.invariant in let x = c.step-next in
    sees_then g.P.Runs.meaning a.call c.loop.at a.holds v c.loop.party x.result.2 i.3 i.2.2 (i.6 v on) x.ensures.sees

pub loop-preserved : goal.loop-preserved
loop-preserved g c =
    let a = c.args in let x = c.step-next in let i = c.loop.invariant in let s = g.P.Runs.meaning in (
      tt,
      tt,
      x.ensures.made.knows,
      x.ensures.made.seat ∙ ap (λ n. Some (seat_after a.call a.holds n)) c.in-Continue.is,
      λ p on. under g.P.Runs.tables s a.call a.holds p (spot_of x.result.2) x.result.0 (x.ensures.comes p (i.4 p on)) c.in-Continue.to c.in-Continue.is,
      x.ensures.key ∙ i.5,
      λ v on. sees_then s a.call c.loop.at a.holds v c.loop.party x.result.2 i.3 i.2.2 (i.6 v on) x.ensures.sees,
    )
