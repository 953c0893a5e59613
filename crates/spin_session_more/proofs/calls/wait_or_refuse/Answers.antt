use Rattle.std.proofs.Common.{◌∙◌}
use Rattle.spin_session.specs.Turns.{spot_of}
use Rattle.spin_session.proofs.Course.{granted, refused}
use Rattle.spin_session_more.proofs.calls.wait_or_refuse.Goals as goal

pub returns-then-granted-clause-granted : goal.returns-then-granted-clause-granted
returns-then-granted-clause-granted g c =
    let a = c.args in let w = c.answered-session in let (said, after, end, same) = w.ensures.ended in
    let all = granted g.P.Runs.tables g.P.Runs.meaning a.call a.holds (spot_of a.session) (spot_of w.result.0) w.ensures.knows said after end a.after c.requires.tries (same ∙ c.if-granted.true) in
    (all.0, w.ensures.last, all.1)

pub returns-else-granted-clause-refused : goal.returns-else-granted-clause-refused
returns-else-granted-clause-refused g c =
    let a = c.args in let w = c.answered-session in let (said, after, end, same) = w.ensures.ended in
    refused g.P.Runs.tables g.P.Runs.meaning a.call a.holds (spot_of a.session) (spot_of w.result.0) w.ensures.knows said after end _ c.requires.tries (same ∙ c.if-granted.false)
