use Rattle.spin_session.specs.Turns.{spot_of}
use Rattle.spin_session.proofs.Course.{settled}
use Rattle.spin_session_more.proofs.calls.wait_for.Goals as goal

pub returns : goal.returns
returns g c =
    let a = c.args in let w = c.answered in let (said, after, end, same) = w.ensures.ended in
    let all = settled g.P.Runs.tables g.P.Runs.meaning a.call a.holds (spot_of a.session) (spot_of w.result.0) w.ensures.knows said after end a.answer a.after c.requires.answers in
    record { stands = all.0; calls = all.1; last = w.ensures.last; sees = w.ensures.sees }
