use Rattle.std.proofs.Common.{sym}
use Rattle.spin_session.specs.Turns.{spot_of}
use Rattle.spin_session.proofs.Course.{ended, under}
use Rattle.spin_session_more.proofs.calls.answered.Goals as goal

pub returns-in-Answers-clause-ended : goal.returns-in-Answers-clause-ended
returns-in-Answers-clause-ended g c =
    let a = c.args in let f = c.begin_ahead-next in let from = spot_of a.session in
    (_, _, ended g.P.Runs.tables g.P.Runs.meaning a.call a.holds from (spot_of f.result.3) f.result.0 f.ensures.comes _ _ c.in-Answers.is, sym c.is_granted.ensures)

pub returns-in-Continue : goal.returns-in-Continue
returns-in-Continue g c =
    let a = c.args in let f = c.begin_ahead-next in let w = c.wait in let from = spot_of a.session in
    record {
      knows = w.ensures.knows;
      ended = w.ensures.ended from (under g.P.Runs.tables g.P.Runs.meaning a.call a.holds from (spot_of f.result.3) f.result.0 f.ensures.comes _ c.in-Continue.is);
      last = w.ensures.last;
      sees = w.ensures.sees a.session.permit.value f.ensures.sees;
    }
