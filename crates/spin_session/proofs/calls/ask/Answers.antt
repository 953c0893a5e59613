use Rattle.spin_session.specs.Turns.{spot_of}
use Rattle.spin_session.proofs.Course.{ended, looked, looked_on}
use Rattle.spin_session.proofs.calls.ask.Goals as goal

pub unreachable-requires : goal.unreachable-requires
unreachable-requires g c =
    let a = c.args in let f = c.first-next in let t = g.P.Runs.tables in
    looked_on t g.P.Runs.meaning a.call a.holds a.session.permit.key c.requires.looks f.result.2 f.result.0 (rw (f.ensures.start, f.ensures.key) at f.ensures.made.goes) c.in-Continue.field-0 c.in-Continue.is

pub returns : goal.returns
returns g c =
    let a = c.args in let f = c.first-next in let t = g.P.Runs.tables in let s = g.P.Runs.meaning in let from = spot_of a.session in
    let (same, tells) = looked t s a.call a.holds a.session.permit.key c.requires.looks f.result.2 f.result.0 (rw (f.ensures.start, f.ensures.key) at f.ensures.made.goes) c.in-Answers.answer c.in-Answers.field-1 c.in-Answers.is in
    let end = ended t s a.call a.holds from (spot_of f.result.3) f.result.0 f.ensures.comes c.in-Answers.answer c.in-Answers.field-1 c.in-Answers.is in
    record { stands = (f.ensures.made.knows.0, f.ensures.made.knows.1, rw same at end.1); calls = end.0; found = tells }
