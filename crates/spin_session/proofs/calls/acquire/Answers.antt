use Rattle.spin_session.specs.Turns.{spot_of}
use Rattle.spin_session.proofs.Course.{under, ended, acquired}
use Rattle.spin_session.proofs.calls.acquire.Goals as goal

pub guarded-requires-clause-writes : goal.guarded-requires-clause-writes
guarded-requires-clause-writes g c =
    let a = c.args in let f = c.begin-next in let t = g.P.Runs.tables in let s = g.P.Runs.meaning in let from = spot_of a.session in let now = spot_of f.result.3 in
    (acquired t s a.call a.holds from now f.ensures.made.knows _ _ (ended t s a.call a.holds from now f.result.0 f.ensures.comes _ _ c.in-Answers.is) c.requires.acquires).0

pub returns-in-Answers : goal.returns-in-Answers
returns-in-Answers g c =
    let a = c.args in let f = c.begin-next in let t = g.P.Runs.tables in let s = g.P.Runs.meaning in let from = spot_of a.session in let now = spot_of f.result.3 in
    c.guarded.ensures.grants a.call from
    (acquired t s a.call a.holds from now f.ensures.made.knows _ _ (ended t s a.call a.holds from now f.result.0 f.ensures.comes _ _ c.in-Answers.is) c.requires.acquires).1

pub guarded-requires-in-Continue-clause-writes : goal.guarded-requires-in-Continue-clause-writes
guarded-requires-in-Continue-clause-writes g c =
    let a = c.args in let f = c.begin-next in let w = c.wait in let t = g.P.Runs.tables in let s = g.P.Runs.meaning in let from = spot_of a.session in
    let (answer, after, end, same) = w.ensures.ended from (under t s a.call a.holds from (spot_of f.result.3) f.result.0 f.ensures.comes _ c.in-Continue.is) in
    (acquired t s a.call a.holds from (spot_of w.result.0) w.ensures.knows answer after end c.requires.acquires).0

pub returns-in-Continue : goal.returns-in-Continue
returns-in-Continue g c =
    let a = c.args in let f = c.begin-next in let w = c.wait in let t = g.P.Runs.tables in let s = g.P.Runs.meaning in let from = spot_of a.session in
    let (answer, after, end, same) = w.ensures.ended from (under t s a.call a.holds from (spot_of f.result.3) f.result.0 f.ensures.comes _ c.in-Continue.is) in
    c.guarded-in-Continue.ensures.grants a.call from (acquired t s a.call a.holds from (spot_of w.result.0) w.ensures.knows answer after end c.requires.acquires).1
