use Rattle.spin_session.specs.Turns.{spot_of}
use Rattle.std.proofs.Common.{Some, ap, ◌∙◌}
use Rattle.spin_session.specs.Meaning.{seat_after}
use Rattle.spin_session.proofs.Course.{under, sees_then}
use Rattle.spin_session.proofs.calls.further.Goals as goal

pub returns-clause-comes : goal.returns-clause-comes
returns-clause-comes g c p came =
    let a = c.args in let m = a.made in let t = g.P.Runs.tables in
    c.step-found.ensures.comes p (under t g.P.Runs.meaning a.call a.holds p (spot_of m.3) m.0 came c.in-Continue.to c.in-Continue.is)

pub returns-clause-sees : goal.returns-clause-sees
returns-clause-sees g c v on =
    let a = c.args in let m = a.made in let x = c.step-found in
    sees_then g.P.Runs.meaning a.call c.in-Continue.to a.holds v m.3 x.result.2 (c.requires.made.seat ∙ ap (λ n. Some (seat_after a.call a.holds n)) c.in-Continue.is) c.requires.made.knows.2 on x.ensures.sees
