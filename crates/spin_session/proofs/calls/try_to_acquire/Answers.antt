use Rattle.std.proofs.Common.{sym, ◌∙◌}
use Rattle.spin_session.specs.Turns.{spot_of}
use Rattle.spin_session.proofs.Course.{acquired_at_once, refused}
use Rattle.spin_session.proofs.calls.try_to_acquire.Goals as goal

pub guarded-requires-clause-writes : goal.guarded-requires-clause-writes
guarded-requires-clause-writes g c =
    let a = c.args in let f = c.in_three-answer in let e = f.ensures in
    (acquired_at_once g.P.Runs.tables g.P.Runs.meaning a.call a.holds (spot_of a.session) (spot_of f.result.2) e.knows f.result.0 f.result.1 e.ended c.requires.tries (sym c.is_granted.ensures ∙ c.if-is_granted.true)).0

pub returns-then-is_granted-clause-granted : goal.returns-then-is_granted-clause-granted
returns-then-is_granted-clause-granted g c =
    let a = c.args in let f = c.in_three-answer in let e = f.ensures in
    c.guarded.ensures.grants a.call (spot_of a.session)
    (acquired_at_once g.P.Runs.tables g.P.Runs.meaning a.call a.holds (spot_of a.session) (spot_of f.result.2) e.knows f.result.0 f.result.1 e.ended c.requires.tries (sym c.is_granted.ensures ∙ c.if-is_granted.true)).1

pub returns-else-is_granted-clause-refused : goal.returns-else-is_granted-clause-refused
returns-else-is_granted-clause-refused g c =
    let a = c.args in let f = c.in_three-answer in let e = f.ensures in
    refused g.P.Runs.tables g.P.Runs.meaning a.call a.holds (spot_of a.session) (spot_of f.result.2) e.knows f.result.0 f.result.1 e.ended _ c.requires.tries (sym c.is_granted.ensures ∙ c.if-is_granted.false)
