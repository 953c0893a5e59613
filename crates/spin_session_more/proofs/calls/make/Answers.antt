use Rattle.std.proofs.Common.{ap, sym, ◌∙◌}
use Rattle.spin_core.specs.Own.{what}
use Rattle.spin_session.specs.Meaning.{use_at}
use Rattle.spin_session.specs.Turns.{spot_of}
use Rattle.spin_session.proofs.Course.{at_once, uses_now}
use Rattle.spin_session_more.proofs.calls.make.Goals as goal

pub returns : goal.returns
returns g c =
    let a = c.args in let f = c.step-session in let t = g.P.Runs.tables in let s = g.P.Runs.meaning in let from = spot_of a.session in let p = c.point_of-point.ensures in
    let (which, fine) = rw f.ensures.key at f.ensures.made.goes in
    let all = at_once t s a.call a.holds from (spot_of f.result.2) f.result.0 (f.ensures.comes from p.under) f.ensures.made.knows a.answer a.after (which ∙ rw p.start (c.requires.answers f.result.1)) in
    record { stands = all.0; calls = all.1; last = f.ensures.made.last; left = λ uses. f.ensures.left (λ e. uses (ap (use_at s) (sym c.requires.stands.2) ∙ sym (uses_now s (what a.session.permit.view)) ∙ e)); sees = f.ensures.sees }
