use Rattle.std.proofs.Common.{zero, refl}
use Rattle.spin_session.specs.Turns.{spot_of}
use Rattle.spin_session.proofs.Course.{ended, three_steps}
use Rattle.spin_session.proofs.calls.in_three.Goals as goal

pub unreachable-requires : goal.unreachable-requires
unreachable-requires g c =
    let a = c.args in let x = c.first in let y = c.further-made in let z = c.further-next in
    three_steps g.P.Runs.tables g.P.Runs.meaning a.call a.holds a.session.permit.key c.requires.once x.result y.result z.result x.ensures.key y.ensures.key z.ensures.key
    (zero, _, (x.ensures.start, refl)) x.ensures.made y.ensures.made z.ensures.made (y.ensures.follows refl) (z.ensures.follows refl) c.in-Continue.field-0 c.in-Continue.is

pub returns-clause-ended : goal.returns-clause-ended
returns-clause-ended g c =
    let a = c.args in let z = c.further-next in let from = spot_of a.session in
    ended g.P.Runs.tables g.P.Runs.meaning a.call a.holds from (spot_of z.result.3) z.result.0 (z.ensures.comes from (c.further-made.ensures.comes from c.first.ensures.comes)) _ _ c.in-Answers.is

pub returns-clause-sees : goal.returns-clause-sees
returns-clause-sees g c = let v = c.args.session.permit.value in c.further-next.ensures.sees v (c.further-made.ensures.sees v c.first.ensures.sees)
