use Rattle.std.proofs.Common.{refl, sym, ◌∙◌}
use Rattle.spin_session.specs.Turns.{spot_of}
use Rattle.spin_session.proofs.Course.{ended, granted, refused, three_steps}
use Rattle.spin_session_more.proofs.calls.attempt.Goals as goal

pub unreachable-requires : goal.unreachable-requires
unreachable-requires g c =
    let a = c.args in let x = c.first_ahead in let y = c.further-made in let z = c.further-next in
    three_steps g.P.Runs.tables g.P.Runs.meaning a.call a.holds a.session.permit.key c.requires.once x.result y.result z.result x.ensures.key y.ensures.key z.ensures.key
    x.ensures.reached x.ensures.made y.ensures.made z.ensures.made (y.ensures.follows refl) (z.ensures.follows refl) c.in-Continue.field-0 c.in-Continue.is

pub returns-then-is_granted-clause-granted : goal.returns-then-is_granted-clause-granted
returns-then-is_granted-clause-granted g c =
    let a = c.args in let z = c.further-next in let t = g.P.Runs.tables in let s = g.P.Runs.meaning in let from = spot_of a.session in let now = spot_of z.result.3 in
    let end = ended t s a.call a.holds from now z.result.0 (z.ensures.comes from (c.further-made.ensures.comes from c.first_ahead.ensures.comes)) _ _ c.in-Answers.is in
    let all = granted t s a.call a.holds from now z.ensures.made.knows _ _ end a.after c.requires.tries (sym c.is_granted.ensures ∙ c.if-is_granted.true) in
    (all.0, z.ensures.made.last, all.1)

pub returns-else-is_granted-clause-refused : goal.returns-else-is_granted-clause-refused
returns-else-is_granted-clause-refused g c =
    let a = c.args in let z = c.further-next in let t = g.P.Runs.tables in let s = g.P.Runs.meaning in let from = spot_of a.session in let now = spot_of z.result.3 in
    let end = ended t s a.call a.holds from now z.result.0 (z.ensures.comes from (c.further-made.ensures.comes from c.first_ahead.ensures.comes)) _ _ c.in-Answers.is in
    let all = refused t s a.call a.holds from now z.ensures.made.knows _ _ end _ c.requires.tries (sym c.is_granted.ensures ∙ c.if-is_granted.false) in
    (all.0, z.ensures.made.last, all.1)

pub returns-then-is_granted-clause-sees : goal.returns-then-is_granted-clause-sees
returns-then-is_granted-clause-sees g c = let v = c.args.session.permit.value in c.further-next.ensures.sees v (c.further-made.ensures.sees v c.first_ahead.ensures.sees)

pub returns-else-is_granted-clause-still : goal.returns-else-is_granted-clause-still
returns-else-is_granted-clause-still g c = let v = c.args.session.permit.value in c.further-next.ensures.sees v (c.further-made.ensures.sees v c.first_ahead.ensures.sees)
