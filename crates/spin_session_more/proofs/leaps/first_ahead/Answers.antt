use Rattle.std.proofs.Common.{◌≡◌, zero, Some, None, refl, eq-eqb, ne_eqb}
use Rattle.spin_core.specs.Own.{what}
use Rattle.spin_step.specs.declared.place.Seat.TheVariants.{Calling}
use Rattle.spin_session.specs.Turns.{last_step, spot_of}
use Rattle.spin_session.proofs.Course.{begun, leapt, sees_then}
use Rattle.spin_session_more.proofs.leaps.first_ahead.Goals as goal

pub returns-in_default-clause-comes : goal.returns-in_default-clause-comes
returns-in_default-clause-comes g c = c.step-found.ensures.comes (spot_of c.args.session) c.point_of-point.ensures.under

-- the exchange found the number that it expects
pub returns-then-found-ahead : goal.returns-then-found-ahead
returns-then-found-ahead g c =
    let a = c.args in let key = a.session.permit.key in let b = c.begin_by-found.ensures in let r = c.begin_by-found.result in let x = c.in-Some.ahead in let start = c.point_of-point.result in
    let (n, n', led) = b.led in
    let is : last_step start x r.0 ≡ Some (x.point, x.number) = rw (eq-eqb r.0 x.old c.if-found-ahead.true) refl in
    let all = leapt g.P.Runs.tables g.P.Runs.meaning a.call a.holds (spot_of a.session) (spot_of r.1) (last_step start x r.0) b.lands b.seat b.since x.point x.number n n' is led c.next.result (c.next.ensures key.start key.value) in
    record { made = record { knows = b.knows; seat = all.seat; goes = all.goes; last = b.last }; key = b.key; comes = all.comes; reached = all.reached; sees = b.sees }

-- it found another, and so it is the first step
pub returns-then-ahead : goal.returns-then-ahead
returns-then-ahead g c =
    let a = c.args in let key = a.session.permit.key in let b = c.begin_by-found.ensures in let r = c.begin_by-found.result in let x = c.in-Some.ahead in let start = c.point_of-point.result in
    let (n, n', led) = b.led in
    let is : last_step start x r.0 ≡ Some (start, r.0) = rw (ne_eqb r.0 x.old c.if-found-ahead.false, c.if-ahead.true) refl in
    let all = leapt g.P.Runs.tables g.P.Runs.meaning a.call a.holds (spot_of a.session) (spot_of r.1) (last_step start x r.0) b.lands b.seat b.since start r.0 n n' is led c.next-then-ahead.result (c.next-then-ahead.ensures key.start key.value) in
    record { made = record { knows = b.knows; seat = all.seat; goes = all.goes; last = b.last }; key = b.key; comes = all.comes; reached = all.reached; sees = b.sees }

-- the call has only begun
pub returns-clause-comes : goal.returns-clause-comes
returns-clause-comes g c =
    let a = c.args in let b = c.begin_by-found.ensures in let r = c.begin_by-found.result in let x = c.in-Some.ahead in let start = c.point_of-point.result in
    let is : last_step start x r.0 ≡ None = rw (ne_eqb r.0 x.old c.if-found-ahead.false, c.if-ahead.false) refl in
    c.step-found-2.ensures.comes (spot_of a.session) (begun g.P.Runs.tables g.P.Runs.meaning a.call a.holds (spot_of a.session) (spot_of r.1) (last_step start x r.0) b.lands b.seat b.since is).1

pub returns-clause-reached : goal.returns-clause-reached
returns-clause-reached g c = (zero, c.step-found-2.result.1, (c.point_of-point.ensures.start, refl))

pub returns-clause-sees : goal.returns-clause-sees
returns-clause-sees g c =
    let a = c.args in let b = c.begin_by-found.ensures in let r = c.begin_by-found.result in let x = c.in-Some.ahead in let start = c.point_of-point.result in
    let is : last_step start x r.0 ≡ None = rw (ne_eqb r.0 x.old c.if-found-ahead.false, c.if-ahead.false) refl in
    let all = begun g.P.Runs.tables g.P.Runs.meaning a.call a.holds (spot_of a.session) (spot_of r.1) (last_step start x r.0) b.lands b.seat b.since is in
    let sits : what r.1.permit.view ≡ Some (Calling a.call start a.holds) = rw c.point_of-point.ensures.start all.0 in
    sees_then g.P.Runs.meaning a.call start a.holds a.session.permit.value r.1 c.step-found-2.result.2 sits b.knows.2 b.sees c.step-found-2.ensures.sees
