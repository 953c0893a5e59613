use Rattle.std.proofs.Common.{◌≡◌, ◌==◌, Bool, true, false, Some, if◌then◌else◌, refl, ap, ◌∙◌, sym, subst, inr, eq-eqb, ne_eqb}
use Rattle.std.specs.Option.{IfSome}
use Rattle.spin_core.specs.Own.{what}
use Rattle.spin_core.specs.Spots.{Since}
use Rattle.spin_core.specs.Traced.{Named}
use Rattle.spin_core.specs.Values.{IsLast}
use Rattle.spin_session.specs.Meaning.{table_at, model_at, seat_after, seat_now}
use Rattle.spin_session.specs.Turns.{FusesBy, SeatSpot, course_of, next_after, either_call, either_step, spot_of}
use Rattle.spin_session.proofs.Course.{quiet_at, uses_now, rests_held}
use Rattle.spin_session.proofs.Turned.{leapt, landed}
use Rattle.spin_session_more.proofs.calls.exchange_for.Goals as goal

pub leap-found-requires-clause-knows : goal.leap-found-requires-clause-knows
leap-found-requires-clause-knows g c = let it = c.args.session in inr (c.laws.ensures.named it.permit.key it.seen.name c.requires.stands.0)

pub leap-found-requires-clause-keeps : goal.leap-found-requires-clause-keeps
leap-found-requires-clause-keeps g c =
    let a = c.args in let p = a.session.permit in let t = g.P.Runs.tables in let s = g.P.Runs.meaning in let r = c.requires in let x = a.ahead in let start = c.point_of-start.result in
    let fuses : FusesBy (table_at t p.key) s (either_call a.won a.lost x) a.holds (either_step start x) x.old x.new = rw c.point_of-start.ensures.start r.fuses in
    let begins = λ (b : Bool). (((table_at t p.key).asks (if b then a.won else a.lost) a.holds).begins a.holds ≡ true) in
    let may : (b : Bool) → begins b = λ b. elim b as begins [ true ↦ r.may.0 | false ↦ r.looks.0.0 ] in
    c.laws.ensures.leaps p.key p.view p.value (either_call a.won a.lost x) a.holds (either_step start x) x.old x.new fuses r.stands.2 (λ n. may (n == x.old))
    (quiet_at (table_at t p.key) s a.won ((table_at t p.key).start a.won a.holds) a.holds (what p.view) (inr (refl, r.stands.2, r.may.0)) r.may.1)

pub returns-then-found-ahead-clause-granted : goal.returns-then-found-ahead-clause-granted
returns-then-found-ahead-clause-granted g c =
    let a = c.args in let it = a.session in let p = it.permit in let t = g.P.Runs.tables in let s = g.P.Runs.meaning in let f = c.leap-found in let r = c.requires.stands in let x = a.ahead in
    let now : SeatSpot g.row.T.Denot g.row.P-Call.Denot g.row.P-Point.Denot = (f.result.1.key, f.result.1.view, f.result.2) in let start = c.point_of-start.result in
    let named = Named (g.P.Rule.holds p.key) (g.P.Rule.ways p.key) it.seen.name in let is_named = c.laws.ensures.named p.key it.seen.name r.0 in
    let call = either_call a.won a.lost x in let last = either_step start x in
    let all = leapt t s call a.holds last (spot_of it) now f.ensures.key r.1 r.2 named is_named f.result.0 f.ensures.moved in
    let knows = (landed t s call a.holds last (spot_of it) now f.ensures.key r.1 r.2 named is_named f.result.0 f.ensures.moved).0 in
    let name = ap (λ k. k.name) f.ensures.key ∙ r.0 ∙ sym all.0.1 in
    let is = eq-eqb f.result.0 x.old c.if-found-ahead.true in
    let pick = λ (b : Bool). let d = if b then a.won else a.lost in let next = next_after (table_at t p.key) d a.holds (if b then Some (x.point, x.number) else Some (start, f.result.0)) in
    Since (model_at t) (course_of d next) (spot_of it) now × (what f.result.1.view ≡ Some (seat_after d a.holds next)) in
    let so = subst pick is all in
    let ended = subst (λ next. Since (model_at t) (course_of a.won next) (spot_of it) now × (what f.result.1.view ≡ Some (seat_after a.won a.holds next))) c.requires.wins so in
    let quiet = quiet_at (table_at t p.key) s a.won ((table_at t p.key).start a.won a.holds) a.holds (what p.view) (inr (refl, r.2, c.requires.may.0)) c.requires.may.1 in (
      (name, knows, ap seat_now ended.1),
      subst (λ o. IfSome f.result.1.value (IsLast o f.result.2.entries)) (sym f.ensures.key)
          (c.laws.ensures.lasts p.key p.view f.result.1.view p.value f.result.1.value f.result.2 f.ensures.kept f.ensures.found (λ e. absurd (quiet e))).0,
      ended.0,
    )

pub returns-then-found-ahead-clause-sees : goal.returns-then-found-ahead-clause-sees
returns-then-found-ahead-clause-sees g c uses =
    let p = c.args.session.permit in let f = c.leap-found in
    let z = c.laws.ensures.sees p.key p.view f.result.1.view p.value f.result.1.value f.ensures.kept (λ e. uses (sym (uses_now g.P.Runs.meaning (what f.result.1.view)) ∙ e)) in (z.0, λ on saw. z.1 saw)

pub returns-else-found-ahead-clause-refused : goal.returns-else-found-ahead-clause-refused
returns-else-found-ahead-clause-refused g c =
    let a = c.args in let it = a.session in let p = it.permit in let t = g.P.Runs.tables in let s = g.P.Runs.meaning in let f = c.leap-found in let r = c.requires.stands in let x = a.ahead in
    let now : SeatSpot g.row.T.Denot g.row.P-Call.Denot g.row.P-Point.Denot = (f.result.1.key, f.result.1.view, f.result.2) in let start = c.point_of-start.result in
    let named = Named (g.P.Rule.holds p.key) (g.P.Rule.ways p.key) it.seen.name in let is_named = c.laws.ensures.named p.key it.seen.name r.0 in
    let call = either_call a.won a.lost x in let last = either_step start x in
    let all = leapt t s call a.holds last (spot_of it) now f.ensures.key r.1 r.2 named is_named f.result.0 f.ensures.moved in
    let knows = (landed t s call a.holds last (spot_of it) now f.ensures.key r.1 r.2 named is_named f.result.0 f.ensures.moved).0 in
    let name = ap (λ k. k.name) f.ensures.key ∙ r.0 ∙ sym all.0.1 in
    let is = ne_eqb f.result.0 x.old c.if-found-ahead.false in
    let pick = λ (b : Bool). let d = if b then a.won else a.lost in let next = next_after (table_at t p.key) d a.holds (if b then Some (x.point, x.number) else Some (start, f.result.0)) in
    what f.result.1.view ≡ Some (seat_after d a.holds next) in
    let so = subst pick is all.1 in
    (name, knows, ap seat_now so ∙ rests_held a.lost a.holds _ (rw c.point_of-start.ensures.start (c.requires.looks.1 f.result.0)))
