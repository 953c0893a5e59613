use Rattle.std.proofs.Common.{◌==◌, if◌then◌else◌, refl, ap, ◌∙◌, sym, subst, inr}
use Rattle.std.specs.Option.{IfSome}
use Rattle.spin_core.specs.Own.{what}
use Rattle.spin_core.specs.Traced.{Named}
use Rattle.spin_core.specs.Values.{IsLast}
use Rattle.spin_session.specs.Meaning.{table_at}
use Rattle.spin_session.specs.Turns.{FusesBy, SeatSpot, last_step, spot_of}
use Rattle.spin_session.proofs.Course.{quiet_at, uses_now}
use Rattle.spin_session.proofs.Turned.{leapt, landed}
use Rattle.spin_session_more.proofs.leaps.begin_by.Goals as goal

pub leap-found-requires-clause-knows : goal.leap-found-requires-clause-knows
leap-found-requires-clause-knows g c = let it = c.args.session in inr (c.laws.ensures.named it.permit.key it.seen.name c.requires.stands.0)

pub leap-found-requires-clause-keeps : goal.leap-found-requires-clause-keeps
leap-found-requires-clause-keeps g c =
    let a = c.args in let p = a.session.permit in let t = g.P.Runs.tables in let s = g.P.Runs.meaning in let r = c.requires in
    let fuses : FusesBy (table_at t p.key) s (λ n. a.call) a.holds (last_step a.start a.ahead) a.ahead.old a.ahead.new = rw r.start r.fuses in
    c.laws.ensures.leaps p.key p.view p.value (λ n. a.call) a.holds (last_step a.start a.ahead) a.ahead.old a.ahead.new fuses r.stands.2 (λ n. r.may.0)
    (quiet_at (table_at t p.key) s a.call ((table_at t p.key).start a.call a.holds) a.holds (what p.view) (inr (refl, r.stands.2, r.may.0)) r.may.1)

pub returns : goal.returns
returns g c =
    let a = c.args in let it = a.session in let p = it.permit in let t = g.P.Runs.tables in let s = g.P.Runs.meaning in let f = c.leap-found in let r = c.requires.stands in
    let now : SeatSpot g.row.T.Denot g.row.P-Call.Denot g.row.P-Point.Denot = (f.result.1.key, f.result.1.view, f.result.2) in
    let named = Named (g.P.Rule.holds p.key) (g.P.Rule.ways p.key) it.seen.name in let is_named = c.laws.ensures.named p.key it.seen.name r.0 in
    let last = last_step a.start a.ahead in
    let fuses : FusesBy (table_at t p.key) s (λ n. a.call) a.holds last a.ahead.old a.ahead.new = rw c.requires.start c.requires.fuses in
    let all = leapt t s (λ n. a.call) a.holds last (spot_of it) now f.ensures.key r.1 r.2 named is_named f.result.0 f.ensures.moved in
    let land = landed t s (λ n. a.call) a.holds last (spot_of it) now f.ensures.key r.1 r.2 named is_named f.result.0 f.ensures.moved in
    let quiet = quiet_at (table_at t p.key) s a.call ((table_at t p.key).start a.call a.holds) a.holds (what p.view) (inr (refl, r.2, c.requires.may.0)) c.requires.may.1 in
    record {
      knows = (ap (λ k. k.name) f.ensures.key ∙ r.0 ∙ sym all.0.1, land.0, land.1.0.1);
      key = f.ensures.key;
      led = (f.result.0, (if f.result.0 == a.ahead.old then a.ahead.new else f.result.0), fuses.1 f.result.0);
      lands = land.1;
      seat = all.1;
      since = all.0;
      last = subst (λ o. IfSome f.result.1.value (IsLast o f.result.2.entries)) (sym f.ensures.key)
          (c.laws.ensures.lasts p.key p.view f.result.1.view p.value f.result.1.value f.result.2 f.ensures.kept f.ensures.found (λ e. absurd (quiet e))).0;
      sees = λ uses. let z = c.laws.ensures.sees p.key p.view f.result.1.view p.value f.result.1.value f.ensures.kept (λ e. uses (sym (uses_now s (what f.result.1.view)) ∙ e)) in (z.0, λ on saw. z.1 saw);
    }
