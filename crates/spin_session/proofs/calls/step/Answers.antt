use Rattle.std.specs.Option.{IfSome}
use Rattle.spin_core.specs.Values.{IsLast}
use Rattle.std.proofs.Common.{◌≡◌, true, false, Some, ap, ◌∙◌, sym, subst, le_of_eq}
use Rattle.spin_core.specs.Own.{what}
use Rattle.spin_core.specs.Spots.{Stepped}
use Rattle.spin_core.specs.Traced.{Named}
use Rattle.spin_step.specs.Acts.{operation_by}
use Rattle.spin_step.specs.Operations.{wrapped}
use Rattle.spin_session.specs.Operating.{Operates}
use Rattle.spin_session.specs.Meaning.{rests_at, seat_now, seat_after, model_at, table_at}
use Rattle.spin_session.specs.Turns.{GoesBy, TurnTold, outcome_of, has_begun, SeatSpot, spot_of}
use Rattle.spin_session.proofs.Turned.{turned, in_bounds}
use Rattle.spin_session.proofs.Course.{reached, quiet_at, comes, same_seat, uses_now}
use Rattle.spin_session.proofs.calls.step.Goals as goal

pub operate-found-requires-clause-keeps : goal.operate-found-requires-clause-keeps
operate-found-requires-clause-keeps g c =
    let a = c.args in let p = a.session.permit in let t = g.P.Runs.tables in let o = c.operation-place in
    let same : o.result.1 ≡ wrapped (operation_by ((table_at t p.key).act a.call a.point a.holds)) = o.ensures.operation p.key.start p.key.value in
    let place : (table_at t p.key).word a.point ≡ o.result.0 = sym (o.ensures.place p.key.start p.key.value) in
    subst (λ i. Operates g.P.Word.Word.words (g.P.Rule.holds p.key) (g.P.Rule.ways p.key) p.view p.value i o.result.1 (TurnTold t g.P.Runs.meaning false (Some a.call) p.key p.view)) place
    (c.laws.ensures.turns p.key p.view p.value a.call a.point a.holds o.result.1 same c.requires.at c.requires.knows.2 (quiet_at (table_at t p.key) g.P.Runs.meaning a.call a.point a.holds (what p.view) c.requires.at c.requires.quiet))

pub returns : goal.returns
returns g c =
    let a = c.args in let it = a.session in let p = it.permit in let f = c.operate-found in let t = g.P.Runs.tables in let s = g.P.Runs.meaning in
    let named = Named (g.P.Rule.holds p.key) (g.P.Rule.ways p.key) it.seen.name in let is_named = c.laws.ensures.named p.key it.seen.name c.requires.knows.0 in
    let all = turned (table_at t p.key) s p.view f.result.1.view it.seen f.result.2 c.requires.knows.1 a.call a.point a.holds c.requires.at named is_named f.result.0 f.ensures.moved in
    let fine = in_bounds (table_at t p.key) s p.view f.result.1.view it.seen f.result.2 c.requires.knows.1 a.call a.point a.holds c.requires.at named is_named f.result.0 f.ensures.moved in
    let next = c.next.ensures p.key.start p.key.value in
    let now : SeatSpot g.row.T.Denot g.row.P-Call.Denot g.row.P-Point.Denot = (f.result.1.key, f.result.1.view, f.result.2) in
    let quiet = quiet_at (table_at t p.key) s a.call a.point a.holds (what p.view) c.requires.at c.requires.quiet in
    let lasts = c.laws.ensures.lasts p.key p.view f.result.1.view p.value f.result.1.value f.result.2 f.ensures.kept f.ensures.found (λ e. absurd (quiet e)) in
    record {
      made = record {
        knows = (
          ap (λ k. k.name) f.ensures.key ∙ c.requires.knows.0 ∙ sym all.named,
          le_of_eq all.knows,
          subst (λ o. rests_at s (seat_now o) ≡ true) (sym all.is) (c.laws.ensures.goes p.key (what p.view) a.call a.point a.holds f.result.0 c.requires.at c.requires.knows.2),
        );
        seat = all.is ∙ ap Some (ap (seat_after a.call a.holds) (sym next) ∙ same_seat g.row.T.Denot a.call a.holds c.next.result);
        goes = subst (λ k. GoesBy t s a.call a.point a.holds f.result.0 c.next.result k) (sym f.ensures.key) (next, fine);
        last = subst (λ o. IfSome f.result.1.value (IsLast o f.result.2.entries)) (sym f.ensures.key) lasts.0;
      };
      key = f.ensures.key;
      comes = λ q on. comes t s a.call a.point a.holds q (spot_of it) now on c.next.result (
        f.result.0,
        next,
        (fine, reached t s a.call a.point a.holds p.key (what p.view) c.requires.at c.requires.knows.2),
        subst (λ x. Stepped (model_at t) (has_begun (what p.view)) a.call (outcome_of x) (seat_after a.call a.holds x) (spot_of it) now) (sym next) ((all.made, all.named, f.ensures.key), all.is),
      );
      left = λ uses. subst (λ o. IfSome p.value (IsLast o f.result.2.entries)) (sym f.ensures.key) (lasts.1 uses);
      sees = λ uses. let z = c.laws.ensures.sees p.key p.view f.result.1.view p.value f.result.1.value f.ensures.kept (λ e. uses (sym (uses_now s (what f.result.1.view)) ∙ e)) in (z.0, λ on saw. z.1 saw);
    }
