use Rattle.std.proofs.Common.{◌≡◌, ◌≤◌, ℕ, Option, true, Some, None, length, sym, ap, ◌∙◌, subst}
use Rattle.spin_core.specs.Own.{what}
use Rattle.spin_core.specs.Cell.{off, writes, use_of}
use Rattle.spin_core.specs.Values.{IsLast}
use Rattle.std.specs.Option.{IfSome}
use Rattle.spin_core.specs.Passes.{own_mark}
use Rattle.spin_core.specs.Spots.{Releases}
use Rattle.spin_core.specs.Traced.{Named}
use Rattle.spin_step.specs.Acts.{operation_by}
use Rattle.spin_step.specs.Operations.{wrapped}
use Rattle.spin_step.specs.declared.answer.Answer.TheVariants.{Done}
use Rattle.spin_step.specs.declared.place.Seat.TheVariants.{Holding}
use Rattle.spin_session.specs.Meaning.{use_at, seat_now, model_at, table_at}
use Rattle.spin_session.specs.Operating.{Operates}
use Rattle.spin_session.specs.Turns.{TurnTold, SeatSpot, EndsWith}
use Rattle.spin_session.proofs.Course.{starts_at, begins_so}
use Rattle.spin_session.proofs.Freed.{keeps_name, seat, knows, releases}
use Rattle.spin_session.proofs.calls.give.Goals as goal

pub operate-permit-requires-clause-knows : goal.operate-permit-requires-clause-knows
operate-permit-requires-clause-knows g c = rw c.into_permit-permit.ensures.key c.requires.knows

pub operate-permit-requires-clause-keeps : goal.operate-permit-requires-clause-keeps
operate-permit-requires-clause-keeps g c =
    let a = c.args in let it = c.into_permit-permit in let p = it.result in let t = g.P.Runs.tables in let b = g.P.Runs.meaning in let call = a.call in let o = c.operation-place in
    let begins : ((table_at t p.key).asks call (Some a.holds)).begins (Some a.holds) ≡ true = rw it.ensures.key c.requires.begins in
    let start : c.in-Some.point ≡ (table_at t p.key).start call (Some a.holds) = starts_at (table_at t p.key) call (Some a.holds) c.in-Some.point begins (sym c.in-Some.is ∙ c.start.ensures p.key.start p.key.value) in
    let same : o.result.1 ≡ wrapped (operation_by ((table_at t p.key).act call ((table_at t p.key).start call (Some a.holds)) (Some a.holds))) = rw start at (o.ensures.operation p.key.start p.key.value) in
    let place : (table_at t p.key).word ((table_at t p.key).start call (Some a.holds)) ≡ o.result.0 = sym (rw start at (o.ensures.place p.key.start p.key.value)) in
    let held = c.requires.alone (sym (c.laws.ensures.uses a.writer.key (Some a.writer.view)) ∙ it.ensures.use_of_view) in
    let is : what p.view ≡ Some (Holding a.holds) = ap what it.ensures.same.0 ∙ ap Some held in
    let may : ((table_at t p.key).asks call (Some a.holds)).begins (Some a.holds) ≡ true = rw it.ensures.key c.requires.begins in
    let all = c.laws.ensures.gives p.key p.view a.writer.value call a.holds o.result.1 same is may c.requires.held.0 c.requires.held.1 in
    subst (λ (x : Option g.row.T.Denot × ℕ). Operates g.P.Word.Word.words (g.P.Rule.holds p.key) (g.P.Rule.ways p.key) p.view x.0 x.1 o.result.1 (TurnTold t b true (Some call) p.key p.view)) (λ i. (sym it.ensures.same.1 i, place i)) all

pub returns : goal.returns
returns g c =
    let a = c.args in let w = a.writer in let it = c.into_permit-permit in let p = it.result in let f = c.operate-permit in let t = g.P.Runs.tables in let b = g.P.Runs.meaning in let call = a.call in
    let held = c.requires.alone (sym (c.laws.ensures.uses w.key (Some w.view)) ∙ it.ensures.use_of_view) in
    let is : what p.view ≡ Some (Holding a.holds) = ap what it.ensures.same.0 ∙ ap Some held in
    let from : SeatSpot g.row.T.Denot g.row.P-Call.Denot g.row.P-Point.Denot = (p.key, p.view, a.seen) in
    let now : SeatSpot g.row.T.Denot g.row.P-Call.Denot g.row.P-Point.Denot = (f.result.1.key, f.result.1.view, f.result.2) in
    let its = Named (g.P.Rule.holds p.key) (g.P.Rule.ways p.key) a.seen.name in let moved = f.ensures.moved in
    let ends : EndsWith t call a.holds a.after p.key = rw it.ensures.key c.requires.ends in
    let sits = seat t b call a.holds a.after from now is ends its f.result.0 f.result.1.view moved in
    record {
      seat = ap seat_now sits;
      knows = knows t b call a.holds a.after from now is ends its f.result.0 f.result.1.view moved;
      key = f.ensures.key ∙ it.ensures.key;
      same = λ uses. (c.laws.ensures.sees p.key p.view f.result.1.view p.value f.result.1.value f.ensures.kept (λ e. uses (ap (use_of (use_at b)) (sym sits) ∙ e))).1
          (λ e. absurd (let no : Some w.value ≡ None = sym it.ensures.same.1 ∙ e in cc (no))) ∙ it.ensures.same.1;
      name = λ named. keeps_name t b call a.holds a.after from now is ends its f.result.0 f.result.1.view moved (c.laws.ensures.named p.key a.seen.name (ap (λ k. k.name) it.ensures.key ∙ named));
      releases = λ named knew.
          let writing : use_of (use_at b) (what p.view) ≡ writes = ap (use_of (use_at b)) is ∙ c.requires.held.1 in
          let all_last = c.laws.ensures.lasts p.key p.view f.result.1.view p.value f.result.1.value f.result.2 f.ensures.kept f.ensures.found (λ e e'. c.requires.stops (ap (use_of (use_at b)) (sym sits) ∙ e')) in
          let last : IsLast p.key f.result.2.entries w.value = subst (λ o. IfSome o (IsLast p.key f.result.2.entries)) it.ensures.same.1 (all_last.1 (λ e. absurd (let no : off ≡ writes = sym e ∙ writing in cc (no)))) in
          let all = releases t b call a.holds a.after from now is ends its f.result.0 (c.laws.ensures.named p.key a.seen.name (ap (λ k. k.name) it.ensures.key ∙ named)) f.ensures.key
          (subst (λ v. own_mark v ≤ length a.seen.entries) (sym it.ensures.same.0) knew) w.value last moved in
          subst (λ (z : SeatSpot g.row.T.Denot g.row.P-Call.Denot g.row.P-Point.Denot). Releases (model_at t) (λ o. o) call Done w.value z now) (λ i. (it.ensures.key i, it.ensures.same.0 i, a.seen)) all;
    }

pub unreachable-requires : goal.unreachable-requires
unreachable-requires g c =
    let a = c.args in let p = c.into_permit-permit.result in let t = g.P.Runs.tables in
    let begins : ((table_at t p.key).asks a.call (Some a.holds)).begins (Some a.holds) ≡ true = rw c.into_permit-permit.ensures.key c.requires.begins in
    begins_so (table_at t p.key) a.call (Some a.holds) begins (sym c.in-None.is ∙ c.start.ensures p.key.start p.key.value)
