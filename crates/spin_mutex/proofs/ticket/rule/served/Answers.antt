use Rattle.std.proofs.Common.{◌≤◌, length, refl, sym, ap, ◌∙◌, subst}
use Rattle.spin_core.specs.Passes.{Nothing, own_mark}
use Rattle.spin_core.specs.Spots.{Since}
use Rattle.spin_core.specs.Traced.{Named}
use Rattle.spin_session.specs.Meaning.{with_second, ways_of, table_at}
use Rattle.spin_session.proofs.Turned.{peeked_since}
use Rattle.spin_mutex.specs.Queue.{IsQueue, model, ticket_meaning, ticket_tables}
use Rattle.spin_mutex.specs.TicketPasses.{TicketSpot}
use Rattle.spin_mutex.proofs.ticket.rule.served.Goals as goal

pub operate-number-requires-clause-knows : goal.operate-number-requires-clause-knows
operate-number-requires-clause-knows g c = rw c.into_permit.ensures.key c.requires

pub operate-number-requires-clause-keeps : goal.operate-number-requires-clause-keeps
operate-number-requires-clause-keeps g c = let p = c.into_permit.result in (λ a b. refl, c.laws.ensures.peeks (λ a b. refl) p.key p.view p.value)

pub returns-clause-since : goal.returns-clause-since
returns-clause-since g c named knew =
    let it = c.into_permit in let p = it.result in let f = c.operate-number in let w = c.into_writer in let seen = c.args.seen in
    let all = peeked_since with_second (table_at ticket_tables p.key) ticket_meaning p.view seen f.result.2 (Named (IsQueue p.key) (ways_of ticket_meaning p.key) seen.name) f.result.0
    (c.laws.ensures.named p.key seen.name (ap (λ k. k.name) it.ensures.key ∙ named)) (subst (λ v. own_mark v ≤ length seen.entries) (sym it.ensures.same.0) knew) f.result.1.view f.ensures.moved in
    let now : TicketSpot g.row.T.Denot = (f.result.1.key, f.result.1.view, f.result.2) in
    let made : Since model Nothing (p.key, p.view, seen) now = (all.made, all.named, f.ensures.key) in (
      subst (λ (z : TicketSpot g.row.T.Denot × TicketSpot g.row.T.Denot). Since model Nothing z.0 z.1)
          (λ i. ((it.ensures.key i, it.ensures.same.0 i, seen), (sym w.ensures.key i, sym w.ensures.same.0 i, f.result.2))) made,
      ap own_mark w.ensures.same.0 ∙ all.knows,
    )
