use Rattle.std.proofs.Common.{Some, inr, sym, ap, ◌∙◌, subst, le_of_eq}
use Rattle.spin_core.specs.Guard.{guard_key, guard_value, guard_view}
use Rattle.spin_core.specs.Spots.{Releases}
use Rattle.spin_step.specs.declared.answer.Answer.TheVariants.{Done}
use Rattle.spin_session.specs.Meaning.{Peeks, with_second}
use Rattle.spin_session.specs.Turns.{spot_of}
use Rattle.spin_session.proofs.Granted.{released_behind}
use Rattle.spin_mutex.specs.Queue.{model, ticket_meaning, ticket_tables}
use Rattle.spin_mutex.specs.TicketPasses.{Release, TicketSpot}
use Rattle.spin_mutex.proofs.TicketRefines.{peeked_seat}
use Rattle.spin_mutex.proofs.ticket.TicketMutex.unlock.Goals as goal

pub give-requires-clause-alone : goal.give-requires-clause-alone
give-requires-clause-alone g c uses =
    let k = c.served-number in peeked_seat k.result.1.view.0 k.result.0 uses (subst (λ v. Peeks with_second ticket_meaning v k.result.0) (sym k.ensures.seat) k.ensures.finds)

pub give-requires-clause-knows : goal.give-requires-clause-knows
give-requires-clause-knows g c = let into = c.into_parts-writer in let k = c.served-number in
    let named = ap (λ p. p.key.name) into.ensures.0 ∙ c.requires.0 ∙ ap (λ s. s.name) (sym into.ensures.1) in
    inr (λ n t vs is. is.0.0 ∙ ap (λ x. x.name) k.ensures.key ∙ named ∙ sym (k.ensures.since named (rw (into.ensures.0, into.ensures.1) c.requires.1)).0.1)

pub returns : goal.returns
returns g c =
    let into = c.into_parts-writer in let (w, seen) = into.result in let k = c.served-number in let f = c.give in let guard = c.args.guard in
    let named = ap (λ p. p.key.name) into.ensures.0 ∙ c.requires.0 ∙ ap (λ s. s.name) (sym into.ensures.1) in
    let since = k.ensures.since named (rw (into.ensures.0, into.ensures.1) c.requires.1) in
    let now : TicketSpot g.row.T.Denot = (k.result.1.key, Some k.result.1.view, k.result.2) in
    let so = f.ensures.releases (ap (λ x. x.name) k.ensures.key ∙ named ∙ sym since.0.1) (le_of_eq since.1) in
    let all = released_behind ticket_tables Release w.value (w.key, Some w.view, seen) now (spot_of f.result) since.0 (subst (λ x. Releases model (λ o. o) Release Done x now (spot_of f.result)) k.ensures.value so) in
    subst (λ s. Releases model (λ o. o) Release Done (guard_value guard) (guard_key guard, Some (guard_view guard), s) (spot_of f.result)) into.ensures.1 (rw (← into.ensures.0) all)
