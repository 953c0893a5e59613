use Rattle.std.proofs.Common.{◌≡◌, None, subst}
use Rattle.spin_step.specs.Acts.{next_of, with_value}
use Rattle.spin_step.specs.declared.answer.Answer.TheVariants.{Count as Counted}
use Rattle.spin_step.specs.declared.stepped.Next.TheVariants.{Answers}
use Rattle.spin_session.specs.Turns.{spot_of}
use Rattle.spin_fair_seats.specs.Passes.{Calls}
use Rattle.spin_fair_seats.specs.Table.{fair_seats_table}
use Rattle.spin_fair_seats.specs.declared.calls.FairSeatsCall.TheVariants.{Count}
use Rattle.spin_fair_seats.proofs.Seating.{counts_few}
use Rattle.spin_fair_seats.proofs.seats.Pass.count.Goals as goal

pub returns-clause-made : goal.returns-clause-made
returns-clause-made g c =
    let from = spot_of c.self.inside.session in let f = c.in_three-answer in
    subst (λ b. Calls g.row.N Count (Counted c.in-Count.taken) b (spot_of f.result.2)) c.self.view_is (subst (λ a. Calls g.row.N Count a from (spot_of f.result.2)) c.in-Count.is f.ensures.ended.0)

pub returns-clause-few : goal.returns-clause-few
returns-clause-few g c =
    let f = c.in_three-answer in let (l, m, is, fine) = f.ensures.ended.2 in
    counts_few g.row.N l m c.in-Count.taken f.result.1 (subst (λ a. next_of (fair_seats_table g.row.N) Count l None m ≡ Answers (with_value a None) f.result.1) c.in-Count.is is)
