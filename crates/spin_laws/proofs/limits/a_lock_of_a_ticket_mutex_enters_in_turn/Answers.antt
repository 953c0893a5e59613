use Rattle.std.proofs.Common.{◌≡◌, ℕ, Option, Some, None, List, [], ◌∷◌, ◌++◌, slice_get, sym, ap, ◌∙◌, subst, arith}
use Rattle.spin_core.specs.Own.{Numbered}
use Rattle.spin_step.specs.declared.answer.Answer.TheVariants.{Granted}
use Rattle.spin_step.specs.declared.place.Hold.{Hold}
use Rattle.spin_step.specs.declared.place.Hold.TheVariants as hold
use Rattle.spin_step.specs.declared.place.Seat.TheVariants.{Calling, Holding}
use Rattle.spin_step.specs.declared.schedule.Move.TheVariants.{Step}
use Rattle.spin_step.specs.declared.schedule.Outcome.TheVariants.{Answered}
use Rattle.spin_step.specs.declared.ticket_calls.TicketCall.{TicketCall}
use Rattle.spin_step.specs.declared.ticket_calls.TicketCall.TheVariants.{Lock}
use Rattle.spin_step.specs.declared.ticket_calls.TicketPoint.{TicketPoint}
use Rattle.spin_step.specs.declared.ticket_calls.TicketPoint.TheVariants.{Await, TryTake}
use Rattle.spin_step.specs.declared.ticket_calls.TicketWords.{TicketWords}
use Rattle.spin_step.specs.Schedules.{State, moves_at, after, at_first}
use Rattle.spin_step.proofs.Lists.{get-set_same}
use Rattle.spin_core.specs.declared.tie.Opening.{Opening}
use Rattle.spin_mutex.specs.Queue.{Made, model}
use Rattle.spin_world_core.specs.Runs.{Seen, opening}
use Rattle.spin_world_core.proofs.Reached.{state_is}
use Rattle.spin_world.proofs.TicketOwed.{ticket_notes, ticket_facts}
use Rattle.spin_world.proofs.Queues.{in_turn}
use Rattle.spin_laws.specs.TicketTurns.{EntersInTurn}
use Rattle.spin_laws.proofs.Calls.{event, one_more, longer, Call, call_of}
use Rattle.spin_laws.proofs.limits.a_lock_of_a_ticket_mutex_enters_in_turn.Goals as goal

-- the number of the ticket with which a step at this point enters
abbrev ticket_of : TicketPoint → ℕ
ticket_of (Await t) = t
ticket_of (TryTake n) = n
ticket_of _ = 0

module _ {T : Type 0} (key : Opening T) where
  seat_is : (s : State TicketWords T TicketCall TicketPoint) (p : ℕ) (l : TicketPoint) (h : Option Hold) → slice_get s.seats p ≡ Some (Calling Lock l h) → (moves_at (model key) s p Step (slice_get s.seats p)).outcome ≡ Answered Granted None
      → slice_get (moves_at (model key) s p Step (slice_get s.seats p)).next.seats p ≡ Some (Holding (hold.Ticket (ticket_of l)))
  seat_is s p l h there granted = grind (arith, there, granted, get-set_same s.seats p (Holding (hold.Ticket (ticket_of l))) (Calling Lock l h) there)

  of_call : {X : Type 0} (view : Option (Numbered X)) (old new : List (Made T)) → Call (ticket_facts key.value key.start) Lock Granted view old new → EntersInTurn key view old new
  of_call view old new call =
      let m = model key in let k = ticket_notes key.value key.start in let f = ticket_facts key.value key.start in let it = call.answered in let p = call.pass.party in let n = call.pass.parties in
      let entered : List (Made T) = it.past ++ (p, Step) ∷ [] in
      let own = seat_is it.seen.state p it.point call.held it.there it.comes in
      let state = ap (λ (z : Seen TicketWords T TicketCall TicketPoint). z.state) (one_more f (opening m n) it.past (p, Step)) in
      let there : slice_get (after m (at_first m n) entered).seats p ≡ Some (Holding (hold.Ticket (ticket_of it.point))) = ap (λ (s : State TicketWords T TicketCall TicketPoint). slice_get s.seats p) (sym (state_is f n entered) ∙ state ∙ ap (λ z. (event f z (p, Step)).after.state) (sym it.leads)) ∙ own in
      record {
        pass = call.pass;
        entered = entered;
        behind = longer f old it.past (p, Step) it.known;
        before = it.before;
        number = ticket_of it.point;
        holds = there;
        turn = λ past further is. (in_turn key.value key.start n past further).holds p (ticket_of it.point) (subst (λ es. slice_get (after m (at_first m n) es).seats p ≡ Some (Holding (hold.Ticket (ticket_of it.point)))) is there);
      }

pub returns : goal.returns
returns g c = λ key view now old new made. of_call key now old new (call_of (ticket_facts key.value key.start) Lock Granted view now old new made)
