-- What the rule of a lock of tickets says of the queue.
use Rattle.std.proofs.Common.{◌≡◌, ℕ, List, refl, sym, ap, ◌∙◌, arith}
use Rattle.std.specs.Prelude.{sum_by, count_by}
use Rattle.spin_step.specs.Plain.{serving_word}
use Rattle.spin_core.specs.Views.{entries_of_part}
use Rattle.spin_core.proofs.tie.Owners.{exactly}
use Rattle.spin_step.proofs.Tickets.{one_if, has_number, count-lower, count-upper, count-between, entered_is_served}
use Rattle.spin_core.proofs.tie.Views.{part-there, part-beyond}
use Rattle.spin_step.specs.declared.place.Hold.TheVariants as hold
use Rattle.spin_step.specs.declared.place.Seat.TheVariants.{Holding}
use Rattle.spin_mutex.specs.Queue.{View, part, Word}
use Rattle.spin_mutex.specs.TicketQueue.{IsPlainQueue, stands_with, IsInTurn}

pub plain_queue : (next serving : ℕ) (vs : List View) (is : Word next serving vs) → IsPlainQueue is.0 next serving vs
plain_queue next serving vs is = record {
  next_is = is.4;
  serving_is = is.5;
  numbered = (is.2.numbered.0, is.2.numbered.1 is.1);
  one_entered = is.2.exclusive.one_entered;
  parties = λ id v at. ap (λ e. e.tickets) (is.3 id).0 ∙ (ap (λ x. (entries_of_part id x).tickets) (part-there part id v vs at) ∙ grind arith);
  nobody_else = λ id far. ap (λ e. e.tickets) (is.3 id).0 ∙ ap (λ x. (entries_of_part id x).tickets) (part-beyond part id vs far);
}

pub in_turn : (next serving : ℕ) (vs : List View) → Word next serving vs → IsInTurn next serving vs
in_turn next serving vs is = let s = is.0 in let order = is.2 in
    let plain = plain_queue next serving vs is in
    let count : (t : ℕ) → count_by (stands_with t) vs ≡ sum_by (has_number t) s.tickets = λ t.
    exactly (λ u. u.party) (has_number t) part (λ v. one_if (stands_with t v)) (λ p x. sum_by (has_number t) (entries_of_part p x).tickets) (λ p v. grind arith) vs s.tickets
    (λ p. ap (λ e. sum_by (has_number t) e.tickets) (is.3 p).0) (λ p. refl) in
    record {
      in_order = omega (arith, is.4, is.5, order.numbered.0);
      within_limit = omega (arith, is.4, order.within_limit);
      one_each = λ t low high. count t ∙ count-between t (serving_word s) s.tickets (order.numbered.1 is.1) (omega (arith, low, is.5)) (omega (arith, high, is.4, order.numbered.0));
      none_served = λ t low. count t ∙ count-lower t (serving_word s) s.tickets (order.numbered.1 is.1) (omega (arith, low, is.5));
      none_untaken = λ t high. count t ∙ count-upper t (serving_word s) s.tickets (order.numbered.1 is.1) (omega (arith, high, is.4, order.numbered.0));
      in_turn = λ id t at. sym (entered_is_served s id t (order.numbered.0, order.numbered.1 is.1) order.exclusive.one_entered (plain.parties id (Holding (hold.Ticket t)) at)).1 ∙ sym is.5;
    }
