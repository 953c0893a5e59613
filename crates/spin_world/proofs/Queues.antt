-- Proofs of what users of a ticket lock may rely on.
use Rattle.spin_world.specs.Ticket.{TicketMachine}
use Rattle.spin_world_core.specs.Runs.{state_at}
use Rattle.spin_world_core.specs.Users.{seen_at}
use Rattle.spin_world_core.specs.Runs.{Schedule}
use Rattle.spin_world.proofs.TicketNames.{◌≡◌, ℕ, ◌+◌, Option, Some, ◌∷◌, ◌++◌, slice_get, arith, Plain, Change, serving_word, apply_some, IsOpenStep, bit, HasTicketNumbers, serving-moves, entered_is_served, Holding, TicketCall, TicketPoint, TicketWords, Seen, scene, opening, ticket_machine, seen_after, Plays, passes, serves_one, tickets_gone, TicketsInOrder, InTurn, []}
use Rattle.spin_step.specs.Calls.{BelongsTo}
use Rattle.spin_step.specs.TicketKind.{ticket}
use Rattle.spin_step.specs.declared.place.Hold.TheVariants as hold
use Rattle.spin_world.proofs.TicketOwed.{ticket_notes, ticket_facts}
use Rattle.spin_world_core.proofs.Preserved.{Invariant}
use Rattle.spin_world_core.proofs.Every.{kept}
use Rattle.spin_world_core.proofs.Guards.{seen_after-append}
use Rattle.spin_world_core.proofs.Reached.{good, numbers_are, stands, calls}

moves_some : (s : Plain) (p : ℕ) (step : Option Change) → HasTicketNumbers s → IsOpenStep s p step → BelongsTo ticket step → serving_word (apply_some s step) ≡ serving_word s + bit (passes serves_one step)
moves_some s p step numbered may belongs = grind (arith, λ (c : Change). serving-moves s c numbered)

module _ {V : Type 0} (v : V) (first : ℕ) where
  abbrev m : TicketMachine V
  m = ticket_machine v first

  abbrev f : Plays m (ticket_notes v first)
  f = ticket_facts v first

  served : (seen : Seen TicketWords V TicketCall TicketPoint) (es : Schedule TicketCall V) → Invariant f seen
      → serving_word (seen_after m seen es).plain ≡ serving_word seen.plain + tickets_gone m seen es
  served seen [] good = omega arith
  served seen (e ∷ es) good = grind (arith, kept f seen e.0 e.1 good, moves_some, served (scene m seen e.0 e.1).after es (kept f seen e.0 e.1 good).good)

  pub in_order : (n : ℕ) (past : Schedule TicketCall V) → TicketsInOrder (state_at m n past).words (seen_at m n past).plain
  in_order n past = grind (arith, numbers_are f n past, good f n past)

  -- a party that holds has the served ticket
  holds_served : (n p t : ℕ) (past : Schedule TicketCall V) → slice_get (state_at m n past).seats p ≡ Some (Holding (hold.Ticket t))
      → serving_word (seen_at m n past).plain ≡ t
  holds_served n p t past there =
      grind (arith, in_order n past, stands f n past p there, entered_is_served (seen_at m n past).plain p t)

  -- the served number after `further` is the one before, plus the number of tickets that have left
  served_later : (n : ℕ) (past further : Schedule TicketCall V) → serving_word (seen_at m n (past ++ further)).plain
      ≡ (state_at m n past).words.serving + tickets_gone m (seen_at m n past) further
  served_later n past further =
      rw (seen_after-append m (opening m n) past further) (omega (arith, (in_order n past).serving, served (seen_at m n past) further (good f n past)))

  pub in_turn : (n : ℕ) (past further : Schedule TicketCall V) → InTurn m n past further
  in_turn n past further = let all = past ++ further in let later = served_later n past further in record {
    enters = λ p t c l h there waits.
        grind (arith, there, waits, (calls f n all p there).knows, (in_order n all).serving, later);
    holds = λ p t there. omega (arith, later, holds_served n p t all there);
  }
