-- A try does not end by its first load. It does not end by its second load if the number that it found is served then,
-- and is below the limit of the numbers.
use Rattle.spin_world_core.specs.Runs.{state_at}
use Rattle.spin_world_core.specs.Runs.{Schedule}
use Rattle.spin_world.proofs.TicketNames.{◌≡◌, ℕ, ◌<◌, ◌≤◌, Option, Some, List, ◌∷◌, arith, Plain, ticket_limit, to_take_and_enter, serving_word, Hold, Calling, Step, GoingOn, TicketCall, TicketPoint, TicketWords, State, moves_at, own_count, asks_of, ticket_machine, FoundNext, TriesByTwoLoads, []}
use Rattle.spin_step.specs.Calls.{Mark}
use Rattle.spin_world_core.proofs.Shapes.{Knows}
use Rattle.spin_world_core.proofs.Reached.{seen, numbers_are, calls}
use Rattle.spin_world.proofs.TicketOwed.{ticket_notes, ticket_facts}
use Rattle.spin_world_core.specs.Order.{tries_of}

-- a call that has found a next number has made a step
counted : (p k : ℕ) (span : List Mark) → FoundNext p k span → 1 ≤ own_count p span
counted p k [] found = absurd found
counted p k (m ∷ ms) found = grind (arith, counted p k ms)

-- after one step a call has found only one next number
only_one : (p a b : ℕ) (span : List Mark) → own_count p span ≡ 1 → FoundNext p a span → FoundNext p b span → a ≡ b
only_one p a b [] one x y = absurd x
only_one p a b (m ∷ ms) one x y = grind (arith, counted p a ms, counted p b ms, only_one p a b ms)

module _ {V : Type 0} (v : V) (first : ℕ) where
  -- the next step of a call does not end the call
  abbrev Continues : State TicketWords V TicketCall TicketPoint → ℕ → TicketCall → TicketPoint → Option Hold → Type 0
  Continues s p c l h = (moves_at (ticket_machine v first) s p Step (Some (Calling c l h))).outcome ≡ GoingOn

  comes : (s : State TicketWords V TicketCall TicketPoint) (p : ℕ) (c : TicketCall) (l : TicketPoint) (h : Option Hold) (plain : Plain) (span : List Mark) → Knows (ticket_notes v first) c l h p plain span
      → s.words.serving ≡ serving_word plain → tries_of (asks_of c h) ≡ Some to_take_and_enter
      → (own_count p span ≡ 0 → Continues s p c l h) × (own_count p span ≡ 1 → FoundNext p (serving_word plain) span → serving_word plain < ticket_limit → Continues s p c l h)
  comes s p c l h plain span knows is asks = grind (arith, λ (n : ℕ). only_one p (serving_word plain) n span)

  pub by_two_loads : (n : ℕ) (past : Schedule TicketCall V) → TriesByTwoLoads (ticket_machine v first) n past
  by_two_loads n past p c l h there asks =
      let f = ticket_facts v first in let now = state_at (ticket_machine v first) n past in
      let seen = seen f n past in let knows = (calls f n past p there).knows in
      let goes = comes now p c l h seen.plain (seen.span p) knows (cc (numbers_are f n past)) asks in
      grind (arith, there, goes)
