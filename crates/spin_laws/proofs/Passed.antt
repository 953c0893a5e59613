-- A `lock` without a ticket may be passed over again and again. Once all tickets are taken, it is never granted.
use Rattle.spin_laws.proofs.Names.{◌≡◌, ℕ, zero, suc, ◌+◌, ◌-◌, ◌<◌, ◌==◌, ◌||◌, ◌++◌, Bool, true, false, Some, None, List, [], ◌∷◌, nat_lt, slice_get, refl, ap, sym, ◌∙◌, subst, arith, ne_eqb, lt-ltb, ticket_limit, Answer, Idle, Calling, Move, Begin, Step, TicketWords, TicketCall, TicketPoint, Take, joined, Machine, State, after, at_first, ticket_machine, eqb_self, occurs, AreRounds, grants_party, MayBePassedOver, ends_or_weak, entries, is_empty, empty_is, opening, seen_after, row_tells, calls}
use Rattle.spin_step.specs.declared.ticket_calls.TicketCall.TheVariants.{Lock, Release}
use Rattle.spin_step.specs.declared.ticket_calls.TicketPoint.TheVariants.{LoadNext}
use Rattle.spin_step.specs.Asks.{waits_to_enter}
use Rattle.std.proofs.lemmas.Bool.{ltb-true, le-ltb}
use Rattle.spin_step.proofs.Schedules.{after-append}
use Rattle.spin_world.proofs.TicketOwed.{ticket_notes, ticket_facts}
use Rattle.spin_world_core.proofs.Shapes.{row_of}
use Rattle.std.specs.Prelude.{replicate}
use Rattle.spin_world_core.proofs.Names.{length-replicate}
use Rattle.spin_laws.specs.Starving.{MayStarveWhere, HasNoTicket}
use Rattle.spin_laws.proofs.Around.{forever_where}
use Rattle.spin_laws.proofs.Waiting.{occurs-append}

module _ {V : Type 0} (v : V) (first : ℕ) where
  abbrev m : Machine TicketWords V TicketCall TicketPoint (Answer V)
  m = ticket_machine v first

  -- party 0 is about to take the number k, which is the next and the served number, and party 1 is idle
  abbrev behind : ℕ → State TicketWords V TicketCall TicketPoint
  behind k = record { words = record { next = k; serving = k }; value = Some v; seats = Calling Lock (Take k) None ∷ Idle ∷ [] }

  -- party 1 takes the ticket with the next number and enters; party 0 then loses its exchange; then party 1 releases
  abbrev round : List (ℕ × Move TicketCall V)
  round = (1, Begin Lock) ∷ (1, Step) ∷ (1, Step) ∷ (1, Step) ∷ (0, Step) ∷ (1, Begin Release) ∷ (1, Step) ∷ []

  module _ (k : ℕ) (left : k + 1 < ticket_limit) where
    under : (nat_lt k ticket_limit ≡ true) × (nat_lt (k + 1) ticket_limit ≡ true) × ((k + 1 == k) ≡ false)
    under = (lt-ltb k ticket_limit (omega (arith, left)), lt-ltb (k + 1) ticket_limit left, ne_eqb (k + 1) k (λ e. absurd (omega (arith, e))))

    comes_to : after m (behind k) round ≡ behind (k + 1)
    comes_to = grind (arith, eqb_self k, under)

    passes_over : occurs m (grants_party m 0) (behind k) round ≡ false
    passes_over = simp (eqb_self, under.0, under.1, under.2)

  abbrev rounds : ℕ → List (List (ℕ × Move TicketCall V))
  rounds r = replicate r round

  -- from this state r rounds do not grant party 0 the lock, and lead to the state `behind end`
  abbrev Passes : ℕ → ℕ → State TicketWords V TicketCall TicketPoint → Type 0
  Passes r end s = let es = joined (rounds r) in AreRounds m s (rounds r) × (occurs m (grants_party m 0) s es ≡ false) × (after m s es ≡ behind end)

  passes : (r k : ℕ) → k + r < ticket_limit → Passes r (k + r) (behind k)
  passes zero k left = let same : k ≡ k + 0 = omega arith in (tt, refl, ap behind same)
  passes (suc r) k left =
      let here : k + 1 < ticket_limit = omega (arith, left) in let same : k + 1 + r ≡ k + suc r = omega arith in let es = joined (rounds r) in
      let rest = subst (Passes r (k + 1 + r)) (sym (comes_to k here)) (passes r (k + 1) (omega (arith, left))) in
      let none = ap (λ b. b || occurs m (grants_party m 0) (after m (behind k) round) es) (passes_over k here) ∙ rest.1 in
      ((grind (arith, eqb_self, under k here), rest.0), occurs-append m (grants_party m 0) (behind k) round es ∙ none, after-append m (behind k) round es ∙ rest.2 ∙ ap behind same)

  abbrev past : List (ℕ × Move TicketCall V)
  past = (0, Begin Lock) ∷ (0, Step) ∷ []

  starts : first < ticket_limit → after m (at_first m 2) past ≡ behind first
  starts left = grind (arith, lt-ltb first ticket_limit left)

  -- Once all tickets are taken, a `lock` without a ticket is never granted.

  -- all numbers below k are taken, and party 0 has found no number left
  abbrev spent : ℕ → State TicketWords V TicketCall TicketPoint
  spent k = record { words = record { next = k; serving = k }; value = Some v; seats = Calling Lock LoadNext None ∷ Idle ∷ [] }

  module _ (k : ℕ) (last : k + 1 ≡ ticket_limit) where
    reaches : (nat_lt k ticket_limit ≡ true) × (nat_lt (k + 1) ticket_limit ≡ false) × ((k + 1 == k) ≡ false)
    reaches = (lt-ltb k ticket_limit (omega (arith, last)), le-ltb (k + 1) ticket_limit (omega (arith, last)), ne_eqb (k + 1) k (λ e. absurd (omega (arith, e))))

    comes_last : after m (behind k) round ≡ spent (k + 1)
    comes_last = grind (arith, eqb_self k, reaches)

  -- a party that has found no number left has no ticket
  ticketless : (k : ℕ) (es : List (ℕ × Move TicketCall V)) → after m (at_first m 2) es ≡ spent k → HasNoTicket (seen_after m (opening m 2) es) 0
  ticketless k es is =
      let seen = seen_after m (opening m 2) es in
      let there : slice_get (after m (at_first m 2) es).seats 0 ≡ Some (Calling Lock LoadNext None) = ap (λ (s : State TicketWords V TicketCall TicketPoint). slice_get s.seats 0) is in
      empty_is (entries 0 seen.plain).tickets
      (row_tells (ticket_notes v first) Lock LoadNext None 0 seen.plain (seen.span 0) (λ e. is_empty e.tickets) (row_of (ticket_notes v first) Lock LoadNext None) (calls (ticket_facts v first) 2 es 0 there).knows (grind arith))

  waits_on : (k : ℕ) → nat_lt k ticket_limit ≡ false → (es : List (ℕ × Move TicketCall V)) → after m (at_first m 2) es ≡ spent k → MayStarveWhere HasNoTicket m 2 waits_to_enter
  waits_on k none es is =
      forever_where m HasNoTicket ends_or_weak 2 es (spent k) is (0, Step) [] Lock LoadNext None refl
      (grind (arith, none), grind (arith, none), grind (arith, none)) (ticketless k es is)

  pub lock_starves : MayStarveWhere HasNoTicket m 2 waits_to_enter
  lock_starves = by_left (nat_lt first ticket_limit) refl
    where
      by_left : (b : Bool) → nat_lt first ticket_limit ≡ b → MayStarveWhere HasNoTicket m 2 waits_to_enter
      by_left false none = waits_on first none ((0, Begin Lock) ∷ []) refl
      by_left true left =
          let r : ℕ = ticket_limit - (first + 1) in
          let under : first < ticket_limit = ltb-true first ticket_limit left in
          let es = joined (rounds r) in let is = (passes r first (omega (arith, under))).2 in
          let last : first + r + 1 ≡ ticket_limit = omega (arith, under) in
          waits_on (first + r + 1) ((reaches (first + r) last).1) (past ++ (es ++ round))
          (after-append m (at_first m 2) past (es ++ round) ∙ ap (λ s. after m s (es ++ round)) (starts under) ∙ after-append m (behind first) es round ∙ ap (λ s. after m s round) is ∙ comes_last (first + r) last)

  pub may_be_passed_over : MayBePassedOver m first
  may_be_passed_over r left =
      let here = starts (omega (arith, left)) in
      let is = subst (Passes r (first + r)) (sym here) (passes r first left) in
      let at : slice_get (after m (at_first m 2) past).seats 0 ≡ Some (Calling Lock (Take first) None) = ap (λ (s : State TicketWords V TicketCall TicketPoint). slice_get s.seats 0) here in
      (past, rounds r, (length-replicate r round, (Take first, at), is.0, is.1))
