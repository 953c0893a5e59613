-- What has to be shown of the ticket lock's table.
use Rattle.spin_world.proofs.TicketNames.{serving-advances, ◌≡◌, ℕ, ◌+◌, ◌==◌, true, false, Option, Some, None, List, ◌∷◌, refl, arith, Plain, effect, to_take_ticket, to_enter, to_take_and_enter, Change, gets, serves, next_word, serving_word, entries, take, enters_in_turn, numbered-given, numbered-serves, serving-taken, serving-entered, entered_is_served, stands, Hold, TicketWords, TicketCall, Lock, TryLock, IsLocked, Release, TicketPoint, LoadNext, Take, Await, TryLoadNext, TryLoadServing, TryTake, LookServing, LookNext, Serve, own_count, passing, is_left, ticket_table, ticket_machine, Plays, queues, entries_at, any_map, Point, nowhere, looked, onward, Notes, Means, OwesAll, []}
use Rattle.spin_step.specs.Parties.{first_alone_entered}
use Rattle.spin_step.proofs.TicketSteps.{ticket_take-grants_alone, ticket_serve-gives}
use Rattle.spin_step.specs.declared.place.Hold.TheVariants as hold
use Rattle.spin_step.specs.Calls.{AnyOf, Mark, granted}
use Rattle.spin_world_core.proofs.Lists.{eqb_self}
use Rattle.spin_world_core.proofs.Names.{ne_eqb}
use Rattle.spin_world_core.proofs.Filled.{plays_of}
use Rattle.spin_world.proofs.TicketKnowledge.{Queue, Stays, Rises, try_refused, look_right}

abbrev pub point_of : TicketCall → TicketPoint → Option Hold → Point
point_of Lock LoadNext None = looked 0
point_of Lock (Take n) None = looked 1
point_of Lock (Await t) None = onward (record { stand = queues t false; made = λ p. gets p to_take_ticket ∷ []; rest = λ p. gets p to_enter ∷ []; said = granted; spent = 0 })
point_of TryLock TryLoadNext None = looked 0
point_of TryLock (TryLoadServing n) None = looked 1
point_of TryLock (TryTake n) None = looked 2
point_of IsLocked LookServing None = looked 0
point_of IsLocked (LookNext k) None = looked 1
point_of Release (Serve t) (Some (hold.Ticket u)) = looked 0
point_of _ _ _ = nowhere

-- What else a party knows. Since it found a number, some party had a ticket, or this number is still served. A holder's
-- point names the ticket with which it holds.
abbrev KnowsAt : TicketPoint → Option Hold → ℕ → Plain → List Mark → Type 0
KnowsAt (TryLoadServing n) h p s span = Stays n s span × AnyOf (λ m. (m.party ≡ p) × (next_word m.before ≡ n)) span × (own_count p span ≡ 1)
KnowsAt (TryTake n) h p s span = Rises n s span × (own_count p span ≡ 2)
KnowsAt (LookNext k) h p s span = Rises k s span
KnowsAt (Serve t) (Some (hold.Ticket u)) p s span = t ≡ u
KnowsAt _ h p s span = Unit {0}

abbrev pub ticket_notes : {V : Type 0} (v : V) (first : ℕ) → Notes (ticket_table v first)
ticket_notes v first = record { Shape = λ s. Queue s; point = point_of; Knows = λ c l h p s span. KnowsAt l h p s span }

module _ {V : Type 0} (v : V) (first : ℕ) where
  abbrev IsMeant : ℕ → Plain → Change → (ℕ → TicketWords) → Option ℕ → Type 0
  IsMeant p s c put o = Means (ticket_notes v first) p s c put o

  -- what the step functions mean in such a queue
  module _ (p : ℕ) (s : Plain) (w : TicketWords) (queue : Queue s) (next_is : s.next ≡ w.next) (serving_is : serving_word s ≡ w.serving) where
    take_means : IsMeant p s (gets p to_take_ticket) (λ n. record w { next = n }) (take w.next)
    take_means = grind (arith, queue, serving-taken s p false queue.numbered, numbered-given s p (effect to_take_ticket) queue.numbered)

    enter_means : (t : ℕ) → entries p s ≡ entries_at p (queues t false) → IsMeant p s (gets p to_enter) (λ k. w) (passing (w.serving == t) w.serving)
    enter_means t mine = grind (arith, enters_in_turn, serving-entered, numbered-given s p (effect to_enter) queue.numbered, stands)

    serve_means : (t u : ℕ) → t ≡ u → first_alone_entered s.tickets ≡ true → entries p s ≡ entries_at p (queues u true)
        → (is_left t ≡ true) × IsMeant p s (serves p) (λ k. record w { serving = k }) (Some (t + 1))
    serve_means t u same one mine = grind (arith, entered_is_served, ticket_serve-gives, numbered-serves, stands)

  owes : OwesAll (ticket_notes v first)
  owes p TryLock (TryLoadServing n) None s w span =
      let found = any_map (λ m. (m.party ≡ p) × (next_word m.before ≡ n)) (λ m. (m.party ≡ p) × (next_word m.before ≡ serving_word s)) span in
      grind (arith, found, try_refused p n s span, eqb_self p)
  owes p TryLock (TryTake n) None s w span = grind (arith, numbered-given s p (effect to_take_and_enter), ticket_take-grants_alone s p w.next, serving-taken s p true, try_refused p n s span)
  owes p IsLocked (LookNext k) None s w span = grind (arith, look_right (w.next == k) p k s span)
  owes p c l h s w span = grind (arith, take_means p s w, enter_means p s w, serve_means p s w, eqb_self p)

  pub ticket_facts : Plays (ticket_machine v first) (ticket_notes v first)
  ticket_facts = plays_of (record {
    computes = grind (arith, eqb_self);
    calls = λ c h. (0, grind arith);
    promises = record { begins = λ c. grind arith; limited = λ c h words. grind arith; tries = λ c h ask. grind arith; sections = λ d. grind arith };
    others = λ p q c l h s step r span ne queue may belongs knows.
        grind (arith, λ (c : Change). serving-advances s c queue.numbered, ne_eqb q p ne);
    owes = owes;
    -- If nobody disturbs the call, the party takes the next ticket, at once or after a look. It enters if its number
    -- is served.
    soon = λ p c l h s w span. grind (arith, enters_in_turn s p w.serving);
  }) refl
