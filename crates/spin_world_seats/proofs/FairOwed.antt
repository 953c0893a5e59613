-- What the table of fair seats has to show in the world.
use Rattle.std.proofs.Common.{◌≡◌, ℕ, ◌+◌, ◌-◌, ◌<◌, ◌≤◌, ◌⊎◌, true, false, Option, Some, None, List, [], ◌∷◌, nat_lt, refl, ap, inl, inr, ◌∙◌, arith}
use Rattle.std.specs.List.{list_any}
use Rattle.spin_step.specs.Plain.{Plain, ticket_limit, reading, to_take_ticket, to_sit, Change, gets, releases, apply, is_open, is_holder}
use Rattle.spin_step.specs.Parties.{Entries, entries}
use Rattle.spin_step.specs.Calls.{BelongsTo, Mark, granted}
use Rattle.spin_step.specs.Tickets.{take}
use Rattle.spin_step.specs.Acts.{passing}
use Rattle.spin_step.specs.declared.place.Hold.{Hold}
use Rattle.spin_step.specs.declared.place.Hold.TheVariants as hold
use Rattle.spin_step.proofs.Holders.{is_holder-from_entries, is_holder-own}
use Rattle.spin_step.proofs.TicketSteps.{ticket_take-grants}
use Rattle.spin_world_core.proofs.Lists.{eqb_self}
use Rattle.spin_world_core.proofs.Names.{ne_eqb}
use Rattle.spin_world_core.proofs.Steps.{Plays}
use Rattle.spin_world_core.proofs.Stands.{holds, queues, entries_at}
use Rattle.spin_world_core.proofs.Rows.{Point, nowhere, looked, onward}
use Rattle.spin_world_core.proofs.Shapes.{Notes, Means, OwesAll, SoonAll, Pays}
use Rattle.spin_world_core.proofs.Filled.{plays_of}
use Rattle.spin_fair_seats.specs.FairSeats.{given_word, may_sit}
use Rattle.spin_fair_seats.specs.Kind as kind
use Rattle.spin_fair_seats.specs.Kind.{hinders, takes_ticket}
use Rattle.spin_fair_seats.specs.Table.{fair_seats_table, fair_seats_machine}
use Rattle.spin_fair_seats.specs.declared.calls.FairSeatsWords.{FairSeatsWords}
use Rattle.spin_fair_seats.specs.declared.calls.FairSeatsCall.{FairSeatsCall}
use Rattle.spin_fair_seats.specs.declared.calls.FairSeatsCall.TheVariants.{Enter, TryEnter, Count, Leave}
use Rattle.spin_fair_seats.specs.declared.calls.FairSeatsPoint.{FairSeatsPoint}
use Rattle.spin_fair_seats.specs.declared.calls.FairSeatsPoint.TheVariants.{LoadNext, Take, Await, TryNext, TryGiven, TryTake, CountNext, CountGiven, Give}
use Rattle.spin_fair_seats.proofs.Line.{Fair, Line, sit_is, sit_near, take_given, sit_given, give_given, take_line, sit_line, give_line, give_low}

-- the row of a party that waits with its ticket
abbrev waiting : ℕ → ℕ → Point
waiting t k = onward (record { stand = queues t false; made = λ p. gets p to_take_ticket ∷ []; rest = λ p. gets p to_sit ∷ []; said = granted; spent = k })

abbrev pub point_of : ℕ → FairSeatsCall → FairSeatsPoint → Option Hold → Point
point_of n Enter (Take k) None = looked 1
point_of n Enter (Await t) None = waiting t 0
point_of n TryEnter (TryGiven k) None = looked 1
point_of n TryEnter (TryTake k) None = looked 2
point_of n TryEnter (Await t) None = waiting t 3
point_of n Count (CountGiven k) None = looked 1
point_of n Enter LoadNext None = looked 0
point_of n TryEnter TryNext None = looked 0
point_of n Count CountNext None = looked 0
point_of n Leave Give (Some hold.Read) = looked 0
point_of n c l h = nowhere

-- What else a party knows: the next number does not fall; a try that found a free seat finds it free, unless another party hinders it.
abbrev KnowsAt : ℕ → FairSeatsCall → FairSeatsPoint → ℕ → Plain → List Mark → Type 0
KnowsAt n TryEnter (TryGiven k) p s span = (k ≤ s.next) × ((s.next ≡ k) ⊎ (list_any (hinders p) span ≡ true))
KnowsAt n TryEnter (TryTake k) p s span = (may_sit n k (given_word s) ≡ true) × (k < ticket_limit) × ((s.next ≡ k) ⊎ (list_any (hinders p) span ≡ true))
KnowsAt n TryEnter (Await t) p s span = may_sit n t (given_word s) ≡ true
KnowsAt n Count (CountGiven k) p s span = k ≤ s.next
KnowsAt n c l p s span = Unit {0}

abbrev pub fair_seats_notes : (n : ℕ) → Notes (fair_seats_table n)
fair_seats_notes n = record { Shape = λ s. Line n s; point = point_of n; Knows = λ c l h p s span. KnowsAt n c l p s span }

module _ (n : ℕ) where
  module _ (p : ℕ) (s : Plain) (w : FairSeatsWords) (line : Line n s) (next_is : s.next ≡ w.next) (given_is : given_word s ≡ w.given) where
    take_means : Means (fair_seats_notes n) p s (gets p to_take_ticket) (λ k. record w { next = k }) (take w.next)
    take_means = grind (arith, ticket_take-grants s p w.next, take_line n s p line, take_given s p line.fair)

    sit_means : (t : ℕ) → entries p s ≡ entries_at p (queues t false) → Means (fair_seats_notes n) p s (gets p to_sit) (λ g. w) (passing (may_sit n t w.given) w.given)
    sit_means t mine =
        let is = sit_is s p line.fair t (ap (λ (e : Entries). e.tickets) mine) in
        let given : is_open s (gets p to_sit) ≡ true → given_word (apply s (gets p to_sit)) ≡ given_word s = λ may. sit_given s p line.fair (sit_near s p may) in
        grind (arith, is, line.room, sit_line n s p line, given)

    give_means : entries p s ≡ entries_at p (holds reading) → (nat_lt w.given ticket_limit ≡ true) × Means (fair_seats_notes n) p s (releases p reading) (λ k. record w { given = k }) (Some (w.given + 1))
    give_means mine =
        let stands = is_holder-from_entries p reading s.holders (ap (λ (e : Entries). e.holders) mine) in
        grind (arith, stands, give_line n s p line stands, give_given s p line.fair stands, give_low n s p line stands)

  -- no plain step of this kind of lock makes a word less, and only one that takes a ticket changes the first
  rises : (s : Plain) (c : Change) → Fair s → is_open s c ≡ true → BelongsTo kind.fair_seats (Some c)
      → (s.next ≤ (apply s c).next) × (given_word s ≤ given_word (apply s c)) × ((takes_ticket (Some c) ≡ true) ⊎ ((apply s c).next ≡ s.next))
  rises s (gets p to_take_ticket) f may belongs = (omega arith, omega (arith, take_given s p f), inl refl)
  rises s (gets p to_sit) f may belongs = (omega arith, omega (arith, sit_given s p f (sit_near s p may)), inr refl)
  rises s (releases p reading) f may belongs = (omega arith, omega (arith, give_given s p f may), inr refl)
  rises s c f may belongs = absurd (grind (arith, belongs))

  owes : OwesAll (fair_seats_notes n)
  owes p Enter LoadNext None s w span = grind (arith, take_means p s w, eqb_self p)
  owes p Enter (Take k) None s w span = grind (arith, take_means p s w, eqb_self p)
  owes p Enter (Await t) None s w span = grind (arith, sit_means p s w, eqb_self p)
  owes p TryEnter (TryGiven k) None s w span = grind (arith, eqb_self p)
  owes p TryEnter (TryTake k) None s w span = grind (arith, take_means p s w, eqb_self p)
  owes p TryEnter (Await t) None s w span = grind (arith, sit_means p s w, eqb_self p)
  owes p Count (CountGiven k) None s w span = grind (arith, eqb_self p)
  owes p c l h s w span = grind (arith, give_means p s w, eqb_self p)

  -- a party that waits does not sit
  stands_only : (p t : ℕ) (s : Plain) → entries p s ≡ entries_at p (queues t false) → is_holder p reading s.holders ≡ false
  stands_only p t s mine = is_holder-own p reading s.holders ∙ ap (λ (e : Entries). is_holder p reading e.holders) mine

  -- if nobody disturbs the call, it takes the next ticket, at once or after a look, and sits with it
  soon : SoonAll (fair_seats_notes n)
  soon p Enter (Await t) None s w span = λ waits at may.
      let mine = at.knows.0.stand in grind (arith, at, may, at.shape.room, stands_only p t s mine, sit_is s p at.shape.fair t (ap (λ (e : Entries). e.tickets) mine))
  soon p Enter LoadNext None s w span = λ waits at may. grind (arith, at, may, at.shape.room, at.shape.fair)
  soon p Enter (Take k) None s w span = λ waits at may. grind (arith, at, may, at.shape.room, at.shape.fair)
  soon p c l h s w span = grind arith

  pub fair_seats_pays : Pays (fair_seats_notes n)
  fair_seats_pays = record {
    computes = grind arith;
    calls = λ c h. (0, grind arith);
    promises = record { begins = λ c. grind arith; limited = λ c h words. grind arith; tries = λ c h ask. grind arith; sections = λ d. grind arith };
    others = λ p q c l h s step r span ne line may belongs knows. grind (arith, ne_eqb q p ne, knows, rises s);
    owes = owes;
    soon = soon;
  }

pub fair_seats_facts : (n : ℕ) → Plays (fair_seats_machine n) (fair_seats_notes n)
fair_seats_facts n = plays_of (fair_seats_pays n) refl
