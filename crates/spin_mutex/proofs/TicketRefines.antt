-- The table of tickets can be executed by a cell of two words.
use Rattle.std.proofs.Common.{◌≡◌, ◌≤◌, ◌+◌, ◌-◌, ◌%◌, ◌^◌, ℕ, [], true, false, Option, Some, None, List, zero, suc, refl, ap, sym, ◌∙◌, arith, subst}
use Rattle.std.proofs.lemmas.Bool.{eqb-true}
use Rattle.spin_step.specs.Plain.{Plain, ticket_limit, fresh, is_first, next_word, serving_word}
use Rattle.spin_step.specs.Orders.{IsInOrder}
use Rattle.spin_step.specs.Tickets.{HasTicketNumbers}
use Rattle.spin_step.proofs.InOrder.{in_order-fresh}
use Rattle.spin_step.proofs.TicketSteps.{ticket_take-grants, ticket_take-grants_alone, ticket_serve-gives}
use Rattle.spin_step.proofs.Tickets.{serving-taken, serving-entered, entered_is_served, first-length, enters_in_turn}
use Rattle.spin_step.specs.TicketCalls.{ticket_table, ticket_memory, word_of, act_of}
use Rattle.spin_step.specs.Acts.{Table, next_of}
use Rattle.spin_step.specs.declared.answer.Answer.{Answer}
use Rattle.spin_step.specs.declared.place.Hold.{Hold}
use Rattle.spin_step.specs.declared.place.Hold.TheVariants as hold
use Rattle.spin_step.specs.declared.place.Seat.TheVariants.{Holding}
use Rattle.spin_step.specs.declared.ticket_calls.TicketCall.{TicketCall}
use Rattle.spin_step.specs.declared.ticket_calls.TicketCall.TheVariants.{Lock, TryLock, Release}
use Rattle.spin_step.specs.declared.ticket_calls.TicketWords.{TicketWords}
use Rattle.spin_step.specs.declared.ticket_calls.TicketPoint.{TicketPoint}
use Rattle.spin_step.specs.declared.ticket_calls.TicketPoint.TheVariants.{Take, Await, TryTake, Serve}
use Rattle.spin_core.specs.Views.{Part, queues, HasPart, IsLockOf}
use Rattle.spin_core.proofs.tie.Leaving.{serving_word-up}
use Rattle.spin_core.proofs.tie.Owners.{OfTickets, one_ticket, writers_queue}
use Rattle.spin_session.specs.Meaning.{AreWords, Peeks, use_at, ways_of, with_second, FindsAt, SoundOn, part_of, seat_after, ComesFrom, RefinesOn}
use Rattle.spin_core.specs.Cell.{writes, writers_of, MeetsRule}
use Rattle.spin_core.specs.declared.tie.Opening.{Opening}
use Rattle.spin_core.specs.declared.trace.Trace.{Trace}
use Rattle.spin_session.specs.Operating.{Executes}
use Rattle.spin_session.proofs.Executing.{executes_on}
use Rattle.spin_session.proofs.Refining.{starts_on}
use Rattle.spin_mutex.specs.Queue.{View, Made, IsQueue, part, ticket_meaning, ticket_tables}

opened : (n : ℕ) → n ≡ n - 0
opened n = omega arith

-- the cap is 0, so the numbers are consecutive
numbers : (s : Plain) → s.cap ≡ 0 → IsInOrder s → HasTicketNumbers s
numbers s room order = (order.numbered.0, order.numbered.1 room)

kind : (v : View) → OfTickets part v
kind v = grind arith

-- nobody writes while no ticket is out
pub quiet : (next serving : ℕ) → next ≡ serving → (vs : List View) → AreWords with_second ticket_meaning next serving vs → writers_of (use_at ticket_meaning) vs ≡ 0
quiet next serving none vs is = let words = is.0 in
    omega (arith, none, words.4, words.5, words.2.numbered.0, writers_queue part kind vs words.0 words.3)

module _ {T : Type 0} (value : T) (first : ℕ) where
  abbrev t : Table TicketWords T TicketCall TicketPoint (Answer T)
  t = ticket_table value first

  abbrev Step : TicketCall → TicketPoint → Option Hold → ℕ → Plain → Part → Type 0
  Step c l h = SoundOn with_second ticket_memory (record { next = first; serving = first }) (word_of l) (λ x. (next_word x, serving_word x)) (λ n. Unit {0}) (act_of l h) (λ next. part_of ticket_meaning (seat_after {A = Answer T} c h next))

  module _ (p : ℕ) (plain : Plain) (room : plain.cap ≡ 0) (order : IsInOrder plain) where
    -- the ticket of a party that has entered is the first one, and the one served
    module _ (t : ℕ) (has : HasPart plain p (queues t true)) where
      own : (is_first p true plain.tickets ≡ true) × (serving_word plain ≡ t)
      own = entered_is_served plain p t (numbers plain room order) order.exclusive.one_entered (ap (λ e. e.tickets) has.0)

      frees : Step Release (Serve t) (Some (hold.Ticket t)) p plain (queues t true)
      frees =
          let small : (t + 1) % 2 ^ 64 ≡ t + 1 = omega (arith, order.within_limit, order.numbered.0, first-length p true plain.tickets own.0, own.1) in
          record { opens = (refl, own.0); entries = refl; knows = tt; counts = λ i. (next_word plain, (small ∙ ticket_serve-gives plain p t order.numbered.0 own.1 own.0) i); same = small; bounded = tt }

  sound : (c : TicketCall) (l : TicketPoint) (h : Option Hold) (p : ℕ) (plain : Plain) (vs : List View) (from : Part) → ComesFrom (ticket_table value first) ticket_meaning c l h from → plain.cap ≡ 0 → IsInOrder plain → IsLockOf (part_of ticket_meaning) vs plain → Unit {0}
      → HasPart plain p from → Step c l h p plain from
  sound Lock (Take k) None p s vs from comes room order is fine has = grind (arith, comes, ticket_take-grants s p k, serving-taken s p false (numbers s room order))
  sound Lock (Await t) None p s vs from comes room order is fine has = grind (arith, comes, has, enters_in_turn s p (serving_word s) t (numbers s room order) refl, serving-entered s)
  sound TryLock (TryTake k) None p s vs from comes room order is fine has = grind (arith, comes, has, ticket_take-grants_alone s p k order.numbered.0, serving-taken s p true (numbers s room order), order.numbered.0)
  sound Release (Serve t) (Some (hold.Ticket u)) p s vs from comes room order is fine has =
      let e : (t ≡ u) × (from ≡ queues u true) = grind (arith, comes) in rw (e.0, e.1) (frees p s room order u (rw e.1 at has))
  sound c l h p s vs from comes room order is fine has = grind (arith, comes, eqb-true)

  -- each word may be 0
  empty : (i : ℕ) → FindsAt ticket_meaning i 0
  empty zero = (tt, (fresh 0 0 0, refl, in_order-fresh 0 0 0 (omega arith), refl))
  empty (suc i) = (fresh 0 0 0, refl, in_order-fresh 0 0 0 (omega arith), refl)

  pub ticket_refines : RefinesOn t with_second ticket_meaning
  ticket_refines = record {
    places = grind arith;
    within = grind arith;
    accesses = grind arith;
    operates = grind arith;
    writes_words = grind arith;
    first = first;
    opens_at = (λ i. (first, opened first i), tt);
    empty = λ l. empty (word_of l);
    nobody = (λ k s. refl, serving_word-up);
    fits = one_ticket part kind 0;
    goes = grind arith;
    sound = sound;
  }

  -- how a call goes on does not depend on the number with which the words open
  pub goes_alike : (c : TicketCall) (l : TicketPoint) (h : Option Hold) (n : ℕ) → next_of (ticket_table value 0) c l h n ≡ next_of (ticket_table value first) c l h n
  goes_alike c l h n = grind arith

pub starts : {T : Type 0} (key : Opening T) (t : Trace (Made T) ℕ) → t.name ≡ key.name → t.entries ≡ [] → t.word ≡ key.start → key.start ≤ ticket_limit → MeetsRule (IsQueue key) (ways_of ticket_meaning key) key.start t []
unfolding ticket_refines
starts key t named empty word small =
    starts_on with_second (ticket_table key.value key.start) ticket_meaning (ticket_refines key.value key.start) key small t named empty (word ∙ opened key.start)

pub ticket_executes : {T : Type 0} → Executes with_second (ticket_tables {T = T}) ticket_meaning IsQueue (ways_of ticket_meaning)
ticket_executes {T} = executes_on with_second (ticket_tables {T = T}) ticket_meaning (λ start value. ticket_refines value start)

-- only a party with a ticket that has entered writes
pub entered_of : (v : View) → use_at ticket_meaning v ≡ writes → (n : ℕ) × (v ≡ Holding (hold.Ticket n))
entered_of (Holding (hold.Ticket n)) uses = (n, refl)
entered_of v uses = absurd (grind (arith, uses))

-- a party that writes, and found this number served, has entered with the ticket of this number
pub peeked_seat : (v : View) (found : ℕ) → use_at ticket_meaning v ≡ writes → Peeks with_second ticket_meaning v found → v ≡ Holding (hold.Ticket found)
peeked_seat v found uses (plain, p, room, order, has, is) =
    let (n, seat) = entered_of v uses in
    let has' : HasPart plain p (queues n true) = subst (λ x. HasPart plain p (part x)) seat has in
    let own = (entered_is_served plain p n (numbers plain room order) order.exclusive.one_entered (ap (λ e. e.tickets) has'.0)).1 in
    seat ∙ ap (λ k. Holding (hold.Ticket k)) (sym own ∙ sym is)
