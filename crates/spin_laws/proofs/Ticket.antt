-- In how many rounds a `lock` is granted: first until the call has its ticket, and then with this ticket.
use Rattle.spin_laws.proofs.Names.{seat_of, Knows, empty_is, max, ◌++◌, ◌⊎◌, cases_lt, resting, if◌then◌else◌, ◌≡◌, ℕ, ◌+◌, ◌-◌, ◌<◌, ◌≤◌, ◌==◌, Bool, true, false, not, Option, Some, None, List, [], ◌∷◌, refl, ap, sym, ◌∙◌, arith, filter, slice_get, Plain, Change, is_empty, apply_some, IsOpenStep, Seen, scene, opening, ticket_machine, Plays, after, at_first, seen_after, zero, ticket_limit, Answer, Hold, Calling, Holding, Move, Step, TicketWords, TicketCall, TicketPoint, Take, suc, ◌*◌, ◌&&◌, subst, inr, ⊎_elim, length, nat_lt, and_parts, cases_eq, eqb-true, ne_eqb, eq-eqb, lt-ltb, Seat, Next, BelongsTo, Mark, joined, Machine, occurs, AreRounds, grants_party, Scene, scene_at, State, happens, eqb_self, get-set_same, Invariant, in_call, good_after, state-seen_after, good, state_is, numbers_are, calls_so, calls, EntersInRounds, LocksInRounds, slice_get_past, length-happens}
use Rattle.spin_world.proofs.TicketNames.{Entries, HasTicketNumbers, enters_in_turn, serving-taken, stands, serving-moves, asks_of, bit, Lock, Release, Await, queued, Queued, LoadNext, Serve, is_first, serving_word}
use Rattle.spin_world.proofs.TicketOwed.{ticket_notes, ticket_facts}
use Rattle.spin_step.specs.TicketKind.{ticket}
use Rattle.spin_step.proofs.Tickets.{serving-gone}
use Rattle.spin_step.specs.Tickets.{numbered_from}
use Rattle.spin_world_core.proofs.Names.{length-replicate, true≢false, slice_get_within}
use Rattle.spin_laws.proofs.Loads.{Wait}
use Rattle.spin_laws.proofs.Waiting.{is_busy}
use Rattle.spin_step.specs.declared.place.Hold.TheVariants as hold
use Rattle.spin_laws.proofs.Loads as walk

-- The queue

abbrev own : ℕ → List Queued → List Queued
own p ts = filter (λ t. t.party == p) ts

-- the party with the first ticket
abbrev first_party : List Queued → ℕ
first_party [] = 0
first_party (t ∷ ts) = t.party

-- the number of p's ticket is one of the numbers in the queue
in_queue : (p n k : ℕ) (ts : List Queued) → numbered_from k ts → own p ts ≡ queued p n false ∷ [] → (k ≤ n) × (n < k + length ts)
in_queue p n k [] numbers e = absurd (cc (e))
in_queue p n k (t ∷ ts) numbers e = grind (arith, in_queue p n (suc k) ts)

-- if p has a ticket that is not the first, the number of p's ticket is above the first ticket's number
later : (p n k : ℕ) (ts : List Queued) → numbered_from k ts → own p ts ≡ queued p n false ∷ [] → (first_party ts ≡ p → ⊥) → k < n
later p n k ts numbers e ne = grind (arith, in_queue)

-- an empty queue stays empty until a party takes a ticket
stays_empty : (s : Plain) (q : ℕ) (step : Option Change) → is_empty s.tickets ≡ true → IsOpenStep s q step → (apply_some s step).next ≤ s.next → (apply_some s step).tickets ≡ []
stays_empty s q step none opens same = grind (arith, empty_is)

-- if the first ticket is p's and has not entered, this ticket may enter
first_turn : (p n : ℕ) (ts : List Queued) → own p ts ≡ queued p n false ∷ [] → p ≡ first_party ts → is_first p false ts ≡ true
first_turn p n ts mine is = grind (arith, eqb_self)

-- another party's step does not change the first ticket's party and number
leaves_first : (s : Plain) (q : ℕ) (step : Option Change) → is_empty s.tickets ≡ false → HasTicketNumbers s → (q ≡ first_party s.tickets → ⊥) → IsOpenStep s q step → BelongsTo ticket step
    → (first_party (apply_some s step).tickets ≡ first_party s.tickets) × (serving_word (apply_some s step) ≡ serving_word s)
leaves_first s q step some numbered ne may belongs = grind (arith, serving-moves)

-- How long it takes until the first ticket leaves

-- how many moves the party of the first ticket makes until its ticket leaves: it enters, begins to release, and serves the next number
abbrev left_to : Option (Seat TicketCall TicketPoint) → ℕ
left_to (Some (Calling Lock l h)) = 3
left_to (Some (Holding h)) = 2
left_to _ = 1

-- how many rounds the party q, with this seat, keeps ticket t waiting while s is served: none unless q has the first
-- ticket
abbrev ahead : ℕ → ℕ → List Queued → ℕ → Option (Seat TicketCall TicketPoint) → ℕ
ahead t s [] q his = 0
ahead t s (x ∷ xs) q his = if x.party == q then 3 * (t - s) + left_to his - 2 else 0

ahead_most : (t s : ℕ) (ts : List Queued) (q : ℕ) (his : Option (Seat TicketCall TicketPoint)) → ahead t s ts q his ≤ 3 * (t - s) + left_to his - 2
ahead_most t s ts q his = grind arith

left_few : (his : Option (Seat TicketCall TicketPoint)) → left_to his ≤ 3
left_few his = grind arith

-- `ahead` of the party of the first ticket
ahead_own : (t s : ℕ) (ts : List Queued) (his : Option (Seat TicketCall TicketPoint)) → is_empty ts ≡ false → ahead t s ts (first_party ts) his ≡ 3 * (t - s) + left_to his - 2
ahead_own t s ts his some = grind (arith, true≢false, eqb_self)

-- `ahead` of any other party is 0
ahead_other : (t s : ℕ) (ts : List Queued) (q : ℕ) (his : Option (Seat TicketCall TicketPoint)) → (q ≡ first_party ts → ⊥) → ahead t s ts q his ≡ 0
ahead_other t s ts q his ne = grind arith

-- `ahead` does not rise while the first ticket's party is the same
ahead_same : (t s : ℕ) (ts us : List Queued) (q : ℕ) (his : Option (Seat TicketCall TicketPoint)) → is_empty ts ≡ false → first_party us ≡ first_party ts → ahead t s us q his ≤ ahead t s ts q his
ahead_same t s ts us q his some same = grind (arith, some, same)

-- Each party has at most one ticket, so there are at most as many tickets as parties

-- how many tickets the first n parties have
abbrev total : ℕ → List Queued → ℕ
total zero ts = 0
total (suc n) ts = total n ts + length (own n ts)

total_cons : (n : ℕ) (t : Queued) (ts : List Queued) → total n (t ∷ ts) ≡ total n ts + bit (nat_lt t.party n)
total_cons zero t ts = grind arith
total_cons (suc n) t ts = grind (arith, total_cons n t ts)

all_in : (n : ℕ) (ts : List Queued) → ((q : ℕ) → n ≤ q → is_empty (own q ts) ≡ true) → length ts ≤ total n ts
all_in n [] none = omega arith
all_in n (t ∷ ts) none =
    let rest : (q : ℕ) → n ≤ q → is_empty (own q ts) ≡ true = λ q le. grind (arith, none q le) in
    grind (arith, all_in n ts rest, total_cons n t ts, none t.party, eqb_self t.party)

few : (n : ℕ) (ts : List Queued) → ((q : ℕ) → length (own q ts) ≤ 1) → total n ts ≤ n
few zero ts each = omega arith
few (suc n) ts each = omega (arith, few n ts each, each n)

-- if one of the n parties has no ticket, there are fewer tickets than parties
fewer : (p n : ℕ) (ts : List Queued) → ((q : ℕ) → length (own q ts) ≤ 1) → is_empty (own p ts) ≡ true → p < n → total n ts + 1 ≤ n
fewer p zero ts each none lt = absurd (omega (arith, lt))
fewer p (suc n) ts each none lt = grind (arith, few n ts each, fewer p n ts each none, each n, none, cases_eq p n)

abbrev two : Entries → Bool
two e = nat_lt 1 (length e.tickets)

-- a step never lowers the next number
next_grows : (s : Plain) (step : Option Change) → s.next ≤ (apply_some s step).next
next_grows s step = grind arith

-- How many rounds a party without a ticket waits at most until it has one and enters. `taken` is how many tickets are
-- still to be taken, its own included. `next` says whether its next step tries to take the next number. If only its own
-- ticket is still to be taken, the queue moves on in the meantime.
abbrev doorway : ℕ → ℕ → Bool → ℕ
doorway n taken next = (if nat_lt taken 2 then 2 else max 2 (3 * n - 2)) + taken - (if next then 1 else 0)

doorway_less : (n taken later : ℕ) (next soon : Bool) → later < taken → doorway n later soon ≤ doorway n taken next
doorway_less n taken later next soon less = grind (arith, less)

doorway_fits : (n taken : ℕ) (next : Bool) → (1 ≤ doorway n taken next) × (doorway n taken next ≤ max 2 (3 * n - 2) + taken)
doorway_fits n taken next = grind arith

-- while a ticket has to be taken, at least two rounds are left
doorway_two : (n taken : ℕ) → 1 ≤ taken → 2 ≤ doorway n taken true
doorway_two n taken some = grind (arith, some)

doorway_long : (n taken r : ℕ) (next : Bool) → 2 ≤ taken → doorway n taken next ≤ suc r → 3 * n - 2 ≤ r
doorway_long n taken r next many le = grind (arith, many, le)

bit_few : (b : Bool) → (if b then 1 else 0) ≤ 1
bit_few b = grind arith

abbrev has_ticket : Entries → Bool
has_ticket e = not (is_empty e.tickets)

-- the list begins with the ticket t, which has not entered
abbrev waits_by : ℕ → List Queued → Bool
waits_by t [] = false
waits_by t (x ∷ xs) = (x.number == t) && not x.entered

-- a point of a `lock`; before the call has a ticket, some number has to be left at the end of the rounds
abbrev at_lock : ℕ → TicketPoint → Type 0
at_lock N (Await t) = Unit {0}
at_lock N LoadNext = N < ticket_limit
at_lock N (Take j) = N < ticket_limit
at_lock N _ = ⊥

abbrev at_door : TicketPoint → Type 0
at_door LoadNext = Unit {0}
at_door (Take j) = Unit {0}
at_door _ = ⊥

-- the number that the party tries to take is the next one
abbrev is_fresh : TicketPoint → ℕ → Bool
is_fresh (Take j) next = j == next
is_fresh l next = false

-- the load of p, a number of rounds (see Loads.antt), while p waits at this point
abbrev mine_by : ℕ → ℕ → ℕ → Plain → TicketPoint → ℕ
mine_by p n N s (Await t) = if first_party s.tickets == p then 1 else 0
mine_by p n N s l = doorway n (N - s.next) (is_fresh l s.next)

-- the load of another party q, while p waits at this point
abbrev theirs_by : ℕ → Plain → TicketPoint → ℕ → Option (Seat TicketCall TicketPoint) → ℕ
theirs_by N s (Await t) q his = ahead t (serving_word s) s.tickets q his
theirs_by N s l q his = if N - s.next == 1 then ahead s.next (serving_word s) s.tickets q his else 0

module _ {V : Type 0} (v : V) (first : ℕ) where
  abbrev m : Machine TicketWords V TicketCall TicketPoint (Answer V)
  m = ticket_machine v first

  abbrev f : Plays m (ticket_notes v first)
  f = ticket_facts v first

  abbrev World : Type 0
  World = Seen TicketWords V TicketCall TicketPoint

  abbrev TicketSeat : Type 0
  TicketSeat = Seat TicketCall TicketPoint

  abbrev SitsSo : (Entries → Bool) → ℕ → Option TicketSeat → Type 0
  SitsSo = walk.SitsSo (ticket_notes v first)

  strong : (c : TicketCall) (l : TicketPoint) (h : Option Hold) (next : Next TicketPoint (Answer V)) → m.refuse c l h ≡ Some next → ⊥
  strong c l h next is = grind (arith, is)

  next_of : (seen : World) → Invariant f seen → seen.state.words.next ≡ seen.plain.next
  next_of seen good = cc (good.encodes)

  module _ (seen : World) (good : Invariant f seen) where
    each_one : (q : ℕ) → length (own q seen.plain.tickets) ≤ 1
    each_one q = grind (arith, walk.sits_so (ticket_notes v first) two seen good q)

    nobody : (q : ℕ) → length seen.state.seats ≤ q → is_empty (own q seen.plain.tickets) ≡ true
    nobody q past = grind (arith, slice_get_past seen.state.seats q past)

    most_tickets : length seen.plain.tickets ≤ length seen.state.seats
    most_tickets = omega (arith, all_in (length seen.state.seats) seen.plain.tickets nobody, few (length seen.state.seats) seen.plain.tickets each_one)

  module _ (p n N : ℕ) where
    abbrev x : Wait TicketWords V TicketCall TicketPoint (Answer V)
    x = record { goal = grants_party m p; party = p; call = Lock; hold = None; At = at_lock N; Known = λ seen. length seen.state.seats ≡ n; Fine = λ seen. seen.plain.next ≤ N; mine = mine_by p n N; theirs = theirs_by N }

    abbrev its : World → TicketPoint → Scene TicketWords V TicketCall TicketPoint (Answer V)
    its seen l = scene_at m seen p Step (Some (Calling Lock l None))

    module _ (seen : World) (l : TicketPoint) (w : walk.Waits f x seen l) where
      abbrev s : Plain
      s = seen.plain

      abbrev d : ℕ
      d = first_party s.tickets

      abbrev numbered : HasTicketNumbers s
      numbered = w.3.shape.numbered

      serving_is : seen.state.words.serving ≡ serving_word s
      serving_is = let good = w.3 in cc (good.encodes)

      among : p < n
      among = omega (arith, w.2, slice_get_within seen.state.seats p _ w.0)

      his_sits : is_empty s.tickets ≡ false → SitsSo has_ticket d (seat_of seen d)
      his_sits some = walk.sits_so (ticket_notes v first) has_ticket seen w.3 d (grind (arith, some, eqb_self))

      turn_of : (q j : ℕ) → own q s.tickets ≡ queued q j false ∷ [] → (seen.state.words.serving == j) ≡ is_first q false s.tickets
      turn_of q j his = ap (λ i. i == j) serving_is ∙ sym (enters_in_turn s q (serving_word s) j numbered refl his)

      -- A step of another party, while p has the ticket t, or tries to take it

      -- After its step, the party q keeps the ticket t waiting for at most r rounds. Each other party keeps it waiting for
      -- at most as long as before, or at most r rounds.
      record Turned (t r q : ℕ) (sc : Scene TicketWords V TicketCall TicketPoint (Answer V)) : Type 0 where
        mine : ahead t (serving_word sc.after.plain) sc.after.plain.tickets q (seat_of sc.after q) ≤ r
        others : (o : ℕ) → (q ≡ o → ⊥) → ahead t (serving_word sc.after.plain) sc.after.plain.tickets o (seat_of seen o) ≤ max (ahead t (serving_word s) s.tickets o (seat_of seen o)) r
        first_same : (first_party sc.after.plain.tickets ≡ d) ⊎ (1 ≤ r)

      module _ (t r : ℕ) (some : is_empty s.tickets ≡ false) (behind : (d ≡ p → ⊥) → serving_word s < t) where
        abbrev Turns : ℕ → TicketCall → TicketPoint → Option Hold → Type 0
        Turns q c i h = let sc = scene_at m seen q Step (Some (Calling c i h)) in seat_of seen q ≡ Some (Calling c i h) → walk.After f x seen q sc → ahead t (serving_word s) s.tickets q (Some (Calling c i h)) ≤ suc r → Turned t r q sc

        first_turns : (d ≡ p → ⊥) → (c : TicketCall) (i : TicketPoint) (h : Option Hold) → SitsSo has_ticket d (Some (Calling c i h)) → Turns d c i h
        first_turns ne Lock (Await j) None so at after few = grind (arith, at, few)
        first_turns ne Release (Serve j) (Some (hold.Ticket u)) so at after few =
            let sc = scene_at m seen d Step (Some (Calling Release (Serve j) (Some (hold.Ticket u)))) in
            let gone : serving_word sc.after.plain ≡ serving_word s + 1 = serving-gone s.next s.tickets numbered.0 some in
            let now = ahead_own t (serving_word s) s.tickets (Some (Calling Release (Serve j) (Some (hold.Ticket u)))) some in
            let soon = λ (o : ℕ) (his : Option TicketSeat). ahead_most t (serving_word sc.after.plain) sc.after.plain.tickets o his in
            record {
              mine = omega (arith, few, now, gone, behind ne, soon d (seat_of sc.after d), left_few (seat_of sc.after d));
              others = λ o other. omega (arith, few, now, gone, behind ne, soon o (seat_of seen o), left_few (seat_of seen o));
              first_same = inr (omega (arith, few, now, behind ne));
            }
        first_turns ne c i h so at after few = absurd (grind (arith, so))

        turns : (q : ℕ) (c : TicketCall) (i : TicketPoint) (h : Option Hold) → (q ≡ p → ⊥) → Turns q c i h
        turns q c i h ne =
            ⊎_elim
            (λ (is : d ≡ q). subst (λ z. Turns z c i h) is (λ at. first_turns (λ e. ne (sym is ∙ e)) c i h (subst (SitsSo has_ticket d) at (his_sits some)) at))
            (λ not_first at after few. grind (arith, leaves_first s q (scene_at m seen q Step (Some (Calling c i h))).change some numbered (λ e. not_first (sym e)) after.opens after.belongs, not_first, ahead_other, ahead_same))
            (cases_eq d q)

      -- The party p waits with its ticket t

      module _ (t : ℕ) (at : l ≡ Await t) where
        mine : own p s.tickets ≡ queued p t false ∷ []
        mine = ap (λ (e : Entries). e.tickets) (in_call f p w.3 (w.0 ∙ ap (λ i. Some (Calling Lock i None)) at)).knows.0.stand

        some : is_empty s.tickets ≡ false
        some = stands p t false s.tickets mine

        -- if the first ticket is another party's, the served number is below t
        behind : (d ≡ p → ⊥) → serving_word s < t
        behind ne = later p t (serving_word s) s.tickets numbered.1 mine ne

        -- p is behind at most as many tickets as there are other parties
        near : t - serving_word s + 1 ≤ n
        near = let here = in_queue p t (serving_word s) s.tickets numbered.1 mine in omega (arith, here.0, here.1, w.2, most_tickets seen w.3, numbered.0)

    -- Before p has a ticket

    -- while p has no ticket, there are fewer tickets than parties
    queue_few : (seen : World) (l : TicketPoint) → walk.Waits f x seen l → at_door l → seen.plain.next - serving_word seen.plain + 1 ≤ n
    queue_few seen l w door =
        let ts = seen.plain.tickets in
        omega (arith, numbered seen l w, all_in n ts (λ q past. nobody seen w.3 q (omega (arith, past, w.2))), fewer p n ts (each_one seen w.3) (grind (arith, in_call, door)) (among seen l w))

    module _ (seen : World) (l : TicketPoint) (w : walk.Waits f x seen l) (r : ℕ) (within : walk.Within f x seen l (suc r)) where
      abbrev sc : Scene TicketWords V TicketCall TicketPoint (Answer V)
      sc = its seen l

      left_is : N < ticket_limit → seen.plain.next ≤ N → nat_lt seen.state.words.next ticket_limit ≡ true
      left_is room low = lt-ltb seen.state.words.next ticket_limit (omega (arith, next_of seen w.3, low, room))

      -- the call's step finds the next number, and the call then tries to take it
      goes_for_next : N < ticket_limit → mine_by p n N seen.plain l ≡ doorway n (N - seen.plain.next) false → ((o : ℕ) (his : Option TicketSeat) → theirs_by N seen.plain (Take seen.state.words.next) o his ≡ theirs_by N seen.plain l o his)
          → seat_of sc.after p ≡ Some (Calling Lock (Take seen.state.words.next) None) → sc.after.plain ≡ seen.plain → walk.Own f x seen l r sc
      goes_for_next room stale same at plain = grind (arith, eq-eqb)

    -- the party takes its ticket, whose number was the next one
    own_taken : (seen : World) (j r : ℕ) → (w : walk.Waits f x seen (Take j)) → walk.Within f x seen (Take j) (suc r) → walk.After f x seen p (its seen (Take j)) → seen.state.words.next ≡ j → nat_lt seen.state.words.next ticket_limit ≡ true → walk.Own f x seen (Take j) r (its seen (Take j))
    own_taken seen j r w within made e left =
        inr (Await j, at, tt, omega (arith, bit_few (first_party sc.after.plain.tickets == p), fresh, doorway_two n (N - seen.plain.next) (omega (arith, one_left))), λ o other not_its. others_now o other)
      where
        s : Plain
        s = seen.plain

        sc : Scene TicketWords V TicketCall TicketPoint (Answer V)
        sc = its seen (Take j)

        at : seat_of sc.after p ≡ Some (Calling Lock (Await j) None)
        at = rw (eq-eqb seen.state.words.next j e, left) (get-set_same seen.state.seats p _ _ w.0)

        taken : (sc.after.plain.next ≡ s.next + 1) × (sc.after.plain.tickets ≡ s.tickets ++ queued p s.next false ∷ [])
        taken = rw (eq-eqb seen.state.words.next j e, left) (refl, refl)

        fresh : doorway n (N - s.next) true ≤ suc r
        fresh = omega (arith, within.mine, ap (doorway n (N - s.next)) (eq-eqb j s.next (sym e ∙ next_of seen w.3)))

        one_left : s.next + 1 ≤ N
        one_left = omega (arith, made.fine, taken.0)

        few_ahead : j - serving_word sc.after.plain + 1 ≤ n
        few_ahead = near sc.after (Await j) (at, tt, made.known, made.good) j refl

        serves_same : serving_word sc.after.plain ≡ serving_word s
        serves_same = rw (taken.0, taken.1) (serving-taken s p false (numbered seen (Take j) w))

        others_now : (o : ℕ) → (o ≡ p → ⊥) → ahead j (serving_word sc.after.plain) sc.after.plain.tickets o (seat_of seen o) ≤ max (theirs_by N s (Take j) o (seat_of seen o)) r
        others_now o other =
            grind (arith, cases_lt (N - s.next) 2, serves_same, taken.1, e, next_of seen w.3, one_left, ahead_most, left_few, few_ahead, doorway_long n (N - s.next) r true, fresh, ahead_other, ahead_same, other)

    own_take : (seen : World) (j r : ℕ) → (w : walk.Waits f x seen (Take j)) → walk.Within f x seen (Take j) (suc r) → walk.After f x seen p (its seen (Take j)) → walk.Own f x seen (Take j) r (its seen (Take j))
    own_take seen j r w within made =
        ⊎_elim (λ (e : seen.state.words.next ≡ j). own_taken seen j r w within made e left)
        (λ (ne : seen.state.words.next ≡ j → ⊥).
        let other = ne_eqb seen.state.words.next j ne in
        goes_for_next seen (Take j) w r within w.1 (ap (doorway n (N - seen.plain.next)) (ne_eqb j seen.plain.next (λ e. absurd (ne (next_of seen w.3 ∙ sym e))))) (λ o his. refl)
        (rw (other, left) (get-set_same seen.state.seats p _ _ w.0)) (rw other refl))
        (cases_eq seen.state.words.next j)
      where
        left : nat_lt seen.state.words.next ticket_limit ≡ true
        left = left_is seen (Take j) w r within w.1 (omega (arith, next_grows seen.plain (its seen (Take j)).change, made.fine))

    own_by : (seen : World) (l : TicketPoint) (r : ℕ) → (w : walk.Waits f x seen l) → walk.Within f x seen l (suc r) → walk.After f x seen p (its seen l) → walk.Own f x seen l r (its seen l)
    own_by seen (Await t) r w within made = grind (arith, turn_of, first_turn, eqb_self, ne_eqb, serving_is, behind, get-set_same, cases_eq, own, mine)
    own_by seen LoadNext r w within made = goes_for_next seen LoadNext w r within w.1 refl (λ o his. refl) (rw (left_is seen LoadNext w r within w.1 made.fine) (get-set_same seen.state.seats p _ _ w.0)) refl
    own_by seen (Take j) r w within made = own_take seen j r w within made
    own_by seen l r w within made = absurd (grind (arith, w.1))

    -- A step of another party, by whether this step takes a ticket

    module _ (seen : World) (l : TicketPoint) (w : walk.Waits f x seen l) (r : ℕ) (within : walk.Within f x seen l (suc r)) (q : ℕ) (c : TicketCall) (i : TicketPoint) (h : Option Hold) (ne : q ≡ p → ⊥) (at : seat_of seen q ≡ Some (Calling c i h)) where
      abbrev y : Scene TicketWords V TicketCall TicketPoint (Answer V)
      y = scene_at m seen q Step (Some (Calling c i h))

      steps_with : (t : ℕ) → l ≡ Await t → walk.After f x seen q y → walk.Falls f x seen (Await t) q y r
      steps_with t is made =
          let turned = turns seen l w t r (some seen l w t is) (behind seen l w t is) q c i h ne at made (subst (λ o. ahead t (serving_word seen.plain) seen.plain.tickets q o ≤ suc r) at (subst (λ i. theirs_by N seen.plain i q (seat_of seen q) ≤ suc r) is (within.theirs q ne))) in
          record { his = turned.mine; mine = grind (arith, turned.first_same); others = λ o other not_his. turned.others o not_his }

      module _ (door : at_door l) (made : walk.After f x seen q y) (fits : doorway n (N - seen.plain.next) (is_fresh l seen.plain.next) ≤ suc r) where
        abbrev next : ℕ
        next = y.after.plain.next

        abbrev soon : ℕ → Option TicketSeat → ℕ
        soon o his = ahead next (serving_word y.after.plain) y.after.plain.tickets o his

        -- some tickets were taken
        others_more : seen.plain.next < next → (o : ℕ) (his : Option TicketSeat) → (if N - next == 1 then soon o his else 0) ≤ r
        others_more more o his = by (N - next == 1) refl
          where
            by : (b : Bool) → (N - next == 1) ≡ b → (if b then soon o his else 0) ≤ r
            by true last =
                let one = eqb-true (N - next) 1 last in
                omega (arith, queue_few y.after l (made.others p ne ∙ w.0, w.1, made.known, made.good) door, ahead_most next (serving_word y.after.plain) y.after.plain.tickets o his, left_few his, doorway_long n (N - seen.plain.next) r (is_fresh l seen.plain.next) (omega (arith, more, one)) fits)
            by false not_last = omega arith

        -- no ticket was taken
        door_turned : N - seen.plain.next ≡ 1 → next ≡ seen.plain.next → theirs_by N seen.plain l q (seat_of seen q) ≡ ahead seen.plain.next (serving_word seen.plain) seen.plain.tickets q (seat_of seen q) → Turned seen l w seen.plain.next r q y
        door_turned last same is = by (is_empty seen.plain.tickets) refl
          where
            by : (b : Bool) → is_empty seen.plain.tickets ≡ b → Turned seen l w seen.plain.next r q y
            by true none = grind (arith, stays_empty seen.plain q y.change none made.opens, same, empty_is seen.plain.tickets none)
            by false some = turns seen l w seen.plain.next r some (λ ne. grind (arith, some, (numbered seen l w).0)) q c i h ne at made (subst (λ o. ahead seen.plain.next (serving_word seen.plain) seen.plain.tickets q o ≤ suc r) at (omega (arith, is, within.theirs q ne)))

        abbrev Door : Type 0
        Door = ((if N - next == 1 then soon q (seat_of y.after q) else 0) ≤ r) × (doorway n (N - next) (is_fresh l next) ≤ max (doorway n (N - seen.plain.next) (is_fresh l seen.plain.next)) r)
            × ((o : ℕ) → (q ≡ o → ⊥) → (if N - next == 1 then soon o (seat_of seen o) else 0) ≤ max (if N - seen.plain.next == 1 then ahead seen.plain.next (serving_word seen.plain) seen.plain.tickets o (seat_of seen o) else 0) r)

        door_falls : ((N - seen.plain.next == 1) ≡ true → theirs_by N seen.plain l q (seat_of seen q) ≡ ahead seen.plain.next (serving_word seen.plain) seen.plain.tickets q (seat_of seen q)) → Door
        door_falls is =
            ⊎_elim
            (λ (more : seen.plain.next < next).
            (others_more more q (seat_of y.after q), omega (arith, doorway_less n (N - seen.plain.next) (N - next) (is_fresh l seen.plain.next) (is_fresh l next) (omega (arith, more, made.fine))), λ o other. omega (arith, others_more more o (seat_of seen o))))
            (λ (no_more : next ≤ seen.plain.next). same (omega (arith, no_more, next_grows seen.plain y.change)) (N - seen.plain.next == 1) refl)
            (cases_lt seen.plain.next next)
          where
            same : next ≡ seen.plain.next → (b : Bool) → (N - seen.plain.next == 1) ≡ b → Door
            same e true last = grind (arith, door_turned (eqb-true (N - seen.plain.next) 1 last) e (is last), e, last)
            same e false last = rw (ap (λ z. N - z == 1) e ∙ last, last) (omega arith, omega (arith, ap (λ z. doorway n (N - z) (is_fresh l z)) e), λ o other. omega arith)

    steps_by : (seen : World) (l : TicketPoint) (r : ℕ) → (w : walk.Waits f x seen l) → walk.Within f x seen l (suc r) → (q : ℕ) (c : TicketCall) (i : TicketPoint) (h : Option Hold) → (q ≡ p → ⊥) → seat_of seen q ≡ Some (Calling c i h)
        → walk.After f x seen q (scene_at m seen q Step (Some (Calling c i h))) → walk.Falls f x seen l q (scene_at m seen q Step (Some (Calling c i h))) r
    steps_by seen (Await t) r w within q c i h ne at made = steps_with seen (Await t) w r within q c i h ne at t refl made
    steps_by seen LoadNext r w within q c i h ne at made = grind (arith, door_falls seen LoadNext w r within q c i h ne at tt made within.mine (λ last. rw last refl))
    steps_by seen (Take j) r w within q c i h ne at made = grind (arith, door_falls seen (Take j) w r within q c i h ne at tt made within.mine (λ last. rw last refl))
    steps_by seen l r w within q c i h ne at made = absurd (grind (arith, w.1))

    -- Other moves

    first_begins : (seen : World) (l : TicketPoint) → walk.Waits f x seen l → (t q : ℕ) (c : TicketCall) (i : TicketPoint) (h : Option Hold) → seat_of seen q ≡ Some (resting h) → m.begin c h ≡ Some i
        → ahead t (serving_word seen.plain) seen.plain.tickets q (Some (Calling c i h)) ≤ ahead t (serving_word seen.plain) seen.plain.tickets q (seat_of seen q) - 1
    first_begins seen l w t q c i h at may = grind (arith, some, his_sits, empty_is, ahead_own, ahead_other, cases_eq)

    busy_by : (seen : World) (l : TicketPoint) → walk.Waits f x seen l → (t q : ℕ) → 1 ≤ ahead t (serving_word seen.plain) seen.plain.tickets q (seat_of seen q) → is_busy (seat_of seen q) ≡ true
    busy_by seen l w t q long = grind (arith, empty_is, some, his_sits, ahead_other, cases_eq)

    some_load : (seen : World) (l : TicketPoint) → walk.Waits f x seen l → walk.Within f x seen l 0 → ⊥
    some_load seen (Await t) w none =
        grind (arith, none.mine, none.theirs (first_party seen.plain.tickets), behind seen (Await t) w t refl, ahead_own, some seen (Await t) w t refl, cases_eq (first_party seen.plain.tickets) p, eq-eqb)
    some_load seen l w none = grind (arith, none.mine, doorway_fits, w.1)

    -- the loads at the start are at most the bound
    loads_few : (seen : World) (l : TicketPoint) → walk.Waits f x seen l → walk.Within f x seen l (max 2 (3 * n - 2) + (N - seen.plain.next))
    loads_few seen l w = grind (arith, bit_few, near, ahead_most, left_few, doorway_fits, next, queue_few)

    walks : walk.Walks f x
    walks =
        record {
          fine = λ seen q move good fine. omega (arith, next_grows seen.plain (scene m seen q move).change, fine);
          keeps = λ seen q move l w. inr (length-happens m seen.state q move ∙ w.2);
          own = own_by;
          steps = λ seen l r w within q c i h ne at made. inr (steps_by seen l r w within q c i h ne at made);
          weak = λ seen l next at may. absurd (strong Lock l None next may);
          refuses = λ seen l w q c i h next ne at may. absurd (strong c i h next may);
          begins = λ seen l w q c i h ne at may. (grind (arith, first_begins, next, w, at, may), λ is. grind (arith, first_begins, next, w, at, may));
          leaks = λ s l q h. grind arith;
          busy = λ seen l q w ne long. grind (arith, busy_by, next, long, w);
          some = some_load;
        }

  -- a waiting call is at a point of a `lock`
  lock_at : (N p : ℕ) (c : TicketCall) (l : TicketPoint) (h : Option Hold) (s : Plain) (span : List Mark) → (asks_of c h).waits ≡ true → Knows (ticket_notes v first) c l h p s span → N < ticket_limit → (Some (Calling c l h) ≡ Some (Calling Lock l None)) × at_lock N l
  lock_at N p c l h s span asks knows room = grind (arith, asks, knows, room)

  parties : (past : List (ℕ × Move TicketCall V)) (s : State TicketWords V TicketCall TicketPoint) → length (after m s past).seats ≡ length s.seats
  parties [] s = refl
  parties (e ∷ es) s = parties es (happens m s e.0 e.1).next ∙ length-happens m s e.0 e.1

  module _ (n : ℕ) (past : List (ℕ × Move TicketCall V)) where
    abbrev seen : World
    seen = seen_after m (opening m n) past

    abbrev now : State TicketWords V TicketCall TicketPoint
    now = after m (at_first m n) past

    -- the words have the numbers of the plain lock, at the start and at the end of the rounds
    numbers : (now.words.next ≡ seen.plain.next) × (now.words.serving ≡ serving_word seen.plain)
    numbers = grind (arith, numbers_are f n past)

    abbrev last : List (List (ℕ × Move TicketCall V)) → ℕ
    last rounds = (seen_after m seen (joined rounds)).plain.next

    last_is : (rounds : List (List (ℕ × Move TicketCall V))) → (after m now (joined rounds)).words.next ≡ last rounds
    last_is rounds = grind (arith, joined rounds, state-seen_after m seen (joined rounds), after, state_is f n past, next_of (seen_after m seen (joined rounds)) (good_after f seen (joined rounds) (good f n past)))

    many : length seen.state.seats ≡ n
    many = ap (λ (x : State TicketWords V TicketCall TicketPoint). length x.seats) (state_is f n past) ∙ (parties past (at_first m n) ∙ length-replicate n _)

    granted_in : (p : ℕ) (l : TicketPoint) (rounds : List (List (ℕ × Move TicketCall V))) → let N = last rounds in slice_get now.seats p ≡ Some (Calling Lock l None) → at_lock N l → AreRounds m now rounds → (walk.Waits f (x p n N) seen l → walk.Within f (x p n N) seen l (length rounds))
        → occurs m (grants_party m p) now (joined rounds) ≡ true
    granted_in p l rounds there at are enough = walk.ends f (x p n (last rounds)) (walks p n (last rounds)) n past rounds l there at many (omega arith) are enough

    pub enters_in_rounds : (rounds : List (List (ℕ × Move TicketCall V))) → EntersInRounds m n past rounds
    enters_in_rounds rounds t p c l h there with_it are long =
        let at : Some (Calling c l h) ≡ Some (Calling Lock (Await t) None) = grind (arith, eqb-true, and_parts, calls_so f n past (λ e. waits_by t e.tickets) p there (ap (λ (e : Entries). waits_by t e.tickets) with_it ∙ rw (eqb_self t) refl)) in
        let long_here : 3 * (t - serving_word seen.plain) + 1 ≤ length rounds = omega (arith, long, ap (λ z. t - z) numbers.1) in
        granted_in p (Await t) rounds (there ∙ at) tt are
        (λ w. record { mine = omega (arith, bit_few (first_party seen.plain.tickets == p), long_here); theirs = λ q ne. omega (arith, long_here, ahead_most t (serving_word seen.plain) seen.plain.tickets q (seat_of seen q), left_few (seat_of seen q)) })

    pub locks_in_rounds : (rounds : List (List (ℕ × Move TicketCall V))) → LocksInRounds m n past rounds
    locks_in_rounds rounds p c l h there asks are room long =
        let at = lock_at (last rounds) p c l h seen.plain (seen.span p) asks (calls f n past p there).knows (omega (arith, room, last_is rounds)) in
        granted_in p l rounds (there ∙ at.0) at.1 are
        (λ w. let low = loads_few p n (last rounds) seen l w in record { mine = omega (arith, low.mine, long, numbers.0, last_is rounds); theirs = λ q ne. omega (arith, low.theirs q ne, long, numbers.0, last_is rounds) })
