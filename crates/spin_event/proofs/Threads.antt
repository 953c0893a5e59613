-- The steps of threads on the cell of an event are steps of its table.
use Rattle.std.proofs.Common.{◌≡◌, ℕ, zero, suc, ◌+◌, ◌-◌, ◌%◌, ◌^◌, ◌<◌, ◌≤◌, ◌⊎◌, inl, inr, not, ◌==◌, Bool, true, false, Option, Some, None, List, [], ◌∷◌, ◌++◌, length, map, set, unwrap_or, slice_get, slice_set, refl, sym, ap, subst, ◌∙◌, arith}
use mathlib.Core.Option.{some}
use lib.ListN.{get_elem?}
use Rattle.atomic_table.proofs.Lists.{at_map}
use Rattle.std.proofs.lemmas.List.{length-append, map-append, map-set}
use Rattle.std.proofs.lemmas.List.Sums.{sum_by-cons}
use Rattle.spin_step.specs.Steps.{bit}
use Rattle.spin_step.specs.declared.place.Seat.TheVariants.{Idle, Calling}
use Rattle.spin_step.specs.declared.schedule.Move.{Move}
use Rattle.spin_step.specs.declared.schedule.Move.TheVariants.{Begin, Step, Weak, Read, Write, Leak, OwnerGet, OwnerSet}
use Rattle.spin_step.specs.declared.answer.Answer.TheVariants.{Done, Count as Counted}
use Rattle.spin_step.specs.declared.schedule.Outcome.TheVariants.{Begun, GoingOn, Answered}
use Rattle.spin_step.specs.Schedules.{moves_at, moves, happens, at_first, after}
use Rattle.spin_core.specs.Cell.{word_limit, off, Rests, Opens, Moved, readers_of, writers_of, HasView, OnWord, by_first, by_second, after as after_views}
use Rattle.spin_core.specs.Own.{IsRun, by_party, kind, what}
use Rattle.spin_core.specs.Run.{Goes}
use Rattle.spin_core.specs.Traced.{TracesTo, Watches}
use Rattle.spin_core.specs.declared.trace.Watch.{Watch}
use Rattle.spin_core.specs.declared.tie.Opening.{Opening}
use Rattle.spin_core.specs.declared.trace.Trace.{Trace}
use Rattle.spin_core.proofs.tie.Owns as owns
use Rattle.spin_event.specs.declared.calls.EventWords.{EventWords}
use Rattle.spin_event.specs.declared.calls.EventCall.{EventCall}
use Rattle.spin_event.specs.declared.calls.EventCall.TheVariants.{Listen, Wait, NotifyAll, NotifyOne}
use Rattle.spin_event.specs.declared.calls.EventPoint.TheVariants.{Load, Count, Park, Asleep, Uncount, Ring, Look, Wake}
use Rattle.spin_event.specs.EventCalls.{event_machine, is_heard, EventSchedule, starts_at, woken_by}
use Rattle.spin_event.specs.Sleeping.{EventState, EventSeat, how_many, is_counted}
use Rattle.spin_event.specs.Threads.{EventEntry, EventParty, EventSays, After, IsSlept, Listens, Counts, Rings, Parks, Uncounts, Looks, Made, Seats, Moves, Runs, Fits, in_words, event_ways, has_parked, has_slept, ends_by, look_moves}

-- No word grows by more than there are moves.

abbrev total : EventState → ℕ
total s = s.words.rings + s.words.sleepers

grows_seat : (s : EventState) (p : ℕ) (move : Move EventCall (Unit {0})) (seat : EventSeat) → total (moves event_machine s p move seat).next ≤ total s + 1
grows_seat s p (Begin c) seat = grind arith
grows_seat s p Step (Calling c Load h) = grind arith
grows_seat s p Step (Calling c (Count g) h) = grind arith
grows_seat s p Step (Calling c (Park g) h) = grind arith
grows_seat s p Step (Calling c (Asleep g t) h) = grind arith
grows_seat s p Step (Calling c Uncount h) = grind arith
grows_seat s p Step (Calling c Ring h) = grind arith
grows_seat s p Step (Calling c Look h) = grind arith
grows_seat s p Step (Calling c Wake h) = grind arith
grows_seat s p Step seat = grind arith
grows_seat s p Weak seat = grind arith
grows_seat s p Read seat = grind arith
grows_seat s p (Write v) seat = grind arith
grows_seat s p Leak seat = grind arith
grows_seat s p OwnerGet seat = grind arith
grows_seat s p (OwnerSet v) seat = grind arith

grows_move : (s : EventState) (p : ℕ) (move : Move EventCall (Unit {0})) (o : Option EventSeat) → total (moves_at event_machine s p move o).next ≤ total s + 1
grows_move s p move None = grind arith
grows_move s p move (Some seat) = grows_seat s p move seat

grows_after : (s : EventState) (past : EventSchedule) → total (after event_machine s past) ≤ total s + length past
grows_after s [] = grind arith
grows_after s (e ∷ es) =
    omega (arith, grows_after (happens event_machine s e.0 e.1).next es, grows_move s e.0 e.1 (slice_get s.seats e.0))

within : (past : EventSchedule) (n m : ℕ) (vs : List EventParty) → IsRun event_machine (λ x. x) in_words past (n, m) vs → n + m ≤ length past
within past n m vs (came, w, value, is, s_is, leads, played, rested, calls) =
    let s = at_first event_machine (length (map (λ (o : Option (EventSeat × ℕ)). kind o) came) + 0) in
    omega (arith, grows_after s past, ap (λ x. x.0) s_is, ap (λ x. x.1) s_is, ap (λ (x : EventState). x.words.rings) (leads 0), ap (λ (x : EventState). x.words.sleepers) (leads 0))

-- Lists of parties.

bare : List EventParty → List EventSeat
bare vs = map (λ v. v.0) vs

stands : (id : ℕ) (view : Option EventParty) (vs : List EventParty) → HasView id view vs → HasView id (what view) (map (λ v. v.0) vs)
stands id view vs at = grind (arith, at_map (λ (v : EventParty). v.0) vs id)

same_after : (id : ℕ) (view : Option EventParty) (vs : List EventParty) (w : EventParty)
    → map (λ v. v.0) (after_views id view vs w) ≡ after_views id (what view) (map (λ v. v.0) vs) w.0
same_after id view vs w = grind (arith, map-append (λ (v : EventParty). v.0), map-set (λ (v : EventParty). v.0))

nobody_reads : (vs : List EventParty) → readers_of (λ v. off) vs ≡ 0
nobody_reads [] = refl
nobody_reads (v ∷ vs) = grind (arith, nobody_reads vs, sum_by-cons (λ (v : EventParty). 0) v vs)

nobody_writes : (vs : List EventParty) → writers_of (λ v. off) vs ≡ 0
nobody_writes [] = refl
nobody_writes (v ∷ vs) = grind (arith, nobody_writes vs, sum_by-cons (λ (v : EventParty). 0) v vs)

pub joins : (xs : List EventSeat) (x : EventSeat) → how_many is_counted (xs ++ x ∷ []) ≡ how_many is_counted xs + bit (is_counted x)
joins [] x = grind arith
joins (y ∷ xs) x = grind (arith, joins xs x)

pub changes : (xs : List EventSeat) (id : ℕ) (x y : EventSeat) → get_elem? xs id ≡ some y
    → how_many is_counted (set xs id x) + bit (is_counted y) ≡ how_many is_counted xs + bit (is_counted x)
changes [] id x y e = absurd (cc (e))
changes (z ∷ xs) zero x y e = grind arith
changes (z ∷ xs) (suc id) x y e = grind (arith, changes xs id x y e)

-- The moves that a party in the seat x makes by a step on the words, whatever they are.
abbrev pub May : Option EventSeat → OnWord ℕ → (ℕ → EventSeat → Type 0) → EventSays EventSeat → Type 0
May x g to says = (id : ℕ) (us : List EventSeat) (w : EventWords) (value : Option (Unit {0})) → w.sleepers ≡ how_many is_counted us → HasView id x us
    → w.rings + 3 < word_limit → w.sleepers + 3 < word_limit
    → (u : EventSeat) × (to (g.1 (in_words w)) u × ((g.0 (in_words w)).1 ≡ how_many is_counted (after_views id x us u)))
    × Goes event_machine (λ y. y) in_words x u w value (g.0 (in_words w)) (λ own outs. says own outs (g.1 (in_words w)) u)

-- A step whose moves are those of the table keeps the rule of the cell.
pub traces : (key : Opening (Unit {0})) (view : Option EventParty) (g : OnWord ℕ) (to : ℕ → EventSeat → Type 0) (says : EventSays EventSeat)
    → ((n : ℕ) → (u : EventSeat) × to n u) → May (what view) g to says → TracesTo (Runs key) (event_ways key) view None g (Made to says view)
traces key view g to says pick may id n t vs meets at small =
    let either : (length t.entries + 3 < word_limit) ⊎ (word_limit ≤ length t.entries + 3) = grind arith in
    let few : (ws : List EventParty) → readers_of (λ (v : EventParty). off) ws + readers_of (λ (v : EventParty). off) ws + writers_of (λ (v : EventParty). off) ws ≤ 1 = λ ws. omega (arith, nobody_reads ws, nobody_writes ws) in
    elim either [
      | inl fits ↦
          let (counted, run) = meets.0.1 (omega (arith, fits)) in let bound = within t.entries n t.word vs run in let us = map (λ (v : EventParty). v.0) vs in
          let To : ℕ × ℕ → EventSeat → Type 0 = λ s u. to (g.1 s) u × ((g.0 s).1 ≡ how_many is_counted (after_views id (what view) us u)) in
          let (u, (is, counts), p, own, outs, (run', none, mine, said)) = owns.step_to event_machine (λ y. y) in_words view g (To (n, t.word)) says id (n, t.word) t.entries vs run at
          (λ w value s_is. let (u, (is, counts), goes) = may id us w value (sym (ap (λ y. y.1) s_is) ∙ counted) (stands id view vs at) (omega (arith, fits, bound, ap (λ y. y.0) s_is)) (omega (arith, fits, bound, ap (λ y. y.1) s_is)) in
          (u, subst (λ s. To s u) (sym s_is) (is, counts), goes)) in
          let es = by_party p own in let w : EventParty = (u, p, length (t.entries ++ es)) in (
            w,
            es,
            ((meets.0.0, λ fine. (counts ∙ sym (ap (how_many is_counted) (same_after id view vs w)), run')), few (after_views id view vs w)),
            (is, λ fine. (own, outs, refl, refl, none, mine, said)),
          )
      | inr past ↦
          let (u, is) = pick (g.1 (n, t.word)) in let w : EventParty = (u, 0, 0) in let es : EventSchedule = (0, Weak) ∷ (0, Weak) ∷ (0, Weak) ∷ [] in
          let over : Fits (t.entries ++ es) → ⊥ = λ fine. absurd (omega (arith, past, fine, length-append t.entries es)) in
          (w, es, ((meets.0.0, λ fine. absurd (over fine)), few (after_views id view vs w)), (is, λ fine. absurd (over fine)))
    ]

-- The steps.

-- a seat that a new party takes
new_seat : (us : List EventSeat) (m : ℕ) (x : EventSeat) → m ≡ how_many is_counted us → m + bit (is_counted x) ≡ how_many is_counted (us ++ x ∷ [])
new_seat us m x is = omega (arith, is, joins us x)

pub may_listen : May None (by_first (λ n. n)) (Seats Idle) (λ own outs n u. (own ≡ Begin Listen ∷ Step ∷ []) × (outs ≡ Begun ∷ Answered (Counted n) None ∷ []))
may_listen id us w value counted at few few' = (
  Idle,
  (refl, omega (arith, new_seat us w.sleepers Idle counted)),
  (Begin Listen ∷ Step ∷ [], Begun ∷ Answered (Counted w.rings) None ∷ [], (refl, refl), refl, refl, w, value, refl, refl, refl),
)

pub may_count : (g : ℕ) → May None (by_second (λ n. (n + 1) % 2 ^ 64)) (Seats (Calling (Wait g) (Park g) None)) (Moves (λ n. Begin (Wait g) ∷ Step ∷ []))
may_count g id us w value counted at few few' =
    let more : (w.sleepers + 1) % 2 ^ 64 ≡ w.sleepers + 1 = omega (arith, few') in (
      Calling (Wait g) (Park g) None,
      (refl, omega (arith, more, new_seat us w.sleepers (Calling (Wait g) (Park g) None) counted)),
      (Begin (Wait g) ∷ Step ∷ [], Begun ∷ GoingOn ∷ [], refl, refl, refl, record w { sleepers = w.sleepers + 1 }, value, refl, refl, ap (λ k. (w.rings, k)) (sym more)),
    )

pub may_ring : (c : EventCall) → starts_at c ≡ Ring → May None (by_first (λ n. (n + 1) % 2 ^ 64)) (Seats (Calling c Look None)) (Moves (λ n. Begin c ∷ Step ∷ []))
may_ring NotifyAll is id us w value counted at few few' =
    let more : (w.rings + 1) % 2 ^ 64 ≡ w.rings + 1 = omega (arith, few) in (
      Calling NotifyAll Look None,
      (refl, omega (arith, new_seat us w.sleepers (Calling NotifyAll Look None) counted)),
      (Begin NotifyAll ∷ Step ∷ [], Begun ∷ GoingOn ∷ [], refl, refl, refl, record w { rings = w.rings + 1 }, value, refl, refl, ap (λ k. (k, w.sleepers)) (sym more)),
    )
may_ring NotifyOne is id us w value counted at few few' =
    let more : (w.rings + 1) % 2 ^ 64 ≡ w.rings + 1 = omega (arith, few) in (
      Calling NotifyOne Look None,
      (refl, omega (arith, new_seat us w.sleepers (Calling NotifyOne Look None) counted)),
      (Begin NotifyOne ∷ Step ∷ [], Begun ∷ GoingOn ∷ [], refl, refl, refl, record w { rings = w.rings + 1 }, value, refl, refl, ap (λ k. (k, w.sleepers)) (sym more)),
    )
may_ring Listen is id us w value counted at few few' = absurd (cc (is))
may_ring (Wait g) is id us w value counted at few few' = absurd (cc (is))

-- a seat that a party changes
own_seat : (us : List EventSeat) (id : ℕ) (x y : EventSeat) → get_elem? us id ≡ some y
    → how_many is_counted (slice_set us id x) + bit (is_counted y) ≡ how_many is_counted us + bit (is_counted x)
own_seat us id x y at = changes us id x y at

module _ (g id : ℕ) (us : List EventSeat) (w : EventWords) (value : Option (Unit {0})) (counted : w.sleepers ≡ how_many is_counted us)
    (at : get_elem? us id ≡ some (Calling (Wait g) (Park g) None)) where
  abbrev Parked : EventSeat → Type 0
  Parked u = (has_parked g u × (w.sleepers ≡ how_many is_counted (slice_set us id u)))
      × Goes event_machine (λ y. y) in_words (Some (Calling (Wait g) (Park g) None)) u w value (in_words w) (λ own outs. own ≡ Step ∷ [])

  parks : (b : Bool) → is_heard g w.rings ≡ b → (u : EventSeat) × Parked u
  parks true e = let sleeps : EventSeat = Calling (Wait g) (Asleep g w.parked) None in (
    sleeps,
    (
      (inr (w.parked, refl), omega (arith, counted, own_seat us id sleeps (Calling (Wait g) (Park g) None) at)),
      (Step ∷ [], GoingOn ∷ [], refl, refl, grind (arith, e), record w { parked = w.parked + 1 }, value, grind (arith, e), grind (arith, e), refl),
    ),
  )
  parks false e = let wakes : EventSeat = Calling (Wait g) Uncount None in (
    wakes,
    (
      (inl refl, omega (arith, counted, own_seat us id wakes (Calling (Wait g) (Park g) None) at)),
      (Step ∷ [], GoingOn ∷ [], refl, refl, grind (arith, e), w, value, grind (arith, e), grind (arith, e), refl),
    ),
  )

pub may_park : (g : ℕ) → May (Some (Calling (Wait g) (Park g) None)) (by_first (λ n. n)) (λ n u. has_parked g u) (Moves (λ n. Step ∷ []))
may_park g id us w value counted at few few' =
    let (u, ((parked, counts), goes)) = parks g id us w value counted at (is_heard g w.rings) refl in (u, (parked, counts), goes)

fewer : (us : List EventSeat) (id m : ℕ) (y : EventSeat) → is_counted y ≡ true → m ≡ how_many is_counted us → get_elem? us id ≡ some y
    → how_many is_counted (slice_set us id Idle) + 1 ≡ m
fewer us id m y is counted at = grind (arith, is, counted, own_seat us id Idle y at)

less : (k m : ℕ) → k + 1 ≡ m → m + 3 < word_limit → (m + 18446744073709551615) % 2 ^ 64 ≡ k
less k m is few = omega (arith, is, few)

pub may_uncount : (x : EventSeat) → has_slept x → May (Some x) (by_second (λ n. (n + 18446744073709551615) % 2 ^ 64)) (Seats Idle) (Moves (λ n. ends_by (Some x)))
may_uncount (Calling d Uncount None) is id us w value counted at few few' =
    let left = how_many is_counted (slice_set us id Idle) in let one : left + 1 ≡ w.sleepers = fewer us id w.sleepers (Calling d Uncount None) refl counted at in
    let gone = less left w.sleepers one few' in let same : w.sleepers - 1 ≡ left = omega (arith, one) in
    (Idle, (refl, gone), (Step ∷ [], Answered Done None ∷ [], refl, refl, refl, record w { sleepers = w.sleepers - 1 }, value, refl, refl, ap (λ k. (w.rings, k)) (same ∙ sym gone)))
may_uncount (Calling d (Asleep g t) None) is id us w value counted at few few' =
    let left = how_many is_counted (slice_set us id Idle) in let one : left + 1 ≡ w.sleepers = fewer us id w.sleepers (Calling d (Asleep g t) None) refl counted at in
    let gone = less left w.sleepers one few' in let same : w.sleepers - 1 ≡ left = omega (arith, one) in
    (Idle, (refl, gone), (Weak ∷ Step ∷ [], GoingOn ∷ Answered Done None ∷ [], refl, refl, refl, record w { sleepers = w.sleepers - 1 }, value, refl, refl, ap (λ k. (w.rings, k)) (same ∙ sym gone)))
may_uncount x is id us w value counted at few few' = absurd is

wakes_only : (c : EventCall) (w : EventWords) → in_words (woken_by c w) ≡ in_words w
wakes_only NotifyOne w = refl
wakes_only NotifyAll w = refl
wakes_only Listen w = refl
wakes_only (Wait g) w = refl

looks : (c : EventCall) (w : EventWords) (value : Option (Unit {0})) (k : ℕ)
    → Goes event_machine (λ y. y) in_words (Some (Calling c Look None)) Idle (record w { sleepers = k }) value (w.rings, k) (λ own outs. own ≡ look_moves k)
looks c w value zero = (Step ∷ [], Answered Done None ∷ [], refl, refl, refl, record w { sleepers = 0 }, value, grind arith, grind arith, refl)
looks c w value (suc j) = let v : EventWords = record w { sleepers = suc j } in
    (Step ∷ Step ∷ [], GoingOn ∷ Answered Done None ∷ [], refl, refl, refl, woken_by c v, value, grind arith, grind arith, wakes_only c v)

pub may_look : (c : EventCall) → May (Some (Calling c Look None)) (by_second (λ n. n)) (Seats Idle) (Moves look_moves)
may_look c id us w value counted at few few' =
    let same : w.sleepers ≡ how_many is_counted (slice_set us id Idle) = omega (arith, counted, own_seat us id Idle (Calling c Look None) at) in
    (Idle, (refl, same), looks c w value w.sleepers)

-- What a step on the cell has to show.

abbrev pub Keeps : Opening (Unit {0}) → Option EventParty → OnWord ℕ → (EventSchedule → EventSchedule → ℕ → EventParty → Type 0) → Type 0
Keeps key view g told = TracesTo (Runs key) (event_ways key) view None g told

-- a party whose seat is known
at_seat : (P : Option EventParty → Type 0) (view : Option EventParty) (x : EventSeat) → what view ≡ Some x → ((i j : ℕ) → P (Some (x, i, j))) → P view
at_seat P None x e go = absurd (cc (e))
at_seat P (Some v) x e go = subst (λ y. P (Some (y, v.1, v.2))) (sym (ap (λ (o : Option EventSeat). unwrap_or o x) e)) (go v.1 v.2)

pub listens : (key : Opening (Unit {0})) → Keeps key None (by_first (λ n. n)) (Listens None)
listens key = traces key None (by_first (λ n. n)) (Seats Idle) (λ own outs n u. (own ≡ Begin Listen ∷ Step ∷ []) × (outs ≡ Begun ∷ Answered (Counted n) None ∷ [])) (λ n. (Idle, refl)) may_listen

pub counts : (key : Opening (Unit {0})) (g : ℕ) → Keeps key None (by_second (λ n. (n + 1) % 2 ^ 64)) (Counts g None)
counts key g = traces key None (by_second (λ n. (n + 1) % 2 ^ 64)) (Seats (Calling (Wait g) (Park g) None)) (Moves (λ n. Begin (Wait g) ∷ Step ∷ [])) (λ n. (Calling (Wait g) (Park g) None, refl)) (may_count g)

pub rings : (key : Opening (Unit {0})) (c : EventCall) → starts_at c ≡ Ring → Keeps key None (by_first (λ n. (n + 1) % 2 ^ 64)) (Rings c None)
rings key c is = traces key None (by_first (λ n. (n + 1) % 2 ^ 64)) (Seats (Calling c Look None)) (Moves (λ n. Begin c ∷ Step ∷ [])) (λ n. (Calling c Look None, refl)) (may_ring c is)

pub parks_with : (key : Opening (Unit {0})) (view : Option EventParty) (g : ℕ) → what view ≡ Some (Calling (Wait g) (Park g) None) → Keeps key view (by_first (λ n. n)) (λ log es n v. Parks g view log es g v)
parks_with key view g is = at_seat (λ o. Keeps key o (by_first (λ n. n)) (λ log es n v. Parks g o log es g v)) view (Calling (Wait g) (Park g) None) is
    (λ i j id n t vs meets at small. let r = traces key (Some (Calling (Wait g) (Park g) None, i, j)) (by_first (λ n. n)) (λ n u. has_parked g u) (Moves (λ n. Step ∷ []))
    (λ n. (Calling (Wait g) Uncount None, inl refl)) (may_park g) id n t vs meets at small in
    (r.0, r.1, r.2, ((refl, r.3.0), r.3.1)))

pub uncounts : (key : Opening (Unit {0})) (view : Option EventParty) → IsSlept view → Keeps key view (by_second (λ n. (n + 18446744073709551615) % 2 ^ 64)) (Uncounts view)
uncounts key None is = absurd is
uncounts key (Some v) is = traces key (Some v) (by_second (λ n. (n + 18446744073709551615) % 2 ^ 64)) (Seats Idle) (Moves (λ n. ends_by (Some v.0))) (λ n. (Idle, refl)) (may_uncount v.0 is)

pub looks_at : (key : Opening (Unit {0})) (view : Option EventParty) (c : EventCall) → what view ≡ Some (Calling c Look None) → Keeps key view (by_second (λ n. n)) (Looks view)
looks_at key view c is = at_seat (λ o. Keeps key o (by_second (λ n. n)) (Looks o)) view (Calling c Look None) is
    (λ i j. traces key (Some (Calling c Look None, i, j)) (by_second (λ n. n)) (Seats Idle) (Moves look_moves) (λ n. (Idle, refl)) (may_look c))

-- a party that is idle may leave

gone : (v : EventParty) (before behind : List EventParty) → v.0 ≡ Idle
    → how_many is_counted (map (λ u. u.0) (before ++ v ∷ behind)) ≡ how_many is_counted (map (λ u. u.0) (before ++ behind))
gone v [] behind idle = grind (arith, idle)
gone v (u ∷ before) behind idle = grind (arith, gone v before behind idle)

pub rests : (key : Opening (Unit {0})) (v : EventParty) → v.0 ≡ Idle → Rests (Runs key) (λ u. off) (Some v)
rests key v idle = (
  refl,
  λ n t before behind is. (
    is.0,
    λ fits. let (counted, run) = is.1 fits in
        (counted ∙ gone v before behind idle, owns.leave event_machine (λ y. y) in_words v idle (n, t.word) t.entries before behind run),
  ),
)

-- an event that nobody has used yet
pub opens : (key : Opening (Unit {0})) (t : Trace EventEntry ℕ) → t.name ≡ key.name → t.entries ≡ [] → t.word ≡ 0 → Opens (Runs key) (event_ways key) 0 t tt
opens key t named empty none = ([], refl, ((named, λ fits. (none, rw (empty, none) (owns.opens event_machine (λ y. y) in_words (0, 0) refl))), omega arith), tt)

-- What a caller learns of a step.

module _ (named : Type 0) (before now : Watch EventEntry) (told : EventSchedule → EventSchedule → ℕ → EventParty → Type 0) (n : ℕ) where
  pub tells : (view : Option EventParty) → Moved (Watches named before now told n) view → (v : EventParty) × (view ≡ Some v) × (log : EventSchedule) × (es : EventSchedule) × told log es n v
  tells None m = absurd m
  tells (Some v) m = let (f, (log, es, pre, is, so)) = m in (v, refl, log, es, so)

  pub after_step : (Q : EventSchedule → EventSchedule → EventParty → Type 0) (view : Option EventParty) → ((log es : EventSchedule) (v : EventParty) → told log es n v → Q log es v)
      → Moved (Watches named before now told n) view → After Q view
  after_step Q None f m = absurd m
  after_step Q (Some v) f m = let (g, (log, es, pre, is, so)) = m in (log, es, f log es v so)

pub after_some : (Q : EventSchedule → EventSchedule → EventParty → Type 0) (view : Option EventParty) → After Q view → (v : EventParty) × (view ≡ Some v) × (log es : EventSchedule) × Q log es v
after_some Q None m = absurd m
after_some Q (Some v) m = let (log, es, so) = m in (v, refl, log, es, so)

pub after_seat : (Q : EventSchedule → EventSchedule → EventParty → Type 0) (x : EventSeat) (view : Option EventParty) → ((log es : EventSchedule) (v : EventParty) → Q log es v → v.0 ≡ x)
    → After Q view → what view ≡ Some x
after_seat Q x None f m = absurd m
after_seat Q x (Some v) f m = let (log, es, so) = m in ap Some (f log es v so)

slept : (x : EventSeat) (g : ℕ) → has_parked g x → has_slept x
slept x g (inl e) = subst has_slept (sym e) tt
slept x g (inr (t, e)) = subst has_slept (sym e) tt

pub after_park : (g : ℕ) (old view : Option EventParty) → After (λ log es v. Parks g old log es g v) view → IsSlept view
after_park g old None m = absurd m
after_park g old (Some v) m = let (log, es, ((k, parked), so)) = m in slept v.0 g parked

pub may_leave : (key : Opening (Unit {0})) (view : Option EventParty) (v : EventParty) → view ≡ Some v → v.0 ≡ Idle → Rests (Runs key) (λ u. off) view
may_leave key view v e idle = subst (λ o. Rests (Runs key) (λ u. off) o) (sym e) (rests key v idle)

-- a step of a party that is new
pub fresh : (key : Opening (Unit {0})) (view : Option EventParty) (g : OnWord ℕ) (told : EventSchedule → EventSchedule → ℕ → EventParty → Type 0) → view ≡ None → Keeps key None g told → Keeps key view g told
fresh key view g told e so = subst (λ o. Keeps key o g told) (sym e) so

pub is_none : (n : ℕ) → not (n == 0) ≡ false → n ≡ 0
is_none n e = grind (arith, e)

pub is_some_one : (n : ℕ) → not (n == 0) ≡ true → n ≡ 0 → ⊥
is_some_one n e none = grind (arith, e, none)
