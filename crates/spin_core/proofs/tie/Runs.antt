-- A party's moves in a world of its own are also its moves in any world, with the same outcomes. So a step can be appended to a schedule.
use Rattle.std.proofs.Common.{◌≡◌, ℕ, suc, ◌+◌, Bool, true, false, Option, Some, None, List, [], ◌∷◌, ◌++◌, length, replicate, slice_get, refl, sym, ap, ◌∙◌, arith}
use Rattle.std.proofs.Math.Seq.{set-append_seam}
use Rattle.std.specs.List.{list_all}
use Rattle.std.proofs.lemmas.Bool.{and_parts}
use Rattle.std.proofs.lemmas.List.{length-append, append_assoc}
use Rattle.std.proofs.lemmas.List.Folds.{list_all-append}
use Rattle.spin_step.specs.declared.place.Hold.{Hold}
use Rattle.spin_step.specs.declared.place.Seat.{Seat}
use Rattle.spin_step.specs.declared.place.Seat.TheVariants.{Idle, Calling, Holding, Leaked}
use Rattle.spin_step.specs.declared.schedule.Move.{Move}
use Rattle.spin_step.specs.declared.schedule.Move.TheVariants.{Begin, Step, Weak, Write}
use Rattle.spin_step.specs.declared.schedule.Outcome.{Outcome}
use Rattle.spin_step.specs.declared.schedule.Outcome.TheVariants.{Skipped, Begun, GoingOn, Answered, Written}
use Rattle.spin_step.specs.declared.stepped.Next.{Next}
use Rattle.spin_step.specs.declared.stepped.Next.TheVariants.{Continue, Answers}
use Rattle.spin_step.specs.Machines.{Machine}
use Rattle.spin_step.specs.Schedules.{State, Entry, Happened, after, at_first, happens, moves, skipped, seated, begun, goes_on, refuses, resting, placed, may_write, written_by}
use Rattle.spin_step.proofs.Schedules.{after-append}
use Rattle.spin_core.specs.Run.{is_of_call, outcomes_of, is_played, IsPlayed, AreOfCalls, AreOwn}
use Rattle.spin_core.specs.Own.{by_party}

pub get_seam : {X : Type 0} (xs : List X) (y : X) (ys : List X) → slice_get (xs ++ y ∷ ys) (length xs) ≡ Some y
get_seam [] y ys = refl
get_seam (x ∷ xs) y ys = get_seam xs y ys

module _ {W V C L A : Type 0} (m : Machine W V C L A) where
  abbrev Schedule : Type 0
  Schedule = List (Entry C V)

  abbrev Seats : Type 0
  Seats = List (Seat C L)

  abbrev world : W → Option V → Seats → State W V C L
  world w value seats = record { words = w; value = value; seats = seats }

  -- the words, the value, and the seat of one party; others may sit before this party and behind it
  abbrev Alone : Type 0
  Alone = W × Option V × Seat C L

  abbrev among : Alone → Seats → Seats → State W V C L
  among z xs ys = world z.0 z.1 (xs ++ z.2 ∷ ys)

  -- Whoever sits before and behind the party, h has the same outcome and leads to the same words, value and seat of the
  -- party. It leaves the other seats as they are.
  abbrev Alike : (Seats → Seats → Happened W V C L A) → Type 0
  Alike h = (o : Outcome A V) × (z : Alone) × ((xs ys : Seats) → h xs ys ≡ record { outcome = o; next = among z xs ys })

  module _ (z : Alone) where
    skips : Alike (λ xs ys. skipped (among z xs ys))
    skips = (Skipped, z, λ xs ys. refl)

    sits : (next : Seat C L) (o : Outcome A V) → Alike (λ xs ys. record { outcome = o; next = seated (among z xs ys) (length xs) next })
    sits next o = (o, (z.0, z.1, next), λ xs ys. ap (λ seats. record { outcome = o; next = world z.0 z.1 seats }) (set-append_seam xs z.2 ys next))

    begun_alike : (c : C) (h : Option Hold) (o : Option L) → Alike (λ xs ys. begun (among z xs ys) (length xs) c h o)
    begun_alike c h None = skips
    begun_alike c h (Some l) = sits (Calling c l h) Begun

    goes_on_alike : (c : C) (h : Option Hold) (next : Next L A) → Alike (λ xs ys. goes_on (among z xs ys) (length xs) c h next)
    goes_on_alike c h (Continue l) = sits (Calling c l h) GoingOn
    goes_on_alike c h (Answers a after) = sits (resting after) (Answered a None)

    refused_alike : (c : C) (h : Option Hold) (o : Option (Next L A)) → Alike (λ xs ys. refuses (among z xs ys) (length xs) c h o)
    refused_alike c h None = skips
    refused_alike c h (Some next) = goes_on_alike c h next

    written_alike : (v : V) (may : Bool) → Alike (λ xs ys. written_by (among z xs ys) v may)
    written_alike v true = (Written, (z.0, Some v, z.2), λ xs ys. refl)
    written_alike v false = skips

  moved_alike : (w : W) (value : Option V) (seat : Seat C L) (move : Move C V) → is_of_call m move ≡ true
      → Alike (λ xs ys. moves m (among (w, value, seat) xs ys) (length xs) move seat)
  moved_alike w value Idle (Begin c) is = begun_alike (w, value, Idle) c None (m.begin c None)
  moved_alike w value (Holding h) (Begin c) is = begun_alike (w, value, Holding h) c (Some h) (m.begin c (Some h))
  moved_alike w value (Calling c l h) Step is =
      let st = m.step w value c l h in goes_on_alike (st.words, placed st.placed value, Calling c l h) c h st.next
  moved_alike w value (Calling c l h) Weak is = refused_alike (w, value, Calling c l h) c h (m.refuse c l h)
  moved_alike w value (Holding h) (Write v) is = written_alike (w, value, Holding h) v (may_write h)
  moved_alike w value (Leaked h) (Write v) is = written_alike (w, value, Leaked h) v (may_write h)
  moved_alike w value seat Weak is = skips (w, value, seat)
  moved_alike w value seat (Begin c) is = skips (w, value, seat)
  moved_alike w value seat Step is = skips (w, value, seat)
  moved_alike w value seat (Write v) is = skips (w, value, seat)
  moved_alike w value seat move is = absurd cc

  -- so the moves of a step do among others what they do in a world of the party's own
  go_among : (z z' : Alone) (own : List (Move C V)) (outs : List (Outcome A V)) → list_all (is_of_call m) own ≡ true
      → after m (among z [] []) (by_party 0 own) ≡ among z' [] [] → outcomes_of m (among z [] []) (by_party 0 own) ≡ outs
      → (xs ys : Seats) → let es = by_party (length xs) own in
      (after m (among z xs ys) es ≡ among z' xs ys) × (outcomes_of m (among z xs ys) es ≡ outs)
  go_among z z' [] outs all is are xs ys = (ap (λ s. world s.words s.value (xs ++ (s.seats ++ ys))) is, are)
  go_among z z' (move ∷ own) outs all is are xs ys =
      let each = and_parts _ _ all in let (o, to, alike) = moved_alike z.0 z.1 z.2 move each.0 in
      let now : (xs ys : Seats) → happens m (among z xs ys) (length xs) move
      ≡ record { outcome = o; next = among to xs ys } = λ xs ys. rw (get_seam xs z.2 ys) (alike xs ys) in
      let rest = go_among to z' own _ each.1 (rw (now [] [], after) at is) refl xs ys in
      (rw (now xs ys, after) rest.0, rw (now xs ys) (ap (λ l. o ∷ l) rest.1 ∙ (rw (now [] []) at are)))

  -- so a schedule of moves of calls is still one after a step
  pub of_calls : (log : Schedule) (p : ℕ) (own : List (Move C V)) → AreOfCalls m log → list_all (is_of_call m) own ≡ true → AreOfCalls m (log ++ by_party p own)
  of_calls [] p [] so all = refl
  of_calls [] p (move ∷ own) so all = let each = and_parts (is_of_call m move) (list_all (is_of_call m) own) all in rw each.0 (of_calls [] p own so each.1)
  of_calls (e ∷ es) p own so all = let each = and_parts (is_of_call m e.1) (list_all (λ x. is_of_call m x.1) es) so in rw each.0 (of_calls es p own each.1 all)

  outcomes-append : (s : State W V C L) (xs ys : Schedule) → outcomes_of m s (xs ++ ys) ≡ outcomes_of m s xs ++ outcomes_of m (after m s xs) ys
  outcomes-append s [] ys = refl
  outcomes-append s (x ∷ xs) ys = ap (λ l. (happens m s x.0 x.1).outcome ∷ l) (outcomes-append (happens m s x.0 x.1).next xs ys)

  -- The schedule leads to these words, this value and these seats; all further seats are idle. None of its entries is skipped.
  abbrev pub Leads : Schedule → W → Option V → Seats → Type 0
  Leads log w value seats =
      (more : ℕ) → let s = at_first m (length seats + more) in (after m s log ≡ world w value (seats ++ replicate more Idle))
      × (list_all is_played (outcomes_of m s log) ≡ true)

  -- a party joins, and sits idle until its first step
  pub joins : (log : Schedule) (w : W) (value : Option V) (seats : Seats) → Leads log w value seats → Leads log w value (seats ++ Idle ∷ [])
  joins log w value seats leads more =
      let e : length (seats ++ Idle ∷ []) + more ≡ length seats + suc more = omega (arith, length-append seats (Idle ∷ [])) in
      rw (e, append_assoc seats (Idle ∷ []) (replicate more Idle)) (leads (suc more))

  -- a party that has others before it and behind it makes moves, with the outcomes that they have in a world of its own
  pub goes : (log : Schedule) (z z' : Alone) (xs ys : Seats) → Leads log z.0 z.1 (xs ++ z.2 ∷ ys)
      → (own : List (Move C V)) (outs : List (Outcome A V)) → list_all (is_of_call m) own ≡ true → list_all is_played outs ≡ true
      → after m (among z [] []) (by_party 0 own) ≡ among z' [] [] → outcomes_of m (among z [] []) (by_party 0 own) ≡ outs
      → (p : ℕ) → p ≡ length xs → let es = by_party p own in Leads (log ++ es) z'.0 z'.1 (xs ++ z'.2 ∷ ys) × AreOwn m own outs log es
  goes log z z' xs ys leads own outs all fine alone are p is =
      let es = by_party p own in let n : ℕ = length (xs ++ z.2 ∷ ys) in let start : ℕ → State W V C L = λ more. at_first m (n + more) in
      let same : length (xs ++ z'.2 ∷ ys) ≡ n = length-append xs (z'.2 ∷ ys) ∙ sym (length-append xs (z.2 ∷ ys)) in
      let there : (more : ℕ) → after m (start more) log ≡ among z xs (ys ++ replicate more Idle) =
      λ more. rw ((leads more).0, append_assoc xs (z.2 ∷ ys) (replicate more Idle)) in
      let go = rw (← is) at (go_among z z' own outs all alone are xs) in
      let came : (more : ℕ) → outcomes_of m (after m (start more) log) es ≡ outs = λ more. rw (there more) (go (ys ++ replicate more Idle)).1 in
      let played : IsPlayed m n (log ++ es) = λ more. let before = outcomes_of m (start more) log in
      rw (outcomes-append (start more) log es, list_all-append is_played before, (leads more).1, came more) fine in
      let leads' : Leads (log ++ es) z'.0 z'.1 (xs ++ z'.2 ∷ ys) = λ more. let after' = (go (ys ++ replicate more Idle)).0 in
      rw (same, after-append m (start more) log es, there more, append_assoc xs (z'.2 ∷ ys) (replicate more Idle)) (after', played more) in
      (leads', (p, n, refl, played, came))
