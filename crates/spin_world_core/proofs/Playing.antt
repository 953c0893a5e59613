-- What has been played of a schedule, at the beginning of a turn of the loop.
use Rattle.std.proofs.Math.Bool.{Bool-set}
use Rattle.spin_world_core.specs.Runs.{Always, state_at, Schedule}
use Rattle.spin_world_core.proofs.Names.{slice_get-map, ◌≡◌, ℕ, map, ◌+◌, ◌<◌, ◌==◌, ◌&&◌, true, Option, Some, None, List, [], ◌∷◌, ◌++◌, length, if◌then◌else◌, ap, sym, ◌∙◌, arith, subst, length-set, take, get_or, length-take-le, zero-add, ∥∥₁_elim, ∥∥₁_map, CanStep, length-map, Move, Outcome, Event, Machine, State, Happened, happens, after, events_of, with_begins, last_begin, is_begun, at_first, IsReached}
use Rattle.spin_step.specs.Schedules.{begin_of, begins_after, with_begin}
use Rattle.spin_step.proofs.Lists.{get-set_within}
use Rattle.spin_world_core.proofs.Lists.{get-set_other}
use Rattle.std.proofs.Common.{add-one}
use Rattle.std.proofs.Math.Seq.{take-suc}
use Rattle.spin_step.proofs.Schedules.{after-append}
use Rattle.spin_world_core.proofs.Schedules.{events_of-append, length-events_of, with_begins-append, last_begin-append, stranger, length-happens}

begun_more : {V A : Type 0} (begins : List (Option ℕ)) (p q k : ℕ) (old : Option ℕ) (o : Outcome A V) → (is_begun o ≡ true → p < length begins)
    → begin_of begins q ≡ old → begin_of (begins_after begins p k o) q ≡ (if (p == q) && is_begun o then Some k else old)
begun_more begins p q k old o lt e = grind (arith, lt, get-set_within begins p (Some k), get-set_other begins p q (Some k))

module _ {W V C L A : Type 0} (m : Machine W V C L A) where
  pub record Played (from now : State W V C L) (begins : List (Option ℕ)) (events : List (Event W V A)) (front : Schedule C V) : Type 0 where
    pub table : now ≡ after m from front
    pub with_begins_so : events ≡ with_begins [] (events_of m from front)
    pub begun_so : (p : ℕ) → begin_of begins p ≡ last_begin p 0 None (events_of m from front)
    pub parties : length begins ≡ length now.seats

  -- in the table that a run starts with, no party's call has begun
  pub forgotten : (s : State W V C L) (begins now : List (Option ℕ)) → now ≡ map (λ b. None) begins → length begins ≡ length s.seats → Played s s now [] []
  forgotten s begins now is parties = let none = slice_get-map {B = Option ℕ} (λ b. None) begins in
      grind (arith, is, none, length-map {B = Option ℕ} begins (λ b. None), parties)

  pub played_next : (from now next : State W V C L) (begins begins' : List (Option ℕ)) (events events' : List (Event W V A)) (schedule : Schedule C V)
      (k : ℕ) (entry : ℕ × Move C V) (o o' : Outcome A V) (words : W)
      → Played from now begins events (take k schedule) → k < length schedule → entry ≡ get_or schedule k entry
      → (let h : Happened W V C L A = record { outcome = o; next = next } in h ≡ happens m now entry.0 entry.1) → words ≡ next.words
      → o' ≡ with_begin (begin_of begins entry.0) o → begins' ≡ begins_after begins entry.0 k o
      → events' ≡ events ++ record { party = entry.0; outcome = o'; words = words } ∷ [] → Played from next begins' events' (take (k + 1) schedule)
  played_next from now next begins begins' events events' schedule k entry o o' words played lt read acted same_words told_o put added =
      let front = take k schedule in
      let there = after m from front in
      let done = events_of m from front in
      let all = events_of-append m from front (entry ∷ []) in
      let last = with_begins-append [] done (events_of m there (entry ∷ [])) in
      let is = acted ∙ ap (λ s. happens m s entry.0 entry.1) played.table in
      let told = ap (λ h. h.outcome) is in
      let place : length front ≡ k = length-take-le k schedule (omega arith) in
      rw (add-one, take-suc schedule k entry lt, ← read, added, put, told_o, same_words) (record {
        table = ap (λ h. h.next) is ∙ sym (after-append m from front (entry ∷ []));
        with_begins_so = grind (arith, all, is, played.with_begins_so, played.begun_so entry.0, last);
        begun_so = λ q. rw (all, last_begin-append q 0 None done, length-events_of m from front, place, told, zero-add)
            (begun_more begins entry.0 q k (last_begin q 0 None done) (happens m there entry.0 entry.1).outcome
            (λ e. grind (arith, stranger m there entry.0 entry.1, played.parties, played.table)) (played.begun_so q));
        parties = grind (arith, length-set begins entry.0, played, length-happens m now entry.0 entry.1, acted);
      })

  -- a state that a schedule leads to from a reached state is reached
  pub further : (s t : State W V C L) (schedule : Schedule C V) → t ≡ after m s schedule → IsReached m s → IsReached m t
  further s t schedule is reached = ∥∥₁_map reached (λ led.
      let joined = after-append m (at_first m led.0) led.1 schedule in
      (led.0, led.1 ++ schedule, joined ∙ (ap (λ u. after m u schedule) led.2 ∙ sym is)))

  -- so is a state that a move leads to
  pub reached_next : (s t : State W V C L) (p : ℕ) (move : Move C V) (o : Outcome A V)
      → (let h : Happened W V C L A = record { outcome = o; next = t } in h ≡ happens m s p move) → IsReached m s → IsReached m t
  reached_next s t p move o is = further s t ((p, move) ∷ []) (ap (λ h. h.next) is)

  -- in a reached state each party in a call can take its next step
  pub can_reached : (s : State W V C L) → Always m (λ n past. CanStep m (state_at m n past)) → IsReached m s → CanStep m s
  can_reached s can reached = λ p c l h there.
      ∥∥₁_elim reached (Bool-set _ _) (λ led. subst (CanStep m) led.2 (can led.0 led.1) p c l h there)
