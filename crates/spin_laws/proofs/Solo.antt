-- A call that does not wait, or whose request is open, is answered by steps of its own: each of them that does not answer it counts against
-- a limit.
use Rattle.spin_world_core.proofs.Names.{seat_of, ◌≡◌, ℕ, zero, suc, ◌+◌, ◌<◌, ◌≤◌, ◌⊎◌, Bool, true, false, not, Option, Some, List, [], ◌∷◌, ◌++◌, slice_get, if◌then◌else◌, refl, ap, sym, ◌∙◌, subst, arith, inl, inr, ⊎_elim, Plain, Change, Hold, Calling, Next, Continue, Answers, Move, Step, Mark, Machine, Seen, Scene, scene, scene_at, scene_of, mark_of, opening, State, after, at_first, goes_on, seen_after, Seat, StepKind, by_step, is_weak, AllOf, LeavesAlone, UndisturbedTakes, is_open_now, steps_alone, Lawful, Every, IsInTime, own_count, changes, limit, ContinuesWithin, Limit, ◌==◌}
use Rattle.std.specs.Prelude.{replicate, length}
use Rattle.std.proofs.lemmas.Bool.{or_left, or_right}
use Rattle.spin_step.specs.Calls.{within, within_changes}
use Rattle.spin_world_core.proofs.Lists.{eqb_self}
use Rattle.spin_step.proofs.Lists.{get-set_same}
use Rattle.spin_world_core.proofs.Every.{state-seen_after}
use Rattle.spin_world_core.specs.Lawful.{is_number}
use Rattle.spin_laws.specs.Rounds.{occurs}
use Rattle.spin_laws.specs.Once.{answers}
use Rattle.spin_laws.specs.Alone.{AnsweredAlone}
use Rattle.spin_laws.proofs.Alone.{every_later}

module _ {W V C L A : Type 0} (m : Machine W V C L A) (p : ℕ) (c : C) (h : Option Hold) where
  -- the party's step, which is no exchange that fails spuriously
  abbrev IsOwn : Mark → Type 0
  IsOwn mark = (mark.party ≡ p) × (is_weak mark.step_kind ≡ false)

  -- what is known of the span after a step by which the call goes on
  abbrev Stays : List Mark → Type 0
  Stays span =
      ContinuesWithin (limit m.lock_kind (m.asks c h)) m.lock_kind p span
      × UndisturbedTakes (λ n. n < steps_alone (m.asks c h)) m.lock_kind p (m.asks c h) span

  -- the step answers the call, or the call goes on with this step in its span
  abbrev GoesOn : Seen W V C L → Scene W V C L A → Type 0
  GoesOn seen sc =
      (l : L) × (seat_of sc.after p ≡ Some (Calling c l h)) × (mark : Mark) × IsOwn mark × (mark.before ≡ seen.plain)
      × (sc.after.span p ≡ mark ∷ seen.span p) × Stays (mark ∷ seen.span p)

  abbrev Goes : Seen W V C L → Scene W V C L A → Type 0
  Goes seen sc = (answers {V = V} {C = C} {L = L} {A = A} p p Step sc.outcome (seat_of sc.after p) ≡ true) ⊎ GoesOn seen sc

  module _ (seen : Seen W V C L) (l : L) (at : seat_of seen p ≡ Some (Calling c l h)) where
    went : (step : Option Change) (kind : StepKind) (value : Option V) (s : State W V C L) (next : Next L A) → s.seats ≡ seen.state.seats
        → let sc = scene_of seen p Step (Some (Calling c l h)) (goes_on s p c h next) step (by_step kind) value in IsInTime m sc → Goes seen sc
    went step kind value s (Answers a rest) same time = inl (eqb_self p)
    went step kind value s (Continue i) same time =
        inr (i, rw same (get-set_same seen.state.seats p (Calling c i h) _ at), mark_of p step (by_step kind) seen.plain, (refl, grind arith), refl, refl, (time.in_time, time.undisturbed))

    goes : IsInTime m (scene m seen p Step) → Goes seen (scene m seen p Step)
    goes =
        subst (λ (o : Option (Seat C L)). IsInTime m (scene_at m seen p Step o) → Goes seen (scene_at m seen p Step o)) (sym at)
        (went _ _ _ _ (m.step seen.state.words seen.state.value c l h).next refl)

  few : (recent : List Mark) (first : Mark) (older : List Mark) → own_count p (recent ++ first ∷ []) ≤ own_count p (recent ++ first ∷ older)
  few [] first older = omega arith
  few (x ∷ xs) first older = let less = few xs first older in omega (arith, less)

  leaves : (mark : Mark) → IsOwn mark → LeavesAlone m.lock_kind p mark
  leaves mark own = record { strong = λ e. own.1; still = λ ne. absurd (ne own.0) }

  all_leave : (recent : List Mark) (first : Mark) → AllOf IsOwn recent → IsOwn first → AllOf (LeavesAlone m.lock_kind p) (recent ++ first ∷ [])
  all_leave [] first all own = (leaves first own, tt)
  all_leave (x ∷ xs) first all own = (leaves x all.0, all_leave xs first all.1 own)

  unchanged : (mark : Mark) (span : List Mark) → mark.party ≡ p → changes m.lock_kind p (mark ∷ span) ≡ changes m.lock_kind p span
  unchanged mark span is = grind (arith, is, eqb_self p)

  all_unchanged : (recent : List Mark) (first : Mark) (older : List Mark) → AllOf IsOwn recent → IsOwn first → changes m.lock_kind p (recent ++ first ∷ older) ≡ changes m.lock_kind p older
  all_unchanged [] first older all own = unchanged first older own.0
  all_unchanged (x ∷ xs) first older all own = unchanged x (xs ++ first ∷ older) all.0.0 ∙ all_unchanged xs first older all.1 own

  module _ (older : List Mark) (start : Plain) where
    -- after a step in the state `start`, and perhaps more, the call has gone on for fewer than `bound` steps
    abbrev Ends : ℕ → Type 0
    Ends bound =
        (recent : List Mark) (first : Mark) → IsOwn first → first.before ≡ start → AllOf IsOwn recent → Stays (recent ++ first ∷ older)
        → own_count p (recent ++ first ∷ []) < bound

    by_limit : (l : Limit) → is_number l ≡ true → limit m.lock_kind (m.asks c h) ≡ l → (bound : ℕ) × Ends bound
    by_limit (within k) is same = (
      k,
      λ recent first own before all stays.
          let less : own_count p (recent ++ first ∷ older) < k = subst (λ y. ContinuesWithin y m.lock_kind p (recent ++ first ∷ older)) same stays.0 in
          let most = few recent first older in omega (arith, less, most),
    )
    by_limit (within_changes k) is same = (
      k + changes m.lock_kind p older,
      λ recent first own before all stays.
          let less : own_count p (recent ++ first ∷ older) < k + changes m.lock_kind p (recent ++ first ∷ older) = subst (λ y. ContinuesWithin y m.lock_kind p (recent ++ first ∷ older)) same stays.0 in
          let most = few recent first older in let none = all_unchanged recent first older all own in omega (arith, less, most, none),
    )
    by_limit l is same = absurd (grind (arith, is))

    by_open : is_open_now p (m.asks c h) older start ≡ true → Ends (steps_alone (m.asks c h))
    by_open opens recent first own before all stays =
        stays.1 recent first older refl (subst (λ s. is_open_now p (m.asks c h) older s ≡ true) (sym before) opens) (all_leave recent first all own)

    module _ (bound : ℕ) (ends : Ends bound) where
      module _ (first : Mark) (own_first : IsOwn first) (before : first.before ≡ start) where
        walk : (k : ℕ) (seen : Seen W V C L) (l : L) → seat_of seen p ≡ Some (Calling c l h) → Every (IsInTime m) m seen (replicate k (p, Step))
            → (recent : List Mark) → AllOf IsOwn recent → seen.span p ≡ recent ++ first ∷ older → Stays (recent ++ first ∷ older) → bound ≤ own_count p (recent ++ first ∷ []) + k
            → occurs m (answers p) seen.state (replicate k (p, Step)) ≡ true
        walk zero seen l at time recent own is stays enough = let less = ends recent first own_first before own stays in absurd (omega (arith, enough, less))
        walk (suc k) seen l at time recent own is stays enough =
            let sc = scene m seen p Step in
            ⊎_elim (λ (over : answers {V = V} {C = C} {L = L} {A = A} p p Step sc.outcome (seat_of sc.after p) ≡ true). or_left _ _ over)
            (λ (on : GoesOn seen sc).
            let more : own_count p ((on.2 ∷ recent) ++ first ∷ []) ≡ own_count p (recent ++ first ∷ []) + 1 =
            ap {B = ℕ} (λ b. own_count p (recent ++ first ∷ []) + (if b then 1 else 0)) (ap (λ q. q == p) on.3.0 ∙ eqb_self p) in
            let span : mark_then on.2 (seen.span p) ≡ mark_then on.2 (recent ++ first ∷ older) = ap (mark_then on.2) is in
            or_right _ _ (walk k sc.after on.0 on.1 time.1 (on.2 ∷ recent) (on.3, own) (on.5 ∙ span) (subst Stays span on.6) (omega (arith, enough, more))))
            (goes seen l at time.0)
          where
            mark_then : Mark → List Mark → List Mark
            mark_then x xs = x ∷ xs

      from : (seen : Seen W V C L) (l : L) → seat_of seen p ≡ Some (Calling c l h) → Every (IsInTime m) m seen (replicate (suc bound) (p, Step)) → seen.span p ≡ older → seen.plain ≡ start
          → occurs m (answers p) seen.state (replicate (suc bound) (p, Step)) ≡ true
      from seen l at time span plain =
          let sc = scene m seen p Step in
          ⊎_elim (λ (over : answers {V = V} {C = C} {L = L} {A = A} p p Step sc.outcome (seat_of sc.after p) ≡ true). or_left _ _ over)
          (λ (on : GoesOn seen sc).
          let longer : on.2 ∷ seen.span p ≡ on.2 ∷ older = ap (λ xs. on.2 ∷ xs) span in
          or_right _ _ (walk on.2 on.3 (on.4 ∙ plain) bound sc.after on.0 on.1 time.1 [] tt (on.5 ∙ longer) (subst Stays longer on.6) (omega arith)))
          (goes seen l at time.0)

module _ {W V C L A : Type 0} (m : Machine W V C L A) where
  pub answered_alone : Lawful m → (n : ℕ) (past : List (ℕ × Move C V)) → AnsweredAlone m n past
  answered_alone lawful n past p c l h there why =
      let seen = seen_after m (opening m n) past in
      let same : seen.state ≡ after m (at_first m n) past = state-seen_after m (opening m n) past in
      let ends : (bound : ℕ) × Ends m p c h (seen.span p) seen.plain bound =
      ⊎_elim (λ (free : (m.asks c h).waits ≡ false). by_limit m p c h (seen.span p) seen.plain (limit m.lock_kind (m.asks c h)) (lawful.promises.limited c h _ free) refl)
      (λ (opens : is_open_now p (m.asks c h) (seen.span p) seen.plain ≡ true). (steps_alone (m.asks c h), by_open m p c h (seen.span p) seen.plain opens)) why in
      let k = suc ends.0 in let alone : List (ℕ × Move C V) = replicate k (p, Step) in (
        k,
        subst (λ s. occurs m (answers p) s (replicate k (p, Step)) ≡ true) same
            (from m p c h (seen.span p) seen.plain ends.0 ends.1 seen l (ap (λ (s : State W V C L). slice_get s.seats p) same ∙ there)
            (every_later m (IsInTime m) past alone (opening m n) (lawful.counts n (past ++ alone))) refl refl),
      )
