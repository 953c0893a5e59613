-- One operation on the first word that is several steps of a call.
use Rattle.std.proofs.Common.{◌≡◌, ℕ, zero, suc, ◌++◌, ◌==◌, [], ◌∷◌, Bool, true, false, List, Option, Some, None, is_some, unwrap_or, if◌then◌else◌, length, replicate, slice_set, refl, sym, ap, ◌∙◌, subst, inl, inr}
use lib.ListN.{get_elem?}
use mathlib.Core.Option.{some}
use Rattle.std.specs.List.{list_all}
use Rattle.std.proofs.Math.Seq.{set-append_seam}
use Rattle.spin_step.specs.Acts.{Table, operation_by, next_of, word_number, machine_of, begin_of}
use Rattle.spin_step.specs.Operations.{performed}
use Rattle.spin_step.specs.Schedules.{State, after, resting, placed, begun, happens}
use Rattle.spin_step.specs.declared.answer.Answer.{Answer}
use Rattle.spin_step.specs.declared.place.Hold.{Hold}
use Rattle.spin_step.specs.declared.place.Seat.{Seat}
use Rattle.spin_step.specs.declared.place.Seat.TheVariants.{Idle, Calling, Holding}
use Rattle.spin_step.specs.declared.schedule.Move.{Move}
use Rattle.spin_step.specs.declared.schedule.Move.TheVariants.{Begin, Step}
use Rattle.spin_step.specs.declared.schedule.Outcome.TheVariants.{Begun, GoingOn}
use Rattle.spin_step.specs.declared.stepped.Next.{Next}
use Rattle.spin_step.specs.declared.stepped.Next.TheVariants.{Continue, Answers}
use Rattle.spin_core.specs.Cell as cell
use Rattle.spin_core.specs.Cell.{Use, Ways, use_of, Going, AllowsTo, MeetsRule, HasView, readers_of}
use Rattle.spin_core.specs.Own.{Numbered, by_party, what}
use Rattle.spin_core.specs.Run.{is_of_call, is_played, outcomes_of}
use Rattle.spin_core.specs.Passes.{Course, Ending, Waits, Ends}
use Rattle.spin_core.specs.Values.{left}
use Rattle.spin_core.specs.Views.{Part, idle, entries_of_part, HasPart}
use Rattle.spin_core.specs.declared.tie.Opening.{Opening}
use Rattle.spin_core.proofs.tie.Plays.{ways}
use Rattle.spin_core.proofs.tie.Views.{part_before, number as number_of, own_part, lock_after}
use Rattle.spin_session.specs.Meaning.{Meaning, Beside, worked, number_in, put_in, on_place, lends_if, part_of, seat_now, rests_at, seat_after, use_at, words_in, AreWords, FindsAt, ComesFrom, RefinesOn}
use Rattle.spin_session.specs.Turns.{outcome_of, Says, Quiet, Told, GoesTo, IsLed, FusesBy, Lands, Reaches, leap, next_after, course_of, held_now}
use Rattle.spin_session.specs.Operating.{Operates}
use Rattle.spin_session.proofs.Course.{held_resting}
use Rattle.spin_session.proofs.Refining.{going_of, leaves_quiet, with_seat, is_played-next, st, found, steps_to, begun_is, lock, Rule, own_ways, Moving, Keeps, keeps, moves_now, part_now, some_part, allows_step}
use Rattle.spin_step.specs.declared.table.Operation.TheVariants as op

-- The moves.

-- the moves of a call that has begun
abbrev course_on : {L V C : Type 0} → Next L (Answer V) → Course V C (Answer V)
course_on (Continue l) = Waits
course_on (Answers a held) = Ends a

course_begins : {L V C : Type 0} (c : C) (next : Next L (Answer V)) (own : List (Move C V)) (outs : List (Ending V)) → course_on next own outs → course_of c next (Begin c ∷ own) (Begun ∷ outs)
course_begins c (Continue l) own outs is = (own, outs, refl, refl, is)
course_begins c (Answers a held) own outs is = (own, outs, refl, refl, is)

last_one : (C : Type 0) {L V : Type 0} (next : Next L (Answer V)) → course_on {C = C} next (Step ∷ []) (outcome_of next ∷ [])
last_one C (Continue l) = (1, refl, refl)
last_one C (Answers a held) = (0, refl, refl)

one_more : {L V C : Type 0} (next : Next L (Answer V)) (own : List (Move C V)) (outs : List (Ending V)) → course_on next own outs → course_on next (Step ∷ own) (GoingOn ∷ outs)
one_more (Continue l) own outs (n, is, are) = (suc n, ap (λ o. Step ∷ o) is, ap (λ o. GoingOn ∷ o) are)
one_more (Answers a held) own outs (n, is, are) = (suc n, ap (λ o. Step ∷ o) is, ap (λ o. GoingOn ∷ o) are)

-- steps write nothing
steps_leave : (C : Type 0) {V : Type 0} (n : ℕ) (v : V) → left {C = C} (replicate n Step) v ≡ v
steps_leave C zero v = refl
steps_leave C (suc n) v = steps_leave C n v

steps_leave_then : (C : Type 0) {V : Type 0} (n : ℕ) (v : V) → left {C = C} (replicate n Step ++ Step ∷ []) v ≡ v
steps_leave_then C zero v = refl
steps_leave_then C (suc n) v = steps_leave_then C n v

course_leaves : {L V C : Type 0} (c : C) (next : Next L (Answer V)) (own : List (Move C V)) (outs : List (Ending V)) → course_of c next own outs → (v : V) → left own v ≡ v
course_leaves c (Continue l) own outs (rest, comes, is, are, (n, steps, ends)) v = ap (λ o. left o v) is ∙ ap (λ o. left o v) steps ∙ steps_leave _ n v
course_leaves c (Answers a held) own outs (rest, comes, is, are, (n, steps, ends)) v = ap (λ o. left o v) is ∙ ap (λ o. left o v) steps ∙ steps_leave_then _ n v

-- The views, where a party comes to a view and then to another.

module _ {V : Type 0} where
  -- the place of the party after its first step
  abbrev place : ℕ → Option V → List V → ℕ
  place id None vs = length vs
  place id (Some v) vs = id

  there : (vs : List V) (w : V) → get_elem? (vs ++ w ∷ []) (length vs) ≡ some w
  there [] w = refl
  there (v ∷ vs) w = there vs w

  set_there : (id : ℕ) (v w : V) (vs : List V) → get_elem? vs id ≡ some v → get_elem? (slice_set vs id w) id ≡ some w
  set_there id v w [] at = absurd (cc (at))
  set_there zero v w (x ∷ xs) at = refl
  set_there (suc i) v w (x ∷ xs) at = set_there i v w xs at

  set_again : (id : ℕ) (w u : V) (vs : List V) → slice_set (slice_set vs id w) id u ≡ slice_set vs id u
  set_again id w u [] = refl
  set_again zero w u (x ∷ xs) = refl
  set_again (suc i) w u (x ∷ xs) = ap (λ ys. x ∷ ys) (set_again i w u xs)

  stands_then : (id : ℕ) (view : Option V) (vs : List V) (w : V) → HasView id view vs → HasView (place id view vs) (Some w) (cell.after id view vs w)
  stands_then id None vs w at = there vs w
  stands_then id (Some v) vs w at = set_there id v w vs at

  after_then : (id : ℕ) (view : Option V) (vs : List V) (w u : V) → cell.after (place id view vs) (Some w) (cell.after id view vs w) u ≡ cell.after id view vs u
  after_then id None vs w u = set-append_seam vs w [] u
  after_then id (Some v) vs w u = set_again id w u vs

met : (b : Bool) (u v : Use) (readers : ℕ) (A : Type 0) → Going {X = Unit {0}} (lends_if b) u v None readers A → A
met true u v readers A a = a
met false u v readers A a = a

module _ {W V C L S : Type 0} (k : Beside S) (t : Table W V C L (Answer V)) (s : Meaning C L) (d : RefinesOn t k s) (opening : Opening V) (first : (l : L) → t.word l ≡ 0) where
  abbrev world : W → Option V → Seat C L → State W V C L
  world = with_seat t

  -- From this seat the party has moves of such a course, after which the call goes on so, and the first word is this number.
  abbrev Goes : Seat C L → Course V C (Answer V) → C → Option Hold → W → Option V → ℕ → Next L (Answer V) → Type 0
  Goes from course c h w value n' next =
      (own : List (Move C V)) × (outs : List (Ending V)) × course own outs × (list_all (is_of_call (machine_of t)) own ≡ true) × (list_all is_played outs ≡ true) × (w' : W) × (now : Option V)
      × (after (machine_of t) (world w value from) (by_party 0 own) ≡ world w' now (seat_after c h next))
      × (outcomes_of (machine_of t) (world w value from) (by_party 0 own) ≡ outs) × (words_in t k w' ≡ (n', (words_in t k w).1))

  abbrev Walk : C → Option Hold → L → W → Option V → ℕ → Next L (Answer V) → Type 0
  Walk c h l w value n' next = Goes (Calling c l h) (course_on next) c h w value n' next

  abbrev number : W → ℕ
  number w = word_number t.memory 0 w

  -- the step of a party that is alone
  steps_here : (c : C) (l : L) (h : Option Hold) (w : W) (value : Option V) → let z = st k t s d opening c l h w value in let next = next_of t c l h (number w) in
      (happens (machine_of t) (world w value (Calling c l h)) 0 Step ≡ record { outcome = outcome_of next; next = world z.words (placed z.placed value) (seat_after c h next) })
      × (words_in t k z.words ≡ (performed (operation_by (t.act c l h)) (number w), (words_in t k w).1))
  steps_here c l h w value =
      let z = st k t s d opening c l h w value in
      let same : found k t s d opening c l h w ≡ number w = ap (λ i. number_in k i (words_in t k w)) (first l) in (
        steps_to k t s d opening c l h w value
            ∙ ap (λ n. record { outcome = outcome_of (next_of t c l h n); next = world z.words (placed z.placed value) (seat_after c h (next_of t c l h n)) }) same,
        d.writes_words c l h w ∙ ap (λ i. put_in k i (performed (operation_by (t.act c l h)) (number_in k i (words_in t k w))) (words_in t k w)) (first l),
      )

  walks : (c : C) (h : Option Hold) (j : ℕ) (l : L) (n : ℕ) (l' : L) (m : ℕ) → GoesTo t s c h j l n l' m → (w : W) (value : Option V) → number w ≡ n
      → Walk c h l w value (performed (operation_by (t.act c l' h)) m) (next_of t c l' h m)
  walks c h zero l n l' m goes w value at =
      let one = steps_here c l h w value in let z = st k t s d opening c l h w value in let next = next_of t c l h (number w) in
      let here : Walk c h l w value (performed (operation_by (t.act c l h)) (number w)) next
      = (Step ∷ [], outcome_of next ∷ [], last_one C next, refl, is_played-next next, z.words, placed z.placed value, ap (λ x. x.next) one.0, ap (λ x. x.outcome ∷ []) one.0, one.1) in
      subst (λ (x : L × ℕ). Walk c h l w value (performed (operation_by (t.act c x.0 h)) x.1) (next_of t c x.0 h x.1)) (λ i. (sym goes.0 i, (at ∙ sym goes.1) i)) here
  walks c h (suc j) l n l' m (i, to, rest) w value at =
      let one = steps_here c l h w value in let z = st k t s d opening c l h w value in let v = placed z.placed value in
      let now : happens (machine_of t) (world w value (Calling c l h)) 0 Step ≡ record { outcome = GoingOn; next = world z.words v (Calling c i h) } = rw (at, to) at one.0 in
      let (own, outs, so, all, fine, w', value', leads, came, words) = walks c h j i (performed (operation_by (t.act c l h)) n) l' m rest z.words v (ap (λ x. x.0) one.1 ∙ ap (performed (operation_by (t.act c l h))) at) in
      let next = next_of t c l' h m in let n' = performed (operation_by (t.act c l' h)) m in (
        Step ∷ own,
        GoingOn ∷ outs,
        one_more next own outs so,
        all,
        fine,
        w',
        value',
        ap (λ x. after (machine_of t) x.next (by_party 0 own)) now ∙ leads,
        ap (λ x. x.outcome ∷ outcomes_of (machine_of t) x.next (by_party 0 own)) now ∙ ap (λ o. GoingOn ∷ o) came,
        words ∙ ap (λ x. (n', x.1)) one.1,
      )

  abbrev Leapt : C → Option Hold → Seat C L → W → Option V → ℕ → Next L (Answer V) → Type 0
  Leapt c h from w value n' next = Goes from (course_of c next) c h w value n' next

  -- the moves of an operation that begins the call
  leaps_from : (c : C) (h : Option Hold) (may : (t.asks c h).begins h ≡ true) (from : Seat C L)
      → ((w : W) (value : Option V) → happens (machine_of t) (world w value from) 0 (Begin c) ≡ begun {A = Answer V} (world w value from) 0 c h (begin_of t c h))
      → (last : Option (L × ℕ)) (w : W) (value : Option V) (n' : ℕ) → IsLed t s c h last (number w) n' → Leapt c h from w value n' (next_after t c h last)
  leaps_from c h may from alike None w value n' (is, part) =
      let now = begun_is k t s d opening c h may from alike w value in
      (Begin c ∷ [], Begun ∷ [], ([], [], refl, refl, (0, refl, refl)), refl, refl, w, value, ap (λ x. x.next) now, ap (λ x. x.outcome ∷ []) now, ap (λ x. (x, (words_in t k w).1)) (sym is))
  leaps_from c h may from alike (Some x) w value n' (j, goes, is) =
      let (own, outs, so, all, fine, w', value', leads, came, words) = walks c h j (t.start c h) (number w) x.0 x.1 goes w value refl in
      let next = next_of t c x.0 h x.1 in let now = begun_is k t s d opening c h may from alike w value in (
        Begin c ∷ own,
        Begun ∷ outs,
        course_begins c next own outs so,
        all,
        fine,
        w',
        value',
        ap (λ y. after (machine_of t) y.next (by_party 0 own)) now ∙ leads,
        ap (λ y. y.outcome ∷ outcomes_of (machine_of t) y.next (by_party 0 own)) now ∙ ap (λ o. Begun ∷ o) came,
        words ∙ ap (λ y. (y, (words_in t k w).1)) (sym is),
      )

  leaps_resting : (c : C) (h : Option Hold) (may : (t.asks c h).begins h ≡ true) (last : Option (L × ℕ)) (w : W) (value : Option V) (n' : ℕ) → IsLed t s c h last (number w) n'
      → Leapt c h (resting h) w value n' (next_after t c h last)
  leaps_resting c None may last w value n' led = leaps_from c None may Idle (λ w value. refl) last w value n' led
  leaps_resting c (Some x) may last w value n' led = leaps_from c (Some x) may (Holding x) (λ w value. refl) last w value n' led

  -- The plain lock.

  abbrev Lock : Ways (Unit {0}) (Seat C L) S
  Lock = ways (lock k t s d opening)

  -- a party with this view gets a seat of which P holds, and the first word becomes n'
  abbrev Gets : Option (Seat C L) → ℕ → ℕ → S → List (Seat C L) → (Seat C L → Type 0) → Type 0
  Gets view id n' m vs P =
      (u : Seat C L) × Going Lock.0 (use_of Lock.1 view) (Lock.1 u) None (readers_of Lock.1 vs) (MeetsRule (AreWords k s) Lock n' m (cell.after id view vs u)) × P u

  step_here : (view : Option (Seat C L)) (c : C) (l : L) (h : Option Hold) → ComesFrom t s c l h (part_before (part_of s) view) → (id n : ℕ) (m : S) (vs : List (Seat C L)) → MeetsRule (AreWords k s) Lock n m vs → HasView id view vs
      → Gets view id (performed (operation_by (t.act c l h)) n) m vs (λ u. (u ≡ seat_after c h (next_of t c l h n)) × FindsAt s (t.word l) n)
  step_here view c l h comes id n m vs meets at =
      let Out = λ (i : ℕ). let g = on_place k i (worked (operation_by (t.act c l h))) in let x = g.1 (n, m) in
      (u : Seat C L) × Going Lock.0 (use_of Lock.1 view) (Lock.1 u) None (readers_of Lock.1 vs) (MeetsRule (AreWords k s) Lock (g.0 (n, m)).0 (g.0 (n, m)).1 (cell.after id view vs u))
      × ((u ≡ seat_after c h (next_of t c l h x)) × (worked (operation_by (t.act c l h)) x ≡ performed (operation_by (t.act c l h)) x) × FindsAt s (t.word l) x) in
      let (u, going, (is, same, finds)) = subst Out (first l) (allows_step k t s d opening view c l h comes id n m vs meets at) in
      (u, subst (λ x. Going Lock.0 (use_of Lock.1 view) (Lock.1 u) None (readers_of Lock.1 vs) (MeetsRule (AreWords k s) Lock x m (cell.after id view vs u))) same going, (is, finds))

  reaches : (c : C) (l : L) (h : Option Hold) (from : Part) → ComesFrom t s c l h from → Reaches t s c l h
  reaches c l h from (inl is) = inl (ap is_some is)
  reaches c l h from (inr (may, point, is)) = inr point

  -- where the call has so come, its party sits so
  abbrev Sits : C → Option Hold → L → ℕ → Seat C L → Type 0
  Sits c h l m u = ((u ≡ seat_after c h (next_of t c l h m)) × (rests_at s u ≡ true)) × (FindsAt s (t.word l) m × Reaches t s c l h)

  walk_allowed : (c : C) (h : Option Hold) (j : ℕ) (l : L) (n : ℕ) (l' : L) (m' : ℕ) → GoesTo t s c h j l n l' m' → (view : Option (Seat C L)) → ComesFrom t s c l h (part_before (part_of s) view)
      → (id : ℕ) (m : S) (vs : List (Seat C L)) → MeetsRule (AreWords k s) Lock n m vs → HasView id view vs → Gets view id (performed (operation_by (t.act c l' h)) m') m vs (Sits c h l' m')
  walk_allowed c h zero l n l' m' goes view comes id m vs meets at =
      let (u, going, (is, finds)) = step_here view c l h comes id n m vs meets at in
      let rests = subst (λ x. rests_at s x ≡ true) (sym is) (d.goes c l h (part_before (part_of s) view) n comes) in
      subst (λ (x : L × ℕ). Gets view id (performed (operation_by (t.act c x.0 h)) x.1) m vs (Sits c h x.0 x.1)) (λ i. (sym goes.0 i, sym goes.1 i)) (u, going, ((is, rests), (finds, reaches c l h _ comes)))
  walk_allowed c h (suc j) l n l' m' (i, to, rest) view comes id m vs meets at =
      let (u, going, (is, finds)) = step_here view c l h comes id n m vs meets at in
      let n₁ = performed (operation_by (t.act c l h)) n in let now : Seat C L = Calling c i h in
      let sits : u ≡ now = is ∙ ap (seat_after c h) to in
      let rests : rests_at s now ≡ true = subst (λ x. rests_at s (seat_after c h x) ≡ true) to (d.goes c l h (part_before (part_of s) view) n comes) in
      let meets₁ : MeetsRule (AreWords k s) Lock n₁ m (cell.after id view vs now) = subst (λ x. MeetsRule (AreWords k s) Lock n₁ m (cell.after id view vs x)) sits (met s.shares _ _ _ _ going) in
      let (w, on, so) = walk_allowed c h j i n₁ l' m' rest (Some now) (inl (some_part k t s d opening (s.part c i h) rests)) (place id view vs) m (cell.after id view vs now) meets₁ (stands_then id view vs now at) in
      let n₂ = performed (operation_by (t.act c l' h)) m' in
      (w, going_of s.shares _ _ _ _ (subst (λ us. MeetsRule (AreWords k s) Lock n₂ m us) (after_then id view vs now w) (met s.shares _ _ _ _ on)), so)

  -- a call that only begins
  only_begins : (c : C) (h : Option Hold) → s.part c (t.start c h) h ≡ Some (part_of s (resting h)) → (view : Option (Seat C L)) → seat_now view ≡ resting h
      → (id n : ℕ) (m : S) (vs : List (Seat C L)) → MeetsRule (AreWords k s) Lock n m vs → HasView id view vs → Gets view id n m vs (Lands t s c h None)
  only_begins c h part view is id n m vs meets at =
      let (plain, room, order, is_lock, n_is, m_is) = meets.0.0 in let u : Seat C L = Calling c (t.start c h) h in let p : ℕ = number_of (part_of s) id view vs in
      let same : part_before (part_of s) view ≡ part_of s u = part_now k t s d opening view ∙ ap (part_of s) is ∙ sym (ap (λ o. unwrap_or o idle) part) in
      let has : HasPart plain p (part_of s u) = subst (HasPart plain p) same (own_part (part_of s) id view vs plain at is_lock) in
      let is' = lock_after (part_of s) id view vs u plain None at order is_lock tt (ap (entries_of_part p) same) has.1 in
      (u, going_of s.shares _ (use_at s u) _ _ (((plain, room, order, is', n_is, m_is), meets.0.1), d.fits (cell.after id view vs u) plain room order is'), ((refl, ap is_some part), tt))

  module _ (c : ℕ → C) (h : Option Hold) (last : ℕ → Option (L × ℕ)) (old new : ℕ) (fuses : FusesBy t s c h last old new) (may : (n : ℕ) → (t.asks (c n) h).begins h ≡ true) where
    abbrev f : ℕ → ℕ
    f n = if n == old then new else n

    abbrev comes : ℕ → Seat C L → Type 0
    comes n u = Lands t s (c n) h (last n) u

    abbrev says : Says t s
    says = leap t s (λ n. Some (c n)) last h

    moves : Moving k t s d opening (Some (resting h)) (on_place k 0 f) comes says
    moves w value u so = let n = number w in
        let (own, outs, course, all, fine, w', value', leads, came, words) = leaps_resting (c n) h (may n) (last n) w value (f n) (fuses.1 n) in
        (own, outs, (so, course), all, fine, w', value', leads ∙ ap (world w' value') (sym so.0.0), came, words)

    allows : (view : Option (Seat C L)) → seat_now view ≡ resting h → AllowsTo (AreWords k s) Lock view None (on_place k 0 f) comes
    allows view is id n m vs meets at small = by (last n) (f n) (fuses.1 n)
      where
        by : (o : Option (L × ℕ)) (n' : ℕ) → IsLed t s (c n) h o n n' → Gets view id n' m vs (Lands t s (c n) h o)
        by None n' (same, part) = subst (λ x. Gets view id x m vs (Lands t s (c n) h None)) (sym same) (only_begins (c n) h part view is id n m vs meets at)
        by (Some x) n' (j, goes, same) = subst (λ y. Gets view id y m vs (Lands t s (c n) h (Some x))) (sym same)
            (walk_allowed (c n) h j (t.start (c n) h) n x.0 x.1 goes view (inr (may n, refl, part_now k t s d opening view ∙ ap (part_of s) is)) id m vs meets at)

    pub leaps : (view : Option (Numbered (Seat C L))) (shown : Option V) → seat_now (what view) ≡ resting h → Quiet s (what view)
        → Operates k (Rule k t s d opening) (own_ways k t s d opening) view shown 0 (op.Exchange old new) (Told t s (leap t s (λ n. Some (c n)) last (held_now (seat_now (what view)))) view)
    leaps view shown is quiet =
        subst (λ x. Keeps k t s d opening view shown (on_place k 0 f) (leap t s (λ n. Some (c n)) last x)) (sym (ap held_now is ∙ held_resting C L h))
        (keeps k t s d opening view shown (on_place k 0 f) comes says
        (λ own outs n u said. leaves_quiet (use_of (use_at s) (what view)) (use_at s u) shown own quiet (course_leaves (c n) (next_after t (c n) h (last n)) own outs said.1))
        (moves_now k t s d opening (what view) (on_place k 0 f) comes says (rw is moves)) (allows (what view) is))
