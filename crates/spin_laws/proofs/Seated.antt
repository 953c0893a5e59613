-- A party's seat in a lock of any kind, and what the party's own moves and those of others make of it.
use Rattle.std.proofs.Common.{◌≡◌, ◌≢◌, ℕ, ◌⊎◌, ◌==◌, ◌&&◌, ◌||◌, Bool, true, false, not, Option, Some, None, List, [], ◌∷◌, inl, inr, map, option_map, is_some, slice_get, slice_set, refl, ap, sym, ◌∙◌, subst, arith}
use Rattle.std.proofs.lemmas.Option.{slice_get-map}
use Rattle.spin_step.specs.declared.answer.Answer.{Answer}
use Rattle.spin_step.specs.declared.place.Hold.{Hold}
use Rattle.spin_step.specs.declared.place.Hold.TheVariants as hold
use Rattle.spin_step.specs.declared.place.Seat.{Seat}
use Rattle.spin_step.specs.declared.place.Seat.TheVariants.{Idle, Calling, Holding, Leaked, Gone}
use Rattle.spin_step.specs.declared.schedule.Move.{Move}
use Rattle.spin_step.specs.declared.schedule.Move.TheVariants.{Begin, Step, Weak, Read, Write, Leak, OwnerGet, OwnerSet}
use Rattle.spin_step.specs.declared.stepped.Next.{Next}
use Rattle.spin_step.specs.declared.stepped.Next.TheVariants.{Continue, Answers}
use Rattle.spin_step.specs.Machines.{Machine}
use Rattle.spin_step.specs.Schedules.{State, begun, moves_at, goes_on, refuses, resting, seen_by_owner}
use Rattle.spin_step.specs.Asks.{is_write, is_ticket, is_registered, is_held_some}
use Rattle.spin_step.proofs.Lists.{get-set_same}
use Rattle.spin_world_core.proofs.Lists.{get-set_other}
use Rattle.spin_world_core.specs.Runs.{held_at}
use Rattle.spin_explore.specs.declared.kinds.AnyCall.{AnyCall}
use Rattle.spin_explore.specs.declared.kinds.AnyCall.TheVariants as call
use Rattle.spin_explore.specs.declared.kinds.AnyLock.{AnyLock}
use Rattle.spin_explore.specs.declared.kinds.AnyLock.TheVariants as any
use Rattle.spin_explore.specs.declared.lock_order.Part.{Part}
use Rattle.spin_explore.specs.declared.lock_order.Part.TheVariants as part
use Rattle.spin_explore.specs.Kinds.{narrow, act_if, any_act, any_in_call}
use Rattle.spin_explore.specs.Orders.{takes, gives, is_part, leaks}
use Rattle.spin_explore.specs.Programs.{Reached, is_over}
use Rattle.spin_explore.specs.Worlds.{is_calling, world_rules}

-- the seat of a party in a lock of any kind, without the point of its call
abbrev pub Sat : Type 0
Sat = Seat AnyCall (Unit {0})

abbrev pub seat_as : {C L : Type 0} → (C → AnyCall) → Option (Seat C L) → Option Sat
seat_as wrap (Some (Calling c l h)) = Some (Calling (wrap c) tt h)
seat_as wrap (Some (Holding h)) = Some (Holding h)
seat_as wrap (Some (Leaked h)) = Some (Leaked h)
seat_as wrap (Some (Gone h)) = Some (Gone h)
seat_as wrap (Some Idle) = Some Idle
seat_as wrap None = None

abbrev pub any_seat : AnyLock → ℕ → Option Sat
any_seat (any.Flag x) p = seat_as call.Flag (slice_get x.state.seats p)
any_seat (any.Ticket x) p = seat_as call.Ticket (slice_get x.state.seats p)
any_seat (any.Fair x) p = seat_as call.Fair (slice_get x.state.seats p)
any_seat (any.Rw x) p = seat_as call.Rw (slice_get x.state.seats p)
any_seat (any.Once x) p = seat_as call.Once (slice_get x.state.seats p)
any_seat (any.Barrier x) p = seat_as call.Barrier (slice_get x.state.seats p)

-- a party may hold this of a lock of this kind
abbrev pub any_fits : AnyLock → Hold → Bool
any_fits (any.Flag x) h = is_write h
any_fits (any.Ticket x) h = is_ticket h
any_fits (any.Fair x) h = is_write h || is_registered h
any_fits (any.Rw x) h = is_held_some h
any_fits (any.Once x) h = false
any_fits (any.Barrier x) h = false

abbrev pub is_unleaked : {C L : Type 0} → Option (Seat C L) → Bool
is_unleaked (Some (Leaked h)) = false
is_unleaked (Some (Gone h)) = false
is_unleaked _ = true

abbrev pub is_begin : Move AnyCall ℕ → Bool
is_begin (Begin c) = true
is_begin _ = false

abbrev pub part_of : Hold → Part
part_of h = elim h [ hold.Starver ↦ part.Starver | _ ↦ part.Hold ]

-- what a party that held this may have had is no other part, and the call does not give it back
abbrev pub stays : AnyCall → Option Hold → Part → Bool
stays c None p = false
stays c (Some h) p = is_part (Some (part_of h)) p && not (is_part (gives (Begin c)) p)

-- there is none, or it passes the test
abbrev pub pass_some : {X : Type 0} → (X → Bool) → Option X → Bool
pass_some test None = true
pass_some test (Some x) = test x

module _ (fits : Hold → Bool) where
  abbrev pub fits_held : Option Hold → Bool
  fits_held None = true
  fits_held (Some h) = fits h

  -- what a party that held h holds after the call c is what the call takes, or what stays of h
  abbrev pub covers : AnyCall → Option Hold → Option Hold → Bool
  covers c h None = true
  covers c h (Some g) = fits g && (is_part (takes (Begin c)) (part_of g) || stays c h (part_of g))

  abbrev pub covers_next : {L A : Type 0} → AnyCall → Option Hold → Next L A → Bool
  covers_next c h (Continue l) = true
  covers_next c h (Answers a after) = covers c h after

  abbrev pub covers_some : {L A : Type 0} → AnyCall → Option Hold → Option (Next L A) → Bool
  covers_some c h next = pass_some (covers_next c h) next

  -- the party has leaked nothing, and what it holds fits
  abbrev pub fit_seat : Option Sat → Bool
  fit_seat (Some (Calling c l h)) = fits_held h
  fit_seat (Some (Holding h)) = fits h
  fit_seat (Some (Leaked h)) = false
  fit_seat (Some (Gone h)) = false
  fit_seat _ = true

  -- what a party holds beside a line of its own is not what the line gives back
  abbrev pub keeps_all : Move AnyCall ℕ → Option Sat → Bool
  keeps_all action (Some (Holding h)) = not (is_part (gives action) (part_of h))
  keeps_all action _ = true

  -- What a party's own move makes of its seat. In a call, the call is answered or goes on; else the move begins a call or
  -- leaves the seat as it is.
  abbrev pub Acts : Option Sat → Move AnyCall ℕ → Reached ℕ → Option Sat → Type 0
  Acts (Some (Calling c l h)) action o to =
      ((after : Option Hold) × (to ≡ Some (resting after)) × (covers c h after ≡ true) × (is_over true o ≡ true))
      ⊎ ((to ≡ Some (Calling c l h)) × (is_over true o ≡ false))
  Acts seat action o to =
      ((c : AnyCall) × (action ≡ Begin c) × (to ≡ Some (Calling c tt (held_at seat))) × (is_over false o ≡ false))
      ⊎ ((to ≡ seat) × (is_over false o ≡ true) × (keeps_all action seat ≡ true))

-- in a call a party makes only steps
abbrev pub is_due : Bool → Move AnyCall ℕ → Bool
is_due true Step = true
is_due true Weak = true
is_due true _ = false
is_due false action = true

seat_resting : {C : Type 0} (L : Type 0) (wrap : C → AnyCall) (after : Option Hold) → seat_as {C = C} {L = L} wrap (Some (resting after)) ≡ Some (resting after)
seat_resting L wrap None = refl
seat_resting L wrap (Some h) = refl

same_seen : {C L : Type 0} (o : Option (Seat C L)) → is_unleaked o ≡ true → option_map seen_by_owner o ≡ o
same_seen None is = refl
same_seen (Some Idle) is = refl
same_seen (Some (Calling c l h)) is = refl
same_seen (Some (Holding h)) is = refl
same_seen (Some (Leaked h)) is = absurd (grind (arith, is))
same_seen (Some (Gone h)) is = absurd (grind (arith, is))

-- the owner leaves the seat of a party that has leaked nothing
owner_leaves : {C L : Type 0} (seats : List (Seat C L)) (q : ℕ) → is_unleaked (slice_get seats q) ≡ true → slice_get (map seen_by_owner seats) q ≡ slice_get seats q
owner_leaves seats q is = slice_get-map seen_by_owner seats q ∙ same_seen (slice_get seats q) is

module _ {W C L : Type 0} (m : Machine W ℕ C L (Answer ℕ)) (s : State W ℕ C L) (p : ℕ) where
  abbrev next_seats : Move C ℕ → Option (Seat C L) → List (Seat C L)
  next_seats move o = (moves_at m s p move o).next.seats

  -- another party's seat stays
  pub beside : (q : ℕ) → q ≢ p → is_unleaked (slice_get s.seats q) ≡ true → (move : Move C ℕ) (o : Option (Seat C L)) → slice_get (next_seats move o) q ≡ slice_get s.seats q
  beside q other is move None = refl
  beside q other is move (Some seat) =
      let leaves : (x : Seat C L) → slice_get (slice_set s.seats p x) q ≡ slice_get s.seats q = λ x. get-set_other s.seats p q x (λ same. other (sym same)) in
      grind (arith, leaves, owner_leaves s.seats q is)

  module _ (fits : Hold → Bool) (of : AnyCall → Option C) (wrap : C → AnyCall) (inverse : (a : AnyCall) (c : C) → of a ≡ Some c → wrap c ≡ a)
      (begins : (c : C) (h : Hold) → fits h ≡ true → m.begin c (Some h) ≡ None → is_part (gives (Begin (wrap c))) (part_of h) ≡ false)
    where
      abbrev Result : Move AnyCall ℕ → Move C ℕ → Option (Seat C L) → Option (Seat C L) → Type 0
      Result action move was o = Acts fits (seat_as wrap was) action (moves_at m s p move o).outcome (seat_as wrap (slice_get (next_seats move o) p))

      -- a call goes on or is answered
      goes : (c : C) (l : L) (h : Option Hold) (action : Move AnyCall ℕ) (t : State W ℕ C L) (next : Next L (Answer ℕ)) → slice_get t.seats p ≡ Some (Calling c l h) → covers_next fits (wrap c) h next ≡ true
          → Acts fits (Some (Calling (wrap c) tt h)) action (goes_on t p c h next).outcome (seat_as wrap (slice_get (goes_on t p c h next).next.seats p))
      goes c l h action t (Continue i) at covered = inr (ap (seat_as wrap) (get-set_same t.seats p (Calling c i h) _ at), refl)
      goes c l h action t (Answers a after) at covered =
          inl (after, ap (seat_as wrap) (get-set_same t.seats p (resting after) _ at) ∙ seat_resting L wrap after, covered, refl)

      module _ (c : C) (l : L) (h : Option Hold) (at : slice_get s.seats p ≡ Some (Calling c l h)) where
        refuses_so : (action : Move AnyCall ℕ) (next : Option (Next L (Answer ℕ))) → covers_some fits (wrap c) h next ≡ true
            → Acts fits (Some (Calling (wrap c) tt h)) action (refuses {A = Answer ℕ} s p c h next).outcome (seat_as wrap (slice_get (refuses {A = Answer ℕ} s p c h next).next.seats p))
        refuses_so action None covered = inr (ap (seat_as wrap) at, refl)
        refuses_so action (Some next) covered = goes c l h action s next at covered

        called : (action : Move AnyCall ℕ) (move : Move C ℕ) → narrow of action ≡ Some move → is_due true action ≡ true
            → covers_next fits (wrap c) h (m.step s.words s.value c l h).next ≡ true → covers_some fits (wrap c) h (m.refuse c l h) ≡ true
            → Result action move (Some (Calling c l h)) (Some (Calling c l h))
        called Step move is due steps refused =
            subst (λ z. Result Step z (Some (Calling c l h)) (Some (Calling c l h))) (let e : Step ≡ move = cc (is) in e) (goes c l h Step _ (m.step s.words s.value c l h).next at steps)
        called Weak move is due steps refused =
            subst (λ z. Result Weak z (Some (Calling c l h)) (Some (Calling c l h))) (let e : Weak ≡ move = cc (is) in e) (refuses_so Weak (m.refuse c l h) refused)
        called action move is due steps refused = absurd (grind (arith, due))

      -- a move that begins a call, of an idle party and of a party that holds something

      begun_by : (action : Move AnyCall ℕ) (a : AnyCall) (c : C) → action ≡ Begin a → wrap c ≡ a → (y : Seat C L) → slice_get s.seats p ≡ Some y → (h : Option Hold) → (z : Option L) → is_some z ≡ true
          → ((d : AnyCall) × (action ≡ Begin d) × (seat_as wrap (slice_get (begun {A = Answer ℕ} s p c h z).next.seats p) ≡ Some (Calling d tt h)) × (is_over false (begun {A = Answer ℕ} s p c h z).outcome ≡ false))
      begun_by action a c begins is y at h None some = absurd (grind (arith, some))
      begun_by action a c begins is y at h (Some l) some =
          (a, begins, ap (seat_as wrap) (get-set_same s.seats p (Calling c l h) y at) ∙ ap (λ b. Some (Calling b tt h)) is, refl)

      idle_begins : (a : AnyCall) (c : C) → wrap c ≡ a → slice_get s.seats p ≡ Some Idle → (z : Option L) → m.begin c None ≡ z → Result (Begin a) (Begin c) (Some Idle) (Some Idle)
      idle_begins a c is at None e =
          subst (λ z. Acts fits (Some Idle) (Begin a) (begun {A = Answer ℕ} s p c None z).outcome (seat_as wrap (slice_get (begun {A = Answer ℕ} s p c None z).next.seats p))) (sym e)
          (inr (ap (seat_as wrap) at, refl, refl))
      idle_begins a c is at (Some l) e =
          subst (λ z. Acts fits (Some Idle) (Begin a) (begun {A = Answer ℕ} s p c None z).outcome (seat_as wrap (slice_get (begun {A = Answer ℕ} s p c None z).next.seats p))) (sym e)
          (inl (begun_by (Begin a) a c refl is Idle at None (Some l) refl))

      holder_begins : (a : AnyCall) (c : C) → wrap c ≡ a → (h : Hold) → fits h ≡ true → slice_get s.seats p ≡ Some (Holding h) → (z : Option L) → m.begin c (Some h) ≡ z
          → Result (Begin a) (Begin c) (Some (Holding h)) (Some (Holding h))
      holder_begins a c is h fit at None e =
          let kept : is_part (gives (Begin a)) (part_of h) ≡ false = subst (λ b. is_part (gives (Begin b)) (part_of h) ≡ false) is (begins c h fit e) in
          subst (λ z. Acts fits (Some (Holding h)) (Begin a) (begun {A = Answer ℕ} s p c (Some h) z).outcome (seat_as wrap (slice_get (begun {A = Answer ℕ} s p c (Some h) z).next.seats p))) (sym e)
          (inr (ap (seat_as wrap) at, refl, ap not kept))
      holder_begins a c is h fit at (Some l) e =
          subst (λ z. Acts fits (Some (Holding h)) (Begin a) (begun {A = Answer ℕ} s p c (Some h) z).outcome (seat_as wrap (slice_get (begun {A = Answer ℕ} s p c (Some h) z).next.seats p))) (sym e)
          (inl (begun_by (Begin a) a c refl is (Holding h) at (Some h) (Some l) refl))

      -- any other move

      abbrev Quiet : Move AnyCall ℕ → Move C ℕ → Seat C L → Type 0
      Quiet action move y =
          (slice_get (next_seats move (Some y)) p ≡ Some y) × (is_over false (moves_at m s p move (Some y)).outcome ≡ true) × (keeps_all fits action (seat_as wrap (Some y)) ≡ true)

      quiet : (action : Move AnyCall ℕ) (move : Move C ℕ) (y : Seat C L) → slice_get s.seats p ≡ Some y → is_begin action ≡ false → leaks action ≡ false → narrow of action ≡ Some move
          → is_calling (Some y) ≡ false → is_unleaked (Some y) ≡ true → Quiet action move y
      quiet (Begin a) move y at b k is out ok = absurd (grind (arith, b))
      quiet Step move y at b k is out ok = grind (arith, is, out, at)
      quiet Weak move y at b k is out ok = grind (arith, is, out, at)
      quiet Read move y at b k is out ok = grind (arith, is, out, at, ok)
      quiet (Write v) move y at b k is out ok = grind (arith, is, out, at, ok)
      quiet Leak move y at b k is out ok = absurd (grind (arith, k))
      quiet OwnerGet move y at b k is out ok = let stays = owner_leaves s.seats p (grind (arith, at, ok)) in grind (arith, is, out, at, stays)
      quiet (OwnerSet v) move y at b k is out ok = let stays = owner_leaves s.seats p (grind (arith, at, ok)) in grind (arith, is, out, at, stays)

      -- the party holds what fits, and its next step and its next refusal leave it what is covered
      record Ready (o : Option (Seat C L)) : Type 0 where
        ok : is_unleaked o ≡ true
        holds : (h : Hold) → o ≡ Some (Holding h) → fits h ≡ true
        steps : (c : C) (l : L) (h : Option Hold) → o ≡ Some (Calling c l h) → covers_next fits (wrap c) h (m.step s.words s.value c l h).next ≡ true
        refusals : (c : C) (l : L) (h : Option Hold) → o ≡ Some (Calling c l h) → covers_some fits (wrap c) h (m.refuse c l h) ≡ true

      begins_at : (a : AnyCall) (move : Move C ℕ) (P : Move C ℕ → Type 0) → narrow of (Begin a) ≡ Some move → ((c : C) → wrap c ≡ a → P (Begin c)) → (z : Option C) → of a ≡ z → P move
      begins_at a move P is each None e = absurd (grind (arith, is, e))
      begins_at a move P is each (Some c) e = subst P (let same : Begin c ≡ move = grind (arith, is, e) in same) (each c (inverse a c e))

      acted_at : (o : Option (Seat C L)) → slice_get s.seats p ≡ o → (action : Move AnyCall ℕ) (move : Move C ℕ) → narrow of action ≡ Some move → leaks action ≡ false → is_due (is_calling o) action ≡ true → Ready o → Result action move o o
      acted_at None at action move is k due ready = inr (ap (seat_as wrap) at, refl, refl)
      acted_at (Some (Calling c l h)) at action move is k due ready = called c l h at action move is due (ready.steps c l h refl) (ready.refusals c l h refl)
      acted_at (Some (Leaked h)) at action move is k due ready = absurd (grind (arith, ready.ok))
      acted_at (Some (Gone h)) at action move is k due ready = absurd (grind (arith, ready.ok))
      acted_at (Some Idle) at (Begin a) move is k due ready =
          begins_at a move (λ z. Result (Begin a) z (Some Idle) (Some Idle)) is (λ c same. idle_begins a c same at (m.begin c None) refl) (of a) refl
      acted_at (Some (Holding h)) at (Begin a) move is k due ready =
          begins_at a move (λ z. Result (Begin a) z (Some (Holding h)) (Some (Holding h))) is (λ c same. holder_begins a c same h (ready.holds h refl) at (m.begin c (Some h)) refl) (of a) refl
      acted_at (Some Idle) at action move is k due ready =
          let q = quiet action move Idle at (grind arith) k is refl refl in inr (ap (seat_as wrap) q.0, q.1, q.2)
      acted_at (Some (Holding h)) at action move is k due ready =
          let q = quiet action move (Holding h) at (grind arith) k is refl refl in inr (ap (seat_as wrap) q.0, q.1, q.2)

      module _ (rows : (c : C) (l : L) (h : Option Hold) → slice_get s.seats p ≡ Some (Calling c l h) → fits_held fits h ≡ true
          → (covers_next fits (wrap c) h (m.step s.words s.value c l h).next ≡ true) × (covers_some fits (wrap c) h (m.refuse c l h) ≡ true))
        where
          ready_of : (o : Option (Seat C L)) → slice_get s.seats p ≡ o → fit_seat fits (seat_as wrap o) ≡ true → Ready o
          ready_of o at fit =
              record {
                ok = grind (arith, fit);
                holds = λ h e. grind (arith, fit, e);
                steps = λ c l h e. (rows c l h (at ∙ e) (grind (arith, fit, e))).0;
                refusals = λ c l h e. (rows c l h (at ∙ e) (grind (arith, fit, e))).1;
              }

          -- the move, if it is one on this kind of lock
          pub acted : (action : Move AnyCall ℕ) (move : Move C ℕ) → narrow of action ≡ Some move → leaks action ≡ false → is_due (is_calling (slice_get s.seats p)) action ≡ true
              → fit_seat fits (seat_as wrap (slice_get s.seats p)) ≡ true
              → Result action move (slice_get s.seats p) (slice_get s.seats p)
          acted action move is k due fit = acted_at (slice_get s.seats p) refl action move is k due (ready_of (slice_get s.seats p) refl fit)
