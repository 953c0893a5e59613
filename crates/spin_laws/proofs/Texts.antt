-- What each party may have in each lock, as its lines say, along a schedule.
use Rattle.std.proofs.Common.{◌≡◌, ◌≢◌, ℕ, zero, suc, ◌+◌, ◌<◌, ◌≤◌, ◌⊎◌, ◌==◌, ◌&&◌, ◌||◌, Bool, true, false, not, cond, Option, Some, None, List, [], ◌∷◌, ◌++◌, inl, inr, ⊎_elim, option_map, length, length-set, slice_get, slice_set, refl, ap, sym, ◌∙◌, subst, arith}
use Rattle.std.proofs.lemmas.Bool.{cases_eq, ne_eqb}
use Rattle.std.proofs.lemmas.List.{length-replicate}
use Rattle.std.proofs.lemmas.Option.{slice_get_within}
use Rattle.std.specs.Prelude.{replicate}
use Rattle.spin_step.specs.declared.place.Hold.{Hold}
use Rattle.spin_step.specs.declared.place.Seat.{Seat}
use Rattle.spin_step.specs.declared.place.Seat.TheVariants.{Idle, Calling, Holding, Leaked, Gone}
use Rattle.spin_step.specs.declared.schedule.Move.{Move}
use Rattle.spin_step.specs.declared.schedule.Move.TheVariants.{Begin, Step, Weak}
use Rattle.spin_step.specs.declared.schedule.Outcome.TheVariants as outcome
use Rattle.spin_step.specs.Schedules.{resting}
use Rattle.spin_world_core.specs.Runs.{held_at}
use Rattle.spin_world_core.proofs.Lists.{eqb_self, get-replicate}
use Rattle.spin_explore.specs.declared.entries.Entry.{Entry}
use Rattle.spin_explore.specs.declared.kinds.AnyCall.{AnyCall}
use Rattle.spin_explore.specs.declared.kinds.AnyCall.TheVariants as call
use Rattle.spin_explore.specs.declared.kinds.AnyLock.{AnyLock}
use Rattle.spin_explore.specs.declared.kinds.AnyLock.TheVariants as any
use Rattle.spin_explore.specs.declared.lock_order.Part.{Part}
use Rattle.spin_explore.specs.Kinds.{any_rules, any_act, any_in_call, any_after}
use Rattle.spin_explore.specs.Orders.{takes, gives, is_part, leaks, awaits, HasNoEndless}
use Rattle.spin_explore.specs.Programs.{Reached, Stage, turn, is_weak, due, is_over, noted, is_in_call, in_call_of, acted_on, moved_on, made, made_for, with_move, call_for, leads, stage_after, IsDue, Follows, first_stage, part}
use Rattle.spin_explore.specs.Worlds.{is_calling}
use Rattle.spin_explore.proofs.AnyKind.{any_are_rules}
use Rattle.spin_explore.proofs.Parts.{plays_each}
use Rattle.spin_explore.proofs.Alone.{set_at}
use Rattle.spin_explore.proofs.Settle.{set_beside}
use Rattle.spin_explore.proofs.Halts.{to_joined, follows_joined}
use Rattle.spin_laws.specs.AnyLocks.{Moves}
use Rattle.spin_laws.specs.Texts.{unused, is_of_kind, IsText, start}
use Rattle.spin_laws.proofs.Lines.{Line, Gots, next_has, has_by, in_turn, first_in_turn, IsNext, next_of, Noted, noted_here, turn_beside, has_beside, next_beside}
use Rattle.spin_laws.proofs.Seated.{Sat, seat_as, any_seat, any_fits, part_of, stays, fits_held, covers, fit_seat, keeps_all, Acts, is_due, is_unleaked}
use Rattle.spin_laws.proofs.AnyKinds.{call_of, any_acted, any_beside, same_fits, fits_after, any_calls}

module _ (fits : Hold → Bool) (has : Part → Bool) where
  abbrev pub has_held : Option Hold → Bool
  has_held None = true
  has_held (Some h) = fits h && has (part_of h)

  -- The party has in the lock k what its lines that are over leave to it. If it is in a call of the lock, this is the call of its next
  -- line, and what it held before the call is so.
  abbrev pub Covered : ℕ → Option (ℕ × Line) → Option Sat → Type 0
  Covered k next (Some (Calling c l h)) = (i : ℕ) × (e : Line) × (next ≡ Some (i, e)) × (e.lock ≡ k) × (e.action ≡ Begin c) × (has_held h ≡ true)
  Covered k next (Some (Holding h)) = has_held (Some h) ≡ true
  Covered k next (Some (Leaked h)) = ⊥
  Covered k next (Some (Gone h)) = ⊥
  Covered k next _ = Unit {0}

pub covered_fits : (fits : Hold → Bool) (has : Part → Bool) (k : ℕ) (next : Option (ℕ × Line)) (seat : Option Sat) → Covered fits has k next seat → fit_seat fits seat ≡ true
covered_fits fits has k next None is = refl
covered_fits fits has k next (Some Idle) is = refl
covered_fits fits has k next (Some (Calling c l None)) is = refl
covered_fits fits has k next (Some (Calling c l (Some h))) is = grind (arith, is.5)
covered_fits fits has k next (Some (Holding h)) is = grind (arith, is)
covered_fits fits has k next (Some (Leaked h)) is = absurd is
covered_fits fits has k next (Some (Gone h)) is = absurd is

pub covered_unleaked : (fits : Hold → Bool) (has : Part → Bool) (k : ℕ) (next : Option (ℕ × Line)) (seat : Option Sat) → Covered fits has k next seat → is_unleaked seat ≡ true
covered_unleaked fits has k next None is = refl
covered_unleaked fits has k next (Some Idle) is = refl
covered_unleaked fits has k next (Some (Calling c l h)) is = refl
covered_unleaked fits has k next (Some (Holding h)) is = refl
covered_unleaked fits has k next (Some (Leaked h)) is = absurd is
covered_unleaked fits has k next (Some (Gone h)) is = absurd is

abbrev has_part : Option Hold → Part → Bool
has_part None q = false
has_part (Some h) q = is_part (Some (part_of h)) q

same_part_is : (a b : Part) → is_part (Some a) b ≡ true → a ≡ b
same_part_is a b is = grind (arith, is)

next_is : (e : Line) (c : AnyCall) (k : ℕ) (q : Part) (b : Bool) → e.action ≡ Begin c → (e.lock == k) ≡ true → next_has e k q b ≡ ((b && not (is_part (gives (Begin c)) q)) || is_part (takes (Begin c)) q)
next_is e c k q b begun here =
    ap (λ (a : Move AnyCall ℕ). (b && not ((e.lock == k) && is_part (gives a) q)) || ((e.lock == k) && is_part (takes a) q)) begun
    ∙ ap (λ l. (b && not (l && is_part (gives (Begin c)) q)) || (l && is_part (takes (Begin c)) q)) here

covers_so : (fit took was gave has : Bool) → (fit && (took || (was && not gave))) ≡ true → (was ≡ true → has ≡ true) → (fit && ((has && not gave) || took)) ≡ true
covers_so false took was gave has covered held = absurd (grind (arith, covered))
covers_so true true was gave has covered held = grind arith
covers_so true false false gave has covered held = absurd (grind (arith, covered))
covers_so true false true gave has covered held = let so = held refl in grind (arith, covered, so)

-- The line e is over. In another lock the party has what it had.
elsewhere : (fits : Hold → Bool) (has had : Part → Bool) (k i : ℕ) (e : Line) (next : Option (ℕ × Line)) (seat : Option Sat) → e.lock ≢ k
    → ((part : Part) → has part ≡ next_has e k part (had part)) → Covered fits had k (Some (i, e)) seat → Covered fits has k next seat
elsewhere fits has had k i e next None apart is was = tt
elsewhere fits has had k i e next (Some Idle) apart is was = tt
elsewhere fits has had k i e next (Some (Calling c l h)) apart is was = absurd (apart (let same : e ≡ was.1 = grind (arith, was.2) in ap (λ (f : Line). f.lock) same ∙ was.3))
elsewhere fits has had k i e next (Some (Holding h)) apart is was = let other = ne_eqb e.lock k apart in grind (arith, is (part_of h), was, other)
elsewhere fits has had k i e next (Some (Leaked h)) apart is was = absurd was
elsewhere fits has had k i e next (Some (Gone h)) apart is was = absurd was

module _ (fits : Hold → Bool) (has had : Part → Bool) (k i : ℕ) (e : Line) (here : e.lock ≡ k) (next : Option (ℕ × Line)) (is : (part : Part) → has part ≡ next_has e k part (had part)) where
  -- an answered call leaves what it covers
  after_call : (c : AnyCall) (h after : Option Hold) → e.action ≡ Begin c → has_held fits had h ≡ true → covers fits c h after ≡ true → Covered fits has k next (Some (resting after))
  after_call c h None begun was covered = tt
  after_call c h (Some g) begun was covered =
      let same = ap (λ l. l == k) here ∙ eqb_self k in
      ap (λ b. fits g && b) (is (part_of g) ∙ next_is e c k (part_of g) (had (part_of g)) begun same)
      ∙ covers_so (fits g) (is_part (takes (Begin c)) (part_of g)) (has_part h (part_of g)) (is_part (gives (Begin c)) (part_of g)) (had (part_of g)) (covers_is c h g ∙ covered) (λ some. held_so h (part_of g) was some)
    where
      covers_is : (c : AnyCall) (h : Option Hold) (g : Hold) → (fits g && (is_part (takes (Begin c)) (part_of g) || (has_part h (part_of g) && not (is_part (gives (Begin c)) (part_of g))))) ≡ covers fits c h (Some g)
      covers_is c None g = refl
      covers_is c (Some f) g = refl

      held_so : (h : Option Hold) (q : Part) → has_held fits had h ≡ true → has_part h q ≡ true → had q ≡ true
      held_so None q was some = absurd (grind (arith, some))
      held_so (Some f) q was some = let one : part_of f ≡ q = same_part_is (part_of f) q some in subst (λ r. had r ≡ true) one (grind (arith, was))

  -- a line that is over at once leaves what it does not give back
  after_rest : (seat : Option Sat) → is_calling seat ≡ false → keeps_all fits e.action seat ≡ true → Covered fits had k (Some (i, e)) seat → Covered fits has k next seat
  after_rest None out keeps was = tt
  after_rest (Some Idle) out keeps was = tt
  after_rest (Some (Calling c l h)) out keeps was = absurd (grind (arith, out))
  after_rest (Some (Holding h)) out keeps was = let same = ap (λ l. l == k) here ∙ eqb_self k in grind (arith, is (part_of h), keeps, was, same)
  after_rest (Some (Leaked h)) out keeps was = absurd was
  after_rest (Some (Gone h)) out keeps was = absurd was

begun_covered : (fits : Hold → Bool) (has : Part → Bool) (k i : ℕ) (e : Line) (c : AnyCall) (seat : Option Sat) → e.lock ≡ k → e.action ≡ Begin c → is_calling seat ≡ false
    → Covered fits has k (Some (i, e)) seat → Covered fits has k (Some (i, e)) (Some (Calling c tt (held_at seat)))
begun_covered fits has k i e c None here begun out was = (i, e, refl, here, begun, refl)
begun_covered fits has k i e c (Some Idle) here begun out was = (i, e, refl, here, begun, refl)
begun_covered fits has k i e c (Some (Calling d l h)) here begun out was = absurd (grind (arith, out))
begun_covered fits has k i e c (Some (Holding h)) here begun out was = (i, e, refl, here, begun, was)
begun_covered fits has k i e c (Some (Leaked h)) here begun out was = absurd was
begun_covered fits has k i e c (Some (Gone h)) here begun out was = absurd was

-- the same for what is the same
covered_by : (fits fits' : Hold → Bool) (has has' : Part → Bool) (k : ℕ) (next next' : Option (ℕ × Line)) (seat : Option Sat) → ((h : Hold) → fits' h ≡ fits h) → ((part : Part) → has' part ≡ has part) → next' ≡ next
    → Covered fits has k next seat → Covered fits' has' k next' seat
covered_by fits fits' has has' k next next' None f h same was = tt
covered_by fits fits' has has' k next next' (Some Idle) f h same was = tt
covered_by fits fits' has has' k next next' (Some (Calling c l None)) f h same was = (was.0, was.1, same ∙ was.2, was.3, was.4, refl)
covered_by fits fits' has has' k next next' (Some (Calling c l (Some g))) f h same was = (was.0, was.1, same ∙ was.2, was.3, was.4, grind (arith, f g, h (part_of g), was.5))
covered_by fits fits' has has' k next next' (Some (Holding g)) f h same was = grind (arith, f g, h (part_of g), was)
covered_by fits fits' has has' k next next' (Some (Leaked g)) f h same was = absurd was
covered_by fits fits' has has' k next next' (Some (Gone g)) f h same was = absurd was

-- outside a call
rest_acts : (fits : Hold → Bool) (seat : Option Sat) (action : Move AnyCall ℕ) (o : Reached ℕ) (to : Option Sat) → is_calling seat ≡ false → Acts fits seat action o to
    → ((c : AnyCall) × (action ≡ Begin c) × (to ≡ Some (Calling c tt (held_at seat))) × (is_over false o ≡ false))
    ⊎ ((to ≡ seat) × (is_over false o ≡ true) × (keeps_all fits action seat ≡ true))
rest_acts fits None action o to out acts = acts
rest_acts fits (Some Idle) action o to out acts = acts
rest_acts fits (Some (Calling c l h)) action o to out acts = absurd (grind (arith, out))
rest_acts fits (Some (Holding h)) action o to out acts = acts
rest_acts fits (Some (Leaked h)) action o to out acts = acts
rest_acts fits (Some (Gone h)) action o to out acts = acts

-- a step is a move on each kind of lock
step_of_kind : (one : AnyLock) (w : Bool) → is_of_kind one (cond w Weak Step) ≡ true
step_of_kind (any.Flag x) true = refl
step_of_kind (any.Flag x) false = refl
step_of_kind (any.Ticket x) true = refl
step_of_kind (any.Ticket x) false = refl
step_of_kind (any.Fair x) true = refl
step_of_kind (any.Fair x) false = refl
step_of_kind (any.Rw x) true = refl
step_of_kind (any.Rw x) false = refl
step_of_kind (any.Once x) true = refl
step_of_kind (any.Once x) false = refl
step_of_kind (any.Barrier x) true = refl
step_of_kind (any.Barrier x) false = refl

-- The move that a line makes next is a move of this kind, leaks nothing, and is a step in a call. Outside a call it is the line's own.
record Next (one : AnyLock) (in_call : Bool) (asked action : Move AnyCall ℕ) : Type 0 where
  kind : is_of_kind one action ≡ true
  keeps : leaks action ≡ false
  is_due_now : is_due in_call action ≡ true
  own : in_call ≡ false → action ≡ asked

own_if_not : (b : Bool) (asked action : Move AnyCall ℕ) → cond b None (Some asked) ≡ Some action → asked ≡ action
own_if_not true asked action is = absurd (grind (arith, is))
own_if_not false asked action is = cc (is)

own_if : (b : Bool) (asked action : Move AnyCall ℕ) → cond b (Some asked) None ≡ Some action → asked ≡ action
own_if true asked action is = cc (is)
own_if false asked action is = absurd (grind (arith, is))

due_own : (w : Bool) (asked action : Move AnyCall ℕ) → due false w asked ≡ Some action → asked ≡ action
due_own true asked action is = own_if (is_weak asked) asked action is
due_own false asked action is = own_if_not (is_weak asked) asked action is

next_by : (one : AnyLock) (in_call w : Bool) (asked action : Move AnyCall ℕ) → is_of_kind one asked ≡ true → leaks asked ≡ false → due in_call w asked ≡ Some action → Next one in_call asked action
next_by one true true asked action kind keeps is =
    subst (Next one true asked) (let same : Weak ≡ action = cc (is) in same) (record { kind = step_of_kind one true; keeps = refl; is_due_now = refl; own = λ out. absurd (grind (arith, out)) })
next_by one true false asked action kind keeps is =
    subst (Next one true asked) (let same : Step ≡ action = cc (is) in same) (record { kind = step_of_kind one false; keeps = refl; is_due_now = refl; own = λ out. absurd (grind (arith, out)) })
next_by one false w asked action kind keeps is =
    subst (Next one false asked) (due_own w asked action is) (record { kind = kind; keeps = keeps; is_due_now = refl; own = λ out. refl })

acts_of : (n : ℕ) (lock one : AnyLock) (past : Moves) (p : ℕ) (asked action : Move AnyCall ℕ) → lock ≡ any_after (unused n one) past → Next one (any_in_call lock p) asked action → fit_seat (any_fits one) (any_seat lock p) ≡ true
    → Acts (any_fits one) (any_seat lock p) action (any_act lock p action).0 (any_seat (any_act lock p action).1 p)
acts_of n lock one past p asked action is =
    subst (λ l. Next one (any_in_call l p) asked action → fit_seat (any_fits one) (any_seat l p) ≡ true → Acts (any_fits one) (any_seat l p) action (any_act l p action).0 (any_seat (any_act l p action).1 p)) (sym is)
    (λ next fit. any_acted n one past p action next.kind next.keeps next.is_due_now fit)

idle_or_none : {C : Type 0} (L : Type 0) (n : ℕ) (wrap : C → AnyCall) (p : ℕ) → (seat_as {C = C} {L = L} wrap (slice_get (replicate n Idle) p) ≡ None) ⊎ (seat_as {C = C} {L = L} wrap (slice_get (replicate n Idle) p) ≡ Some Idle)
idle_or_none {C = C} L n wrap p =
    get-replicate (λ (o : Option (Seat C L)). (seat_as wrap o ≡ None) ⊎ (seat_as wrap o ≡ Some Idle)) Idle n p (inl refl) (inr refl)

module _ (n : ℕ) (locks : List AnyLock) (lines : List Line) (text : IsText n locks lines) (endless : HasNoEndless lines (length lines)) where
  abbrev pub first : Stage AnyLock ℕ
  first = start n locks lines

  abbrev pub may : Stage AnyLock ℕ → ℕ → ℕ → Part → Bool
  may x p k part = has_by p k part false lines x.got

  abbrev pub next_line : Stage AnyLock ℕ → ℕ → Option (ℕ × Line)
  next_line x p = turn p 0 lines x.got

  -- what holds of the stage after each schedule
  pub record Sound (x : Stage AnyLock ℕ) : Type 0 where
    pub long : length x.got ≡ length lines
    pub turns : (p : ℕ) → in_turn p lines x.got ≡ true
    pub seats : (p k : ℕ) (lock : AnyLock) → slice_get x.locks k ≡ Some lock → Covered (any_fits lock) (may x p k) k (next_line x p) (any_seat lock p)

  -- the lock is one of the text's, after some moves of the n parties
  abbrev pub IsPlayed : ℕ → AnyLock → Type 0
  IsPlayed k lock = (one : AnyLock) × (past : Moves) × (slice_get locks k ≡ Some one) × (lock ≡ any_after (unused n one) past)

  -- One entry of a schedule
  module _ (x : Stage AnyLock ℕ) (sound : Sound x) (played : (k : ℕ) (lock : AnyLock) → slice_get x.locks k ≡ Some lock → IsPlayed k lock)
      (e : Line) (i : ℕ) (line : Line) (next : next_line x e.party ≡ Some (i, line)) (same_lock : line.lock ≡ e.lock)
      (is_its : due (is_in_call any_rules x line.lock line.party) (is_weak e.action) line.action ≡ Some e.action)
    where
      abbrev p : ℕ
      p = e.party

      abbrev y : Stage AnyLock ℕ
      y = made any_rules x i e

      at : IsNext p 0 lines x.got i line
      at = next_of p 0 lines x.got i line next

      there : slice_get lines i ≡ Some line
      there = let same : at.past ≡ i = omega (arith, at.is) in subst (λ j. slice_get lines j ≡ Some line) same at.there

      other_line : (q : ℕ) → q ≢ p → (line.party == q) ≡ false
      other_line q other = ne_eqb line.party q (λ same. other (sym same ∙ at.mine))

      -- what is to be shown of the lock that was moved on
      abbrev Here : AnyLock → Type 0
      Here l =
          ((q : ℕ) → q ≢ p → (was : AnyLock) × (slice_get x.locks e.lock ≡ Some was) × ((h : Hold) → any_fits l h ≡ any_fits was h) × (any_seat l q ≡ any_seat was q))
          × Covered (any_fits l) (may y p e.lock) e.lock (next_line y p) (any_seat l p)

      record Came : Type 0 where
        long : length y.got ≡ length lines
        turns : (q : ℕ) → in_turn q lines y.got ≡ true
        may_other : (q : ℕ) → q ≢ p → (k : ℕ) (part : Part) → may y q k part ≡ may x q k part
        next_other : (q : ℕ) → q ≢ p → next_line y q ≡ next_line x q
        own_else : (k : ℕ) (l : AnyLock) → k ≢ e.lock → slice_get x.locks k ≡ Some l → Covered (any_fits l) (may y p k) k (next_line y p) (any_seat l p)

      assemble : Came → ((k : ℕ) → k ≢ e.lock → slice_get y.locks k ≡ slice_get x.locks k) → ((l : AnyLock) → slice_get y.locks e.lock ≡ Some l → Here l) → Sound y
      assemble came locks_same here =
          record {
            long = came.long;
            turns = came.turns;
            seats = λ q k l is. ⊎_elim (λ (one : k ≡ e.lock). in_it q k l is one) (λ (far : k ≡ e.lock → ⊥). beyond q k l far (sym (locks_same k far) ∙ is)) (cases_eq k e.lock);
          }
        where
          beyond : (q k : ℕ) (l : AnyLock) → k ≢ e.lock → slice_get x.locks k ≡ Some l → Covered (any_fits l) (may y q k) k (next_line y q) (any_seat l q)
          beyond q k l far is =
              ⊎_elim (λ (mine : q ≡ p). subst (λ r. Covered (any_fits l) (may y r k) k (next_line y r) (any_seat l r)) (sym mine) (came.own_else k l far is))
              (λ (other : q ≡ p → ⊥). covered_by (any_fits l) (any_fits l) (may x q k) (may y q k) k (next_line x q) (next_line y q) (any_seat l q) (λ h. refl) (came.may_other q other k) (came.next_other q other) (sound.seats q k l is))
              (cases_eq q p)

          in_it : (q k : ℕ) (l : AnyLock) → slice_get y.locks k ≡ Some l → k ≡ e.lock → Covered (any_fits l) (may y q k) k (next_line y q) (any_seat l q)
          in_it q k l is one =
              let it = here l (ap (slice_get y.locks) (sym one) ∙ is) in
              subst (λ j. Covered (any_fits l) (may y q j) j (next_line y q) (any_seat l q)) (sym one)
              (⊎_elim (λ (mine : q ≡ p). subst (λ r. Covered (any_fits l) (may y r e.lock) e.lock (next_line y r) (any_seat l r)) (sym mine) it.1)
              (λ (other : q ≡ p → ⊥).
              let was = it.0 q other in
              subst (λ z. Covered (any_fits l) (may y q e.lock) e.lock (next_line y q) z) (sym was.3)
              (covered_by (any_fits was.0) (any_fits l) (may x q e.lock) (may y q e.lock) e.lock (next_line x q) (next_line y q) (any_seat was.0 q) was.2 (came.may_other q other e.lock) (came.next_other q other) (sound.seats q e.lock was.0 was.1)))
              (cases_eq q p))

      -- the line goes on
      came_on : y.got ≡ x.got → Came
      came_on got =
          record {
            long = ap length got ∙ sound.long;
            turns = λ q. ap (in_turn q lines) got ∙ sound.turns q;
            may_other = λ q other k part. ap (has_by q k part false lines) got;
            next_other = λ q other. ap (turn q 0 lines) got;
            own_else = λ k l far is. covered_by (any_fits l) (any_fits l) (may x p k) (may y p k) k (next_line x p) (next_line y p) (any_seat l p) (λ h. refl) (λ part. ap (has_by p k part false lines) got) (ap (turn p 0 lines) got) (sound.seats p k l is);
          }

      -- the line is over
      module _ (o : Reached ℕ) (got : y.got ≡ slice_set x.got i (Some o)) where
        noted_now : Noted p 0 lines x.got i line o
        noted_now = noted_here p lines x.got i line o next (sound.turns p)

        has_now : (k : ℕ) (part : Part) → may y p k part ≡ next_has line k part (may x p k part)
        has_now k part = ap (has_by p k part false lines) got ∙ noted_now.1 k part false

        came_over : Came
        came_over =
            record {
              long = ap length got ∙ (length-set x.got i (Some o) ∙ sound.long);
              turns = λ q. ap (in_turn q lines) got
                  ∙ ⊎_elim (λ (mine : q ≡ p). subst (λ r. in_turn r lines (slice_set x.got i (Some o)) ≡ true) (sym mine) noted_now.0)
                  (λ (other : q ≡ p → ⊥). turn_beside q lines x.got i line o there (other_line q other) ∙ sound.turns q) (cases_eq q p);
              may_other = λ q other k part. ap (has_by q k part false lines) got ∙ has_beside q k part false lines x.got i line o there (other_line q other);
              next_other = λ q other. ap (turn q 0 lines) got ∙ next_beside q 0 lines x.got i line o there (other_line q other);
              own_else = λ k l far is.
                  elsewhere (any_fits l) (may y p k) (may x p k) k i line (next_line y p) (any_seat l p) (λ same. far (sym same ∙ same_lock)) (has_now k)
                  (subst (λ z. Covered (any_fits l) (may x p k) k z (any_seat l p)) next (sound.seats p k l is));
            }

      no_leak : leaks line.action ≡ false
      no_leak = let ends = endless i line (slice_get_within lines i line there) there in grind (arith, ends)

      -- the lock does not exist
      missing : slice_get x.locks e.lock ≡ None → Sound y
      missing none =
          let same : y.locks ≡ x.locks = ap (moved_on any_rules x.locks e) none in
          let got : y.got ≡ slice_set x.got i (Some outcome.Skipped) = ap (λ z. noted x.got i (in_call_of any_rules z e.party) (acted_on any_rules e z)) none in
          assemble (came_over outcome.Skipped got) (λ k far. ap (λ ls. slice_get ls k) same)
          (λ l is. absurd (let gone : Some l ≡ None = sym is ∙ (ap (λ ls. slice_get ls e.lock) same ∙ none) in grind (arith, gone)))

      module _ (lock : AnyLock) (here : slice_get x.locks e.lock ≡ Some lock) where
        abbrev did : Reached ℕ × AnyLock
        did = any_act lock p e.action

        locks_are : y.locks ≡ slice_set x.locks e.lock did.1
        locks_are = ap (moved_on any_rules x.locks e) here

        got_is : y.got ≡ noted x.got i (any_in_call lock p) did.0
        got_is = ap (λ z. noted x.got i (in_call_of any_rules z e.party) (acted_on any_rules e z)) here

        far_same : (k : ℕ) → k ≢ e.lock → slice_get y.locks k ≡ slice_get x.locks k
        far_same k far = ap (λ ls. slice_get ls k) locks_are ∙ set_beside x.locks e.lock k did.1 far

        from : IsPlayed e.lock lock
        from = played e.lock lock here

        was : Covered (any_fits lock) (may x p e.lock) e.lock (Some (i, line)) (any_seat lock p)
        was = subst (λ z. Covered (any_fits lock) (may x p e.lock) e.lock z (any_seat lock p)) next (sound.seats p e.lock lock here)

        fits_same : (h : Hold) → any_fits lock h ≡ any_fits from.0 h
        fits_same h = ap (λ l. any_fits l h) from.3 ∙ fits_after n from.0 from.1 h

        was_one : Covered (any_fits from.0) (may x p e.lock) e.lock (Some (i, line)) (any_seat lock p)
        was_one = covered_by (any_fits lock) (any_fits from.0) (may x p e.lock) (may x p e.lock) e.lock (Some (i, line)) (Some (i, line)) (any_seat lock p) (λ h. sym (fits_same h)) (λ part. refl) refl was

        in_call_is : is_in_call any_rules x line.lock line.party ≡ any_in_call lock p
        in_call_is =
            ap (λ k. in_call_of any_rules (slice_get x.locks k) line.party) same_lock ∙ (ap (λ z. in_call_of any_rules z line.party) here ∙ ap (any_in_call lock) at.mine)

        next_move : Next from.0 (any_in_call lock p) line.action e.action
        next_move =
            next_by from.0 (any_in_call lock p) (is_weak e.action) line.action e.action
            (text.kinds i line from.0 there (ap (slice_get locks) same_lock ∙ from.2)) no_leak
            (ap (λ b. due b (is_weak e.action) line.action) (sym in_call_is) ∙ is_its)

        acts : Acts (any_fits from.0) (any_seat lock p) e.action did.0 (any_seat did.1 p)
        acts = acts_of n lock from.0 from.1 p line.action e.action from.3 next_move (covered_fits (any_fits from.0) (may x p e.lock) e.lock (Some (i, line)) (any_seat lock p) was_one)

        -- what the lock moved on is for each party
        here_of : Covered (any_fits from.0) (may y p e.lock) e.lock (next_line y p) (any_seat did.1 p) → (l : AnyLock) → slice_get y.locks e.lock ≡ Some l → Here l
        here_of covered l is =
            let same : did.1 ≡ l = let e = sym (ap (λ ls. slice_get ls e.lock) locks_are ∙ set_at x.locks e.lock lock did.1 here) ∙ is in grind (arith, e) in
            subst Here same (
              λ q other. (lock, here, same_fits lock p e.action, any_beside lock p q e.action other (covered_unleaked (any_fits lock) (may x q e.lock) e.lock (next_line x q) (any_seat lock q) (sound.seats q e.lock lock here))),
              covered_by (any_fits from.0) (any_fits did.1) (may y p e.lock) (may y p e.lock) e.lock (next_line y p) (next_line y p) (any_seat did.1 p) (λ h. same_fits lock p e.action h ∙ fits_same h) (λ part. refl) refl covered,
            )

        module _ (b : Bool) (is_b : any_in_call lock p ≡ b) where
          over_got : is_over b did.0 ≡ true → y.got ≡ slice_set x.got i (Some did.0)
          over_got over = got_is ∙ (ap (λ z. noted x.got i z did.0) is_b ∙ ap (λ z. cond z (slice_set x.got i (Some did.0)) x.got) over)

          on_got : is_over b did.0 ≡ false → y.got ≡ x.got
          on_got more = got_is ∙ (ap (λ z. noted x.got i z did.0) is_b ∙ ap (λ z. cond z (slice_set x.got i (Some did.0)) x.got) more)

        by_call : (b : Bool) → any_in_call lock p ≡ b → Sound y
        by_call true is =
            let c = call_of (any_seat lock p) (any_calls lock p ∙ is) in
            let seat : any_seat lock p ≡ Some (Calling c.0 c.1 c.2) = c.3 in
            let own : Covered (any_fits from.0) (may x p e.lock) e.lock (Some (i, line)) (Some (Calling c.0 c.1 c.2)) = subst (λ z. Covered (any_fits from.0) (may x p e.lock) e.lock (Some (i, line)) z) seat was_one in
            let begun : line.action ≡ Begin c.0 = (let same : line ≡ own.1 = grind (arith, own.2) in ap (λ (f : Line). f.action) same ∙ own.4) in
            ⊎_elim
            (λ (done : (after : Option Hold) × (any_seat did.1 p ≡ Some (resting after)) × (covers (any_fits from.0) c.0 c.2 after ≡ true) × (is_over true did.0 ≡ true)).
            let got = over_got true is done.3 in
            assemble (came_over did.0 got) far_same
            (here_of (subst (λ z. Covered (any_fits from.0) (may y p e.lock) e.lock (next_line y p) z) (sym done.1)
            (after_call (any_fits from.0) (may y p e.lock) (may x p e.lock) e.lock i line same_lock (next_line y p) (has_now did.0 got e.lock) c.0 c.2 done.0 begun own.5 done.2))))
            (λ (on : (any_seat did.1 p ≡ Some (Calling c.0 c.1 c.2)) × (is_over true did.0 ≡ false)).
            let got = on_got true is on.1 in
            assemble (came_on got) far_same
            (here_of (subst (λ z. Covered (any_fits from.0) (may y p e.lock) e.lock (next_line y p) z) (sym on.0)
            (covered_by (any_fits from.0) (any_fits from.0) (may x p e.lock) (may y p e.lock) e.lock (Some (i, line)) (next_line y p) (Some (Calling c.0 c.1 c.2)) (λ h. refl) (λ part. ap (has_by p e.lock part false lines) got) (ap (turn p 0 lines) got ∙ next) own))))
            (subst (λ z. Acts (any_fits from.0) z e.action did.0 (any_seat did.1 p)) seat acts)
        by_call false is =
            let out : is_calling (any_seat lock p) ≡ false = any_calls lock p ∙ is in
            let same : e.action ≡ line.action = next_move.own is in
            ⊎_elim
            (λ (begun : (c : AnyCall) × (e.action ≡ Begin c) × (any_seat did.1 p ≡ Some (Calling c tt (held_at (any_seat lock p)))) × (is_over false did.0 ≡ false)).
            let got = on_got false is begun.3 in
            let now = begun_covered (any_fits from.0) (may x p e.lock) e.lock i line begun.0 (any_seat lock p) same_lock (sym same ∙ begun.1) out was_one in
            assemble (came_on got) far_same
            (here_of (subst (λ z. Covered (any_fits from.0) (may y p e.lock) e.lock (next_line y p) z) (sym begun.2)
            (covered_by (any_fits from.0) (any_fits from.0) (may x p e.lock) (may y p e.lock) e.lock (Some (i, line)) (next_line y p) (Some (Calling begun.0 tt (held_at (any_seat lock p)))) (λ h. refl) (λ part. ap (has_by p e.lock part false lines) got) (ap (turn p 0 lines) got ∙ next) now))))
            (λ (done : (any_seat did.1 p ≡ any_seat lock p) × (is_over false did.0 ≡ true) × (keeps_all (any_fits from.0) e.action (any_seat lock p) ≡ true)).
            let got = over_got false is done.1 in
            let keeps : keeps_all (any_fits from.0) line.action (any_seat lock p) ≡ true = subst (λ a. keeps_all (any_fits from.0) a (any_seat lock p) ≡ true) same done.2 in
            assemble (came_over did.0 got) far_same
            (here_of (subst (λ z. Covered (any_fits from.0) (may y p e.lock) e.lock (next_line y p) z) (sym done.0)
            (after_rest (any_fits from.0) (may y p e.lock) (may x p e.lock) e.lock i line same_lock (next_line y p) (has_now did.0 got e.lock) (any_seat lock p) out keeps was_one))))
            (rest_acts (any_fits from.0) (any_seat lock p) e.action did.0 (any_seat did.1 p) out acts)

      by_lock : (z : Option AnyLock) → slice_get x.locks e.lock ≡ z → Sound y
      by_lock None none = missing none
      by_lock (Some lock) here = by_call lock here (any_in_call lock p) refl

      pub sound_made : Sound y
      sound_made = by_lock (slice_get x.locks e.lock) refl

  -- The line of an entry that is due
  abbrev pub LineOf : Stage AnyLock ℕ → Line → ℕ → Type 0
  LineOf x e i =
      (line : Line) × (next_line x e.party ≡ Some (i, line)) × (line.lock ≡ e.lock)
      × (due (is_in_call any_rules x line.lock line.party) (is_weak e.action) line.action ≡ Some e.action)

  line_by : (x : Stage AnyLock ℕ) (e : Line) (i j : ℕ) (line : Line) → next_line x e.party ≡ Some (j, line) → (d : Option (Move AnyCall ℕ))
      → due (is_in_call any_rules x line.lock line.party) (is_weak e.action) line.action ≡ d → with_move any_rules (j, line) d ≡ Some (i, e) → LineOf x e i
  line_by x e i j line next None is made = absurd (grind (arith, made))
  line_by x e i j line next (Some move) is made =
      let same : j ≡ i = grind (arith, made) in let lock : line.lock ≡ e.lock = grind (arith, made) in let action : move ≡ e.action = grind (arith, made) in
      (line, subst (λ k. next_line x e.party ≡ Some (k, line)) same next, lock, is ∙ ap Some action)

  pub line_at : (x : Stage AnyLock ℕ) (e : Line) (i : ℕ) (o : Option (ℕ × Line)) → next_line x e.party ≡ o → call_for any_rules x (is_weak e.action) o ≡ Some (i, e) → LineOf x e i
  line_at x e i None is call = absurd (grind (arith, call))
  line_at x e i (Some (j, line)) is call = line_by x e i j line is _ refl call

  first_seat : (one : AnyLock) (p : ℕ) → (any_seat (unused n one) p ≡ None) ⊎ (any_seat (unused n one) p ≡ Some Idle)
  first_seat (any.Flag x) p = idle_or_none _ n call.Flag p
  first_seat (any.Ticket x) p = idle_or_none _ n call.Ticket p
  first_seat (any.Fair x) p = idle_or_none _ n call.Fair p
  first_seat (any.Rw x) p = idle_or_none _ n call.Rw p
  first_seat (any.Once x) p = idle_or_none _ n call.Once p
  first_seat (any.Barrier x) p = idle_or_none _ n call.Barrier p

  -- each schedule of the text
  module _ (es : List Line) (follows : Follows any_rules lines n first es) where
    pub played_after : (k : ℕ) (lock : AnyLock) → slice_get (stage_after any_rules lines first es).locks k ≡ Some lock
        → (one : AnyLock) × (slice_get locks k ≡ Some one) × (lock ≡ any_after (unused n one) (part k es))
    played_after k lock is = by (slice_get locks k) refl
      where
        plays : slice_get (stage_after any_rules lines first es).locks k ≡ option_map (λ l. any_after l (part k es)) (slice_get locks k)
        plays = plays_each any_rules any_are_rules lines n first es follows k

        by : (o : Option AnyLock) → slice_get locks k ≡ o → (one : AnyLock) × (slice_get locks k ≡ Some one) × (lock ≡ any_after (unused n one) (part k es))
        by None none = absurd (let gone : Some lock ≡ None = sym is ∙ (plays ∙ ap (option_map (λ l. any_after l (part k es))) none) in grind (arith, gone))
        by (Some one) at =
            let same : lock ≡ any_after one (part k es) = (let both : Some lock ≡ Some (any_after one (part k es)) = sym is ∙ (plays ∙ ap (option_map (λ l. any_after l (part k es))) at) in grind (arith, both)) in
            (one, at, same ∙ ap (λ l. any_after l (part k es)) (text.unused k one at))

    pub there_after : (k : ℕ) (one : AnyLock) → slice_get locks k ≡ Some one → slice_get (stage_after any_rules lines first es).locks k ≡ Some (any_after (unused n one) (part k es))
    there_after k one at =
        plays_each any_rules any_are_rules lines n first es follows k
        ∙ (ap (option_map (λ l. any_after l (part k es))) at ∙ ap (λ l. Some (any_after l (part k es))) (text.unused k one at))

  pub sound_first : Sound first
  sound_first =
      record {
        long = length-replicate (length lines) None;
        turns = λ p. first_in_turn p lines (length lines);
        seats = λ p k lock is.
            ⊎_elim (λ (none : any_seat (unused n lock) p ≡ None). subst (λ z. Covered (any_fits lock) (may first p k) k (next_line first p) z) (sym (ap (λ l. any_seat l p) (text.unused k lock is) ∙ none)) tt)
            (λ (idle : any_seat (unused n lock) p ≡ Some Idle). subst (λ z. Covered (any_fits lock) (may first p k) k (next_line first p) z) (sym (ap (λ l. any_seat l p) (text.unused k lock is) ∙ idle)) tt)
            (first_seat lock p);
      }

  sound_on : (past : List Line) → Follows any_rules lines n first past → (x : Stage AnyLock ℕ) → x ≡ stage_after any_rules lines first past → Sound x
      → (es : List Line) → Follows any_rules lines n x es → Sound (stage_after any_rules lines x es)
  sound_on past before x is sound [] follows = sound
  sound_on past before x is sound (e ∷ es) follows =
      let i = follows.1.0 in let call = follows.1.1 in
      let of = line_at x e i (next_line x e.party) refl call in
      let to : leads any_rules lines x e.party (is_weak e.action) ≡ made any_rules x i e = ap (made_for any_rules x) call in
      let played : (k : ℕ) (lock : AnyLock) → slice_get x.locks k ≡ Some lock → IsPlayed k lock = λ k lock at.
      let it = played_after past before k lock (subst (λ (z : Stage AnyLock ℕ). slice_get z.locks k ≡ Some lock) is at) in (it.0, part k past, it.1, it.2) in
      let more : Sound (leads any_rules lines x e.party (is_weak e.action)) = subst Sound (sym to) (sound_made x sound played e i of.0 of.1 of.2 of.3) in
      let one : Follows any_rules lines n x (e ∷ []) = (follows.0, follows.1, tt) in
      let longer = follows_joined any_rules lines n first past (e ∷ []) before (subst (λ z. Follows any_rules lines n z (e ∷ [])) is one) in
      let there : leads any_rules lines x e.party (is_weak e.action) ≡ stage_after any_rules lines first (past ++ e ∷ []) =
      sym (to_joined any_rules lines n first past (e ∷ []) ∙ ap (λ z. stage_after any_rules lines z (e ∷ [])) (sym is)) in
      sound_on (past ++ e ∷ []) longer (leads any_rules lines x e.party (is_weak e.action)) there more es follows.2

  pub sound_after : (es : List Line) → Follows any_rules lines n first es → Sound (stage_after any_rules lines first es)
  sound_after es follows = sound_on [] tt first refl sound_first es follows
