-- One event keeps all that is promised, for any machine that plays a table (`Plays`).
use Rattle.spin_world_core.proofs.Names.{true, and_parts, slice_get-map, OwnerSet, is_owners, let_go, owner_writes, IsOwners, seat_of, slice_get_within, ◌≡◌, ℕ, ◌≤◌, ◌==◌, Bool, false, Option, Some, None, List, [], ◌∷◌, suc, if◌then◌else◌, slice_get, slice_set, refl, sym, ◌∙◌, subst, arith, ne_eqb, Plain, Ask, Change, apply_some, IsOpenStep, Entries, entries, IsExclusive, entries-other, entries-own, Hold, Seat, Calling, Next, Continue, Answers, Move, Step, Weak, StepKind, is_weak, by_step, encoded, BelongsTo, Mark, Machine, seated, goes_on, placed, resting, may_write, Seen, Scene, scene_at, scene_of, mark_of, own, failures, changes, if_completed, entries_held, StandsFor, writes_value, KeepsPromises, IsRight, IsInTime, UndisturbedTakes, AnsweredSoon, GetsByWay, GetsWhenDue, TriesOn, tries_of, Table, HasPhase}
use Rattle.spin_world_core.specs.Runs.{held_at, InItsCall, InTime, IsCounted, IsWeakCall, OwnSteps, asked, entries_so_far}
use Rattle.spin_step.proofs.Exclusive.{exclusive-kept}
use Rattle.spin_step.specs.declared.schedule.Outcome.TheVariants as outcome
use Rattle.spin_step.specs.StepKinds as step_kind
use Rattle.spin_step.proofs.Lists.{get-set_same}
use Rattle.spin_world_core.proofs.Lists.{get-set, eqb_self}
use Rattle.spin_world_core.proofs.Steps.{Makes, told, played, GoesOnOpen, ContinuesCounted, KnowsAt, Moves, AnswersWithin, AtStep, Plays}
use Rattle.spin_world_core.proofs.Shapes.{Notes, InCall}
use Rattle.spin_world_core.proofs.Paid.{at_step, knows_beside, knows_first}
use Rattle.spin_world_core.proofs.Undisturbed.{RunsOn, GoesWithin, Left, stepped, beside, runs_fresh, soon_by}
use Rattle.spin_world_core.proofs.Events.{LeavesBy, seat_with, OfBegin}
use Rattle.spin_world_core.proofs.Owners.{all-get, yields_at}

-- to show P of every party after the party p takes the seat x, show P of p in this seat, and of the others in their old seats
at_seat : {C L : Type 0} (P : ℕ → Option (Seat C L) → Type 0) (seats : List (Seat C L)) (p : ℕ) (x y : Seat C L) → slice_get seats p ≡ Some y
    → P p (Some x) → ((q : ℕ) → (p ≡ q → ⊥) → P q (slice_get seats q)) → (q : ℕ) → P q (slice_get (slice_set seats p x) q)
at_seat P seats p x y there here away q =
    get-set (P q) seats p q x (slice_get_within seats p y there) (λ e. subst (λ i. P i (Some x)) e here) (away q)

-- If the party's entries are those to which its own steps of the span lead, this also holds after its next step, with
-- this step in the span.
stands_stepped : (s : Plain) (p : ℕ) (step : Option Change) (r : StepKind) (span : List Mark) (e : Entries) → IsOpenStep s p step
    → entries p s ≡ entries_so_far p span e → entries p (apply_some s step) ≡ entries_so_far p (mark_of p step r s ∷ span) e
stands_stepped s p step r span e may stands = grind (arith, entries-own s p step may)

module _ {W V C L A B : Type 0} {t : Table W V C L A} {by : Machine W V C L B} {n : Notes t} (f : Plays by n) where
  abbrev m : Machine W V C L B
  m = played t by

  -- what holds of a party between two events
  pub record OfParty (w : W) (s : Plain) (p : ℕ) (span : List Mark) (o : Option (Seat C L)) : Type 0 where
    pub stands : StandsFor s p span o
    pub knows : KnowsAt n s p span o
    pub retries : failures p span ≤ changes t.lock_kind p span
    pub undisturbed : RunsOn m w p span o

  -- the inductive invariant: what holds between two events
  pub record Invariant (seen : Seen W V C L) : Type 0 where
    pub encodes : t.memory.numbers seen.state.words ≡ encoded t.lock_kind seen.plain
    pub shape : n.Shape seen.plain
    pub phase : HasPhase t.lock_kind.makes_value seen.plain.phase seen.state.value
    pub exclusive : IsExclusive seen.plain
    pub written : seen.state.value ≡ seen.written
    pub parties : (q : ℕ) → OfParty seen.state.words seen.plain q (seen.span q) (seat_of seen q)

  pub standing : {seen : Seen W V C L} (p : ℕ) {y : Seat C L} → Invariant seen → seat_of seen p ≡ Some y → StandsFor seen.plain p (seen.span p) (Some y)
  standing {seen} p good there = grind arith

  -- a party that may write by what it holds or has leaked is a writer in the plain lock
  pub writes_by : {seen : Seen W V C L} (p : ℕ) (b : Bool) (h : Hold) → Invariant seen
      → seat_of seen p ≡ Some (seat_with b h) → may_write h ≡ true → writes_value (entries p seen.plain) ≡ true
  writes_by p b h good there may = grind (arith, standing p good there)

  pub in_call : {seen : Seen W V C L} (p : ℕ) {c : C} {l : L} {h : Option Hold} → Invariant seen → seat_of seen p ≡ Some (Calling c l h)
      → InCall n p c l h seen.plain seen.state.words (seen.span p)
  in_call {seen} p good there = grind arith

  -- what is shown of an event
  pub record Preserved (s : Scene W V C L B) : Type 0 where
    pub keeps : KeepsPromises m s
    pub right : IsRight m s
    pub in_time : IsInTime m s
    pub good : Invariant s.after

  -- what has to be shown of a step of a call and of how the call then goes on; of any other event these properties hold by themselves
  pub record StepRules (s : Scene W V C L B) : Type 0 where
    pub opens : IsOpenStep s.before.plain s.party s.change
    pub belongs : BelongsTo m.lock_kind s.change
    pub weak : (s.outcome ≡ outcome.Skipped → ⊥) → IsWeakCall s.move s.party (s.before.span s.party) (asked m s.seat)
    pub leaves : LeavesBy s.move s.change s.before.state.value s.after.state.value
    pub counted : IsCounted m s.party s.outcome s.move s.seat s.change s.step_kind s.before.plain
    pub due : GetsWhenDue m.lock_kind s.party s.outcome s.move (asked m s.seat) (s.before.span s.party) s.before.plain s.change s.step_kind
    pub tries_on : TriesOn s.party s.outcome s.move (asked m s.seat) (s.before.span s.party) s.before.plain s.change

  pub record StepKeeps (s : Scene W V C L B) : Type 0 where
    pub rules : StepRules s
    pub open rules use *
    pub own : OwnSteps m s.party (s.after.span s.party) s.outcome (asked m s.seat)
    pub right : IsRight m s
    pub in_time : InTime m.lock_kind s.party (s.after.span s.party) s.outcome (asked m s.seat)
    pub undisturbed : AnsweredSoon m.lock_kind s.party (s.after.span s.party) s.outcome (asked m s.seat)
    pub in_call : InItsCall s.outcome s.move s.seat (seat_of s.after s.party)

  -- what is shown of each kind of event
  abbrev pub Kept : Scene W V C L B → Type 0
  Kept s = Invariant s.after × StepKeeps s

  module _ (seen : Seen W V C L) (p : ℕ) (good : Invariant seen) where
    -- the spans after a step of p
    abbrev longer : Option Change → StepKind → ℕ → List Mark
    longer step r q = mark_of p step r seen.plain ∷ seen.span q

    -- the invariant still holds after p gets another seat without a step
    pub good_seated : (x y : Seat C L) (span : ℕ → List Mark) → seat_of seen p ≡ Some y
        → ((q : ℕ) → (p ≡ q → ⊥) → span q ≡ seen.span q) → OfParty seen.state.words seen.plain p (span p) (Some x)
        → Invariant (record seen { state = seated seen.state p x; span = span })
    good_seated x y span there same here =
        let parties = at_seat (λ q o. OfParty seen.state.words seen.plain q (span q) o) seen.state.seats p x y there here
        (λ q ne. rw (same q ne) (good.parties q)) in search (good, parties)

    -- the invariant holds after a step of p's call
    good_stepped : (x y : Seat C L) (step : Option Change) (r : StepKind) (w : W) (v wr : Option V) → seat_of seen p ≡ Some y
        → Makes n p seen.plain (seen.span p) step r w → HasPhase t.lock_kind.makes_value (apply_some seen.plain step).phase v → v ≡ wr
        → OfParty w (apply_some seen.plain step) p (longer step r p) (Some x)
        → let after = seated (record seen.state { words = w; value = v }) p x in
        Invariant (record { state = after; plain = apply_some seen.plain step; span = longer step r; written = wr })
    good_stepped x y step r w v wr there makes phase written here =
        let parties = at_seat (λ q o. OfParty w (apply_some seen.plain step) q (longer step r q) o) seen.state.seats p x y there here
        (λ q ne.
        let is = good.parties q in
        let stays = λ (c : C) (l : L) (h : Option Hold).
        knows_beside f q c l h seen.plain (seen.span q) p step r ne good.shape makes.opens makes.belongs in record {
          stands = grind (arith, entries-other seen.plain p q step ne makes.opens, is.stands);
          knows = grind (arith, is.knows, stays);
          retries = grind (arith, is.retries);
          undisturbed = beside m seen.state.words w p q seen.plain step r (seen.span q) (seat_of seen q) ne
              (λ e. f.pays.numbers_tell w seen.state.words (makes.encodes ∙ (e ∙ sym good.encodes)))
              (λ c l h at. (at_step f _ (in_call q good at) good.phase).undisturbed) is.undisturbed;
        }) in
        search (makes, exclusive-kept seen.plain p step good.exclusive makes.opens, parties)

    -- the party p is in this call
    module _ (c : C) (l : L) (h : Option Hold) (there : seat_of seen p ≡ Some (Calling c l h)) where
      abbrev is : AtStep by n p c l h seen.plain seen.state.value seen.state.words (seen.span p)
      is = at_step f _ (in_call p good there) good.phase

      -- what is left of the call after p's own step, if nobody has disturbed it
      left_by : (step : Option Change) (r : StepKind) (w : W) (next : Next L B)
          → (is_weak r ≡ false → (j : ℕ) → AnswersWithin m (suc j) seen.state.words c l h → GoesWithin m j w c h next)
          → UndisturbedTakes (Left m w c h next) t.lock_kind p (t.asks c h) (longer step r p)
      left_by step r w next steps = stepped m seen.state.words w p c l h seen.plain step r (seen.span p) next
          (rw there at (good.parties p).undisturbed) is.undisturbed steps

      -- an event of the call: it makes the plain step `step`, if any, stores the value `stored`, if any, and leaves the
      -- words w and the value v
      module _ (move : Move C V) (step : Option Change) (r : StepKind) (stored : Option V) (w : W) (v : Option V) where
        abbrev event : Next L B → Scene W V C L B
        event next =
            scene_of seen p move (Some (Calling c l h)) (goes_on (record seen.state { words = w; value = v }) p c h next) step r stored

        record Goes (next : Next L B) : Type 0 where
          moves : Moves n move p c h seen.plain (seen.span p) step r w (told by.says next)
          phase : HasPhase t.lock_kind.makes_value (apply_some seen.plain step).phase v
          written : v ≡ if_completed seen.written stored step
          steps : is_weak r ≡ false → (j : ℕ) → AnswersWithin m (suc j) seen.state.words c l h → GoesWithin m j w c h next
          rules : StepRules (event next)

        went_on : (next : Next L B) → Goes next → Kept (event next)
        went_on (Continue k) to =
            let runs = left_by step r w (Continue k) to.steps in
            let here = standing p good there in
            let stands = stands_stepped seen.plain p step r (seen.span p) (entries_held p h) to.moves.opens here in
            let after = good_stepped (Calling c k h) (Calling c l h) step r w v _ there to.moves.makes to.phase
            to.written (search (arith, stands, to.moves.goes_on.knows, good.parties p, to.moves.fails, runs)) in
            let soon = soon_by m seen.state w p c h (longer step r p) (Continue k) runs in
            (after, search (to, soon, get-set_same seen.state.seats p (Calling c k h) _ there))
        went_on (Answers b rest) to =
            let runs = left_by step r w (Answers b rest) to.steps in
            let after = good_stepped (resting rest) (Calling c l h) step r w v _ there to.moves.makes to.phase
            to.written (grind (arith, to.moves.goes_on.stands, (good.parties p).retries, to.moves.fails)) in
            (after, search (to, soon_by m seen.state w p c h (longer step r p) (Answers b rest) runs))

      -- a step continues or answers its call, and changes the value only if a closure completes
      step_rules : (step : Option Change) (r : StepKind) (stored : Option V) (w : W) (v : Option V) (next : Next L B)
          → Makes n p seen.plain (seen.span p) step r w → v ≡ if_completed seen.state.value stored step
          → ContinuesCounted (λ u. m.change p u c l h) seen.plain (told by.says next) step r
          → GetsByWay t.lock_kind p (t.asks c h) (seen.span p) seen.plain step r
          → ((ask : Ask) → tries_of (t.asks c h) ≡ Some ask → own p (seen.span p) ≡ [] → GoesOnOpen ask p (seen.span p) seen.plain (told by.says next) step)
          → StepRules (event Step step r stored w v next)
      step_rules None r stored w v (Continue k) makes is counted due may = grind arith
      step_rules (Some d) r stored w v (Continue k) makes is counted due may = grind arith
      step_rules step r stored w v (Answers b rest) makes is counted due may = grind arith

      pub step_kept : Kept (scene_at m seen p Step (Some (Calling c l h)))
      step_kept =
          let st = m.step seen.state.words seen.state.value c l h in
          let rules = step_rules _ _ st.placed st.words _ st.next is.steps.makes is.values.places
          is.counted is.due is.tries_on in
          went_on Step (m.change p seen.state.words c l h) (by_step (m.step_kind c l h)) st.placed st.words (placed st.placed seen.state.value) st.next
          (grind (arith, is.steps, is.values, good.written, rules))

      pub refusal_kept : (next : Next L B) → m.refuse c l h ≡ Some next
          → Kept (scene_of seen p Weak (Some (Calling c l h)) (goes_on seen.state p c h next) None step_kind.weak None)
      refusal_kept next refused = went_on Weak None step_kind.weak None seen.state.words seen.state.value next
          (grind (arith, is.refuses next refused, good.phase, good.written, is.weakly next refused))

    pub begun_kept : OfBegin m seen p Kept
    begun_kept c l h there is =
        let span : ℕ → List Mark = λ q. if p == q then [] else seen.span q in
        let stands : entries p seen.plain ≡ entries_held p h = grind (arith, standing p good there) in
        let fresh : OfParty seen.state.words seen.plain p [] (Some (Calling c l h)) =
        search (arith, stands, knows_first f p c l h seen.plain is stands, runs_fresh m seen.state.words p c l h) in
        let after = good_seated (Calling c l h) (resting h) span there (λ q ne. rw (ne_eqb p q ne) refl)
        (rw (eqb_self p) fresh) in
        let seats = slice_set seen.state.seats p (Calling c l h) in
        let sits : slice_get seats p ≡ Some (Calling c l (held_at {C = C} {L = L} (Some (resting h)))) =
        get-set_same seen.state.seats p (Calling c l h) (resting h) there ∙ grind arith in
        (after, search sits)

    -- the owner's move

    pub good_let_go : (v wr : Option V) → HasPhase t.lock_kind.makes_value seen.plain.phase v → v ≡ wr
        → Invariant (record seen { state = let_go (record seen.state { value = v }); written = wr })
    good_let_go v wr phase written = grind (arith, let_go, slice_get-map)

    pub owns : is_owners m seen.state ≡ true → IsOwners seen
    owns may = grind (arith, yields_at, all-get, and_parts)

    pub owner_writes_kept : (v : V) (y : Seat C L) (o : Option V) → seen.state.value ≡ o
        → Kept (scene_of seen p (OwnerSet v) (Some y) (owner_writes seen.state v o) None step_kind.plain None)
    owner_writes_kept v y None found = (good_let_go seen.state.value seen.written good.phase good.written, search)
    owner_writes_kept v y (Some old) found =
        (good_let_go (Some v) (Some v) (grind (arith, (rw found at good.phase))) refl, search)
