-- Progress in rounds. A party waits in a call, for an event that is the *goal*. Meanwhile each party has a *load*,
-- which is a number of rounds and no atomic load. After at most this many rounds the party lets the others continue. A
-- round lowers the highest loads by one, or reaches the goal. The record `Walks` below has what is to be shown of the
-- steps of each object. All other moves are alike in every object.
use Rattle.spin_laws.proofs.Names.{Outcome, suc, max, if◌then◌else◌, eqb_self, ne_eqb, eq-eqb, entries, Gone, entries_of, Table, machine_of, entries_held, Notes, StandsSo, row_passes, ◌≡◌, ℕ, ◌<◌, ◌≤◌, ◌⊎◌, ◌==◌, ◌||◌, Bool, true, false, Option, Some, None, List, [], ◌∷◌, ◌++◌, length, slice_get, refl, ap, sym, ◌∙◌, subst, arith, inl, inr, ⊎_elim, cases_eq, cases_lt, false≢true, Plain, IsOpenStep, Hold, Seat, Calling, Holding, Leaked, Next, Move, Begin, Step, Weak, BelongsTo, Machine, goes_on, resting, is_owners, Seen, Scene, scene, scene_at, opening, joined, seen_after, after, at_first, ◌-◌, get-set_same, of_event, Plays, Invariant, kept, state-seen_after, state_is, seat_is, Test, occurs, IsRound, AreRounds}
use Rattle.spin_laws.specs.Rounds.{is_release}
use Rattle.spin_world_core.proofs.Names.{StepKind}
use Rattle.spin_laws.proofs.Waiting.{of_call, or_left, or_right, or_rest, held_by, is_busy, is_idle, unawaited, awaited_of, same_beside, no_owner, moves_on}
use Rattle.spin_world.proofs.FairNames.{Entries}
use Rattle.spin_step.specs.Schedules.{Happened, begun}
use Rattle.spin_step.specs.declared.schedule.Move.TheVariants.{Leak}
use Rattle.spin_step.specs.StepKinds as step_kind
use Rattle.spin_world_core.specs.Runs.{seat_of, scene_of}
use Rattle.spin_world_core.proofs.Steps.{played}
use Rattle.spin_world_core.proofs.Reached as reached

held_resting : (C L : Type 0) (h : Option Hold) → held_by {C = C} {L = L} (Some (resting h)) ≡ h
held_resting C L None = refl
held_resting C L (Some h) = refl

either_way : (b : Bool) → (b ≡ true) ⊎ (b ≡ false)
either_way true = inl refl
either_way false = inr refl

-- the party's seat implies that the party has entries in the plain lock that pass this test

module _ {W V C L A : Type 0} {t : Table W V C L A} (n : Notes t) (test : Entries → Bool) where
  abbrev pub SitsSo : ℕ → Option (Seat C L) → Type 0
  SitsSo p (Some (Calling c l h)) = StandsSo n test p c l h
  SitsSo p (Some (Holding h)) = test (entries_of p h) ≡ true
  SitsSo p (Some (Leaked h)) = test (entries_of p h) ≡ true
  SitsSo p (Some (Gone h)) = test (entries_of p h) ≡ true
  SitsSo p _ = test (entries_held p None) ≡ true

  pub sits_so : {f : Plays (machine_of t) n} (seen : Seen W V C L) → Invariant f seen → (p : ℕ) → test (entries p seen.plain) ≡ true → SitsSo p (seat_of seen p)
  sits_so seen good p has = grind (arith, row_passes, (good.parties p).stands, (good.parties p).knows, has)

-- A party that waits for an event that passes the test `goal`. `At` are the points of its call, and `Known` is known
-- there. `Fine` has to hold at the end of the rounds. `mine` is the load of the waiting party, by the plain lock and the
-- point. `theirs` is the load of another party, which also depends on that party's seat.
pub record Wait (W V C L A : Type 0) : Type 1 where
  pub goal : Test V C L A
  pub party : ℕ
  pub call : C
  pub hold : Option Hold
  pub At : L → Type 0
  pub Known : Seen W V C L → Type 0
  pub Fine : Seen W V C L → Type 0
  pub mine : Plain → L → ℕ
  pub theirs : Plain → L → ℕ → Option (Seat C L) → ℕ

module _ {W V C L A B : Type 0} {t : Table W V C L B} {given : Machine W V C L A} {k : Notes t} (f : Plays given k) (x : Wait W V C L A) where
  abbrev m : Machine W V C L A
  m = played t given

  abbrev World : Type 0
  World = Seen W V C L

  abbrev Event : Type 0
  Event = Scene W V C L A

  abbrev Turn : Type 0
  Turn = List (ℕ × Move C V)

  abbrev p : ℕ
  p = x.party

  -- the party waits at this point of its call
  abbrev pub Sits : World → L → Type 0
  Sits seen l = seat_of seen p ≡ Some (Calling x.call l x.hold)

  abbrev pub Waits : World → L → Type 0
  Waits seen l = Sits seen l × x.At l × x.Known seen × Invariant f seen

  abbrev pub theirs : World → L → ℕ → ℕ
  theirs seen l q = x.theirs seen.plain l q (seat_of seen q)

  -- no load is above n
  pub record Within (seen : World) (l : L) (n : ℕ) : Type 0 where
    pub mine : x.mine seen.plain l ≤ n
    pub theirs : (q : ℕ) → (q ≡ p → ⊥) → x.theirs seen.plain l q (seat_of seen q) ≤ n

  abbrev seat_after : Event → Option (Seat C L)
  seat_after sc = seat_of sc.after sc.party

  abbrev pub Reaches : Event → Type 0
  Reaches sc = x.goal sc.party sc.move sc.outcome (seat_after sc) ≡ true

  -- no load of a party other than p and q has risen above n
  abbrev pub Others : World → L → ℕ → Event → L → ℕ → Type 0
  Others seen l q sc i n = (o : ℕ) → (o ≡ p → ⊥) → (q ≡ o → ⊥) → x.theirs sc.after.plain i o (seat_of seen o) ≤ max (theirs seen l o) n

  -- after a step of another party q, the load of q is at most n, and no other load has risen above n
  pub record Falls (seen : World) (l : L) (q : ℕ) (sc : Event) (n : ℕ) : Type 0 where
    pub his : theirs sc.after l q ≤ n
    pub mine : x.mine sc.after.plain l ≤ max (x.mine seen.plain l) n
    pub others : Others seen l q sc l n

  -- what holds after an event of the party q
  pub record After (seen : World) (q : ℕ) (sc : Event) : Type 0 where
    pub others : (d : ℕ) → (q ≡ d → ⊥) → seat_of sc.after d ≡ seat_of seen d
    pub good : Invariant f sc.after
    pub opens : IsOpenStep seen.plain q sc.change
    pub belongs : BelongsTo m.lock_kind sc.change
    pub known : x.Known sc.after
    pub fine : x.Fine sc.after

  abbrev Refuses : World → ℕ → C → Option Hold → Next L A → Type 0
  Refuses seen q c h next = let n = goes_on seen.state q c h next in x.goal q Weak n.outcome (slice_get n.next.seats q) ≡ true

  -- the waiting party's own step, which reaches the goal or leads to a point of its call
  abbrev pub Own : World → L → ℕ → Event → Type 0
  Own seen l n sc = Reaches sc ⊎ ((i : L) × Sits sc.after i × x.At i × (x.mine sc.after.plain i ≤ n) × Others seen l p sc i n)

  pub record Walks : Type 0 where
    pub fine : (seen : World) (q : ℕ) (move : Move C V) → Invariant f seen → x.Fine (scene m seen q move).after → x.Fine seen
    -- what is known stays true at each event that does not reach the goal
    pub keeps : (seen : World) (q : ℕ) (move : Move C V) (l : L) → Waits seen l → let sc = scene m seen q move in Reaches sc ⊎ x.Known sc.after
    -- if no load is above n + 1, the waiting party's own step does what `Own` says
    pub own : (seen : World) (l : L) (n : ℕ) → Waits seen l → Within seen l (suc n) → let sc = scene_at m seen p Step (Some (Calling x.call l x.hold)) in After seen p sc → Own seen l n sc
    -- if no load is above n + 1, a step of another party reaches the goal, or does what `Falls` says
    pub steps : (seen : World) (l : L) (n : ℕ) → Waits seen l → Within seen l (suc n) → (q : ℕ) (d : C) (i : L) (j : Option Hold) → (q ≡ p → ⊥) → seat_of seen q ≡ Some (Calling d i j)
        → let sc = scene_at m seen q Step (Some (Calling d i j)) in After seen q sc → Reaches sc ⊎ Falls seen l q sc n
    -- a spurious failure of the waiting party reaches the goal
    pub weak : (seen : World) (l : L) (next : Next L A) → x.At l → m.refuse x.call l x.hold ≡ Some next → Refuses seen p x.call x.hold next
    -- when another party's exchange fails spuriously, the goal is reached, or this party's load falls (or was 0)
    pub refuses : (seen : World) (l : L) → Waits seen l → (q : ℕ) (d : C) (i : L) (j : Option Hold) (next : Next L A) → (q ≡ p → ⊥) → seat_of seen q ≡ Some (Calling d i j) → m.refuse d i j ≡ Some next
        → Refuses seen q d j next ⊎ ((o : Option (Seat C L)) → x.theirs seen.plain l q o ≤ theirs seen l q - 1)
    -- When another party begins a call, its load does not rise. If the call is a release, the load falls (or was 0).
    pub begins : (seen : World) (l : L) → Waits seen l → (q : ℕ) (d : C) (i : L) (j : Option Hold) → (q ≡ p → ⊥) → seat_of seen q ≡ Some (resting j) → m.begin d j ≡ Some i
        → (x.theirs seen.plain l q (Some (Calling d i j)) ≤ theirs seen l q) × (is_release (m.asks d j) ≡ true → x.theirs seen.plain l q (Some (Calling d i j)) ≤ theirs seen l q - 1)
    pub leaks : (s : Plain) (l : L) (q : ℕ) (h : Hold) → x.theirs s l q (Some (Leaked h)) ≤ x.theirs s l q (Some (Holding h))
    -- others may wait for each party whose load is not 0
    pub busy : (seen : World) (l : L) (q : ℕ) → Waits seen l → (q ≡ p → ⊥) → 1 ≤ theirs seen l q → is_busy (seat_of seen q) ≡ true
    -- some party's load is not 0
    pub some : (seen : World) (l : L) → Waits seen l → Within seen l 0 → ⊥

  -- if steps keep a property of the plain lock, every event keeps it, since no other event changes the plain lock
  pub plain_kept : (P : Plain → Type 0) (seen : World) (l : L) → Waits seen l → (q : ℕ) → P seen.plain
      → ((d : C) (i : L) (j : Option Hold) → seat_of seen q ≡ Some (Calling d i j) → let sc = scene_at m seen q Step (Some (Calling d i j)) in IsOpenStep seen.plain q sc.change → Reaches sc ⊎ P sc.after.plain)
      → (move : Move C V) → Reaches (scene m seen q move) ⊎ P (scene m seen q move).after.plain
  plain_kept P seen l w q is kept_by move = grind (arith, no_owner m seen p x.call l x.hold w.0, kept_by, (kept f seen q move w.3).keeps.opens, is)

  -- The walk over all moves

  abbrev load_by : Plain → L → ℕ → Option (Seat C L) → ℕ
  load_by s l q his = if q == p then x.mine s l else x.theirs s l q his

  own_load : (s : Plain) (l : L) (his : Option (Seat C L)) → load_by s l p his ≡ x.mine s l
  own_load s l his = ap (λ b. if b then x.mine s l else x.theirs s l p his) (eqb_self p)

  other_load : (s : Plain) (l : L) (q : ℕ) (his : Option (Seat C L)) → (q ≡ p → ⊥) → load_by s l q his ≡ x.theirs s l q his
  other_load s l q his ne = ap (λ b. if b then x.mine s l else x.theirs s l q his) (ne_eqb q p (λ e. absurd (ne e)))

  abbrev load : World → L → ℕ → ℕ
  load seen l q = load_by seen.plain l q (seat_of seen q)

  abbrev awaited : ℕ → Option (Seat C L) → Test V C L A
  awaited q o = awaited_of m q (held_by o)

  -- the load is at most n, or is at most n + 1 while the party's awaited move is still to come
  abbrev Pays : World → L → ℕ → Turn → ℕ → Type 0
  Pays seen l n es q = (load seen l q ≤ n) ⊎ ((load seen l q ≤ suc n) × (occurs m (awaited q (seat_of seen q)) seen.state es ≡ true))

  module _ (walks : Walks) (seen : World) (l : L) (w : Waits seen l) (n : ℕ) (es : Turn) where
    -- the same, seen before the event `sc`: the move of `sc` may be the awaited one
    abbrev Pays_by : Event → ℕ → Type 0
    Pays_by sc q =
        let o = seat_of seen q in
        (load seen l q ≤ n) ⊎ ((load seen l q ≤ suc n) × ((awaited q o sc.party sc.move sc.outcome (seat_after sc) || occurs m (awaited q o) sc.after.state es) ≡ true))

    -- after the event the party waits at the point i
    abbrev On : Event → Type 0
    On sc = (i : L) × Waits sc.after i × ((q : ℕ) → Pays sc.after i n es q)

    abbrev Goes : Event → Type 0
    Goes sc = ((q : ℕ) → Pays_by sc q) → Reaches sc ⊎ On sc

    not_owned : {X : Type 0} → is_owners m seen.state ≡ true → X
    not_owned may = absurd (no_owner m seen p x.call l x.hold w.0 may)

    within_all : (sc : Event) → ((q : ℕ) → Pays_by sc q) → (q : ℕ) → load seen l q ≤ suc n
    within_all sc pays q = ⊎_elim (λ (low : load seen l q ≤ n). omega (arith, low)) (λ y. y.0) (pays q)

    within : (sc : Event) → ((q : ℕ) → Pays_by sc q) → Within seen l (suc n)
    within sc pays = record {
      mine = subst (λ k. k ≤ suc n) (own_load seen.plain l (seat_of seen p)) (within_all sc pays p);
      theirs = λ q ne. subst (λ k. k ≤ suc n) (other_load seen.plain l q (seat_of seen q) ne) (within_all sc pays q);
    }

    -- the load of a party that does not step, by whether it is the waiting party
    by_whom : (sc : Event) (i : L) (o : ℕ) → ((o ≡ p) → x.mine sc.after.plain i ≤ max (x.mine seen.plain l) n) → ((o ≡ p → ⊥) → x.theirs sc.after.plain i o (seat_of seen o) ≤ max (theirs seen l o) n)
        → load_by sc.after.plain i o (seat_of seen o) ≤ max (load seen l o) n
    by_whom sc i o mine other = grind (arith, eq-eqb, other_load, after, cases_eq)

    -- a party that keeps its seat at the event
    stays : (sc : Event) (i : L) (q : ℕ) → seat_of sc.after q ≡ seat_of seen q → load_by sc.after.plain i q (seat_of seen q) ≤ max (load seen l q) n → (sc.party ≡ q → is_idle sc.outcome ≡ true)
        → Pays_by sc q → Pays sc.after i n es q
    stays sc i q same le idle pays =
        rw same (⊎_elim (λ (low : load seen l q ≤ n). inl (omega (arith, le, low)))
        (λ y. inr (omega (arith, le, y.0), or_rest _ _ y.1 (unawaited m q sc.party (held_by (seat_of seen q)) sc.move sc.outcome idle))) pays)

    -- after an event of the party q the waiting party is at the point i; `Pays` holds of q, and no other load is above n
    on : (q : ℕ) (sc : Event) (i : L) → sc.party ≡ q → After seen q sc → ((q : ℕ) → Pays_by sc q) → Sits sc.after i → x.At i → Pays sc.after i n es q
        → ((o : ℕ) → (q ≡ o → ⊥) → load_by sc.after.plain i o (seat_of seen o) ≤ max (load seen l o) n) → Reaches sc ⊎ On sc
    on q sc i party after pays sits at his others =
        let stay = λ (o : ℕ) (other : q ≡ o → ⊥). stays sc i o (after.others o other) (others o other) (λ e. absurd (other (sym party ∙ e))) (pays o) in
        inr (i, (sits, at, after.known, after.good), λ o. ⊎_elim (λ (same : q ≡ o). subst (Pays sc.after i n es) same his) (stay o) (cases_eq q o))

    -- an event that changes no seat
    quiet : (q : ℕ) (sc : Event) → sc.after.plain ≡ seen.plain → sc.after.state.seats ≡ seen.state.seats → is_idle sc.outcome ≡ true → After seen q sc → Goes sc
    quiet q sc plain seats idle made pays =
        let same = λ (o : ℕ). ap (λ xs. slice_get xs o) seats in
        inr (l, (same p ∙ w.0, w.1, made.known, made.good), λ o. stays sc l o (same o) (rw plain (omega arith)) (λ e. idle) (pays o))

    module _ (q : ℕ) (ne : q ≡ p → ⊥) where
      -- the load of q, which now has this seat, falls (or was 0), or does not rise and the move is not awaited
      abbrev Slows : Move C V → Outcome A V → Option (Seat C L) → Type 0
      Slows move what o = (load_by seen.plain l q o ≤ load seen l q - 1) ⊎ ((load_by seen.plain l q o ≤ load seen l q) × (held_by o ≡ held_by (seat_of seen q)) × (awaited q (seat_of seen q) q move what o ≡ false))

      begins_slow : (d : C) (i : L) (j : Option Hold) → seat_of seen q ≡ Some (resting j) → m.begin d j ≡ Some i → Slows (Begin d) (begun seen.state q d j (Some i)).outcome (Some (Calling d i j))
      begins_slow d i j at may =
          let b = walks.begins seen l w q d i j ne at may in
          let his = other_load seen.plain l q (seat_of seen q) ne in let now = other_load seen.plain l q (Some (Calling d i j)) ne in
          let held : j ≡ held_by (seat_of seen q) = sym (ap held_by at ∙ held_resting C L j) in
          ⊎_elim (λ (is : is_release (m.asks d j) ≡ true). inl (omega (arith, his, now, b.1 is)))
          (λ (no : is_release (m.asks d j) ≡ false). inr (omega (arith, his, now, b.0), held, subst (λ h. awaited_of m q h q (Begin d) (begun seen.state q d j (Some i)).outcome (Some (Calling d i j)) ≡ false) held (grind (arith, no))))
          (either_way (is_release (m.asks d j)))

      -- an event without a plain step, at which the load of q falls (or was 0), or does not rise and is not awaited
      slows : (move : Move C V) (at : Option (Seat C L)) (h : Happened W V C L A) (kind : StepKind) → let sc = scene_of seen q move at h None kind None in
          Slows move h.outcome (seat_of sc.after q) → After seen q sc → Goes sc
      slows move at h kind slow after pays =
          let sc = scene_of seen q move at h None kind None in
          on q sc l refl after pays (after.others p ne ∙ w.0) w.1
          (⊎_elim (λ falls. inl (omega (arith, falls, within_all sc pays q))) (λ s. ⊎_elim (λ (low : load seen l q ≤ n). inl (omega (arith, s.0, low)))
          (λ y. inr (omega (arith, s.0, y.0), subst (λ h. occurs m (awaited_of m q h) sc.after.state es ≡ true) (sym s.1) (or_rest _ _ y.1 s.2))) (pays q)) slow)
          (λ o other. omega arith)

      event : (move : Move C V) → After seen q (scene m seen q move) → Goes (scene m seen q move)
      event =
          of_event m seen q (λ sc. After seen q sc → Goes sc)
          (record {
            passes = λ move o r at closed. quiet q _ refl refl refl;
            begins = λ d i j at may. slows (Begin d) (Some (resting j)) (begun seen.state q d j (Some i)) _
                (subst (Slows (Begin d) (begun seen.state q d j (Some i)).outcome) (sym (get-set_same seen.state.seats q (Calling d i j) _ at)) (begins_slow d i j at may));
            steps = λ d i j at after pays. let sc = scene_at m seen q Step (Some (Calling d i j)) in
                ⊎_elim inl (λ (falls : Falls seen l q sc n).
                on q sc l refl after pays (after.others p ne ∙ w.0) w.1 (inl (omega (arith, falls.his, other_load sc.after.plain l q (seat_of sc.after q) ne)))
                (λ o other. by_whom sc l o (λ is. falls.mine) (λ not_its. falls.others o not_its other)))
                (walks.steps seen l n w (within sc pays) q d i j ne at after);
            refuses = λ d i j next at may after pays. ⊎_elim inl (λ (low : (o : Option (Seat C L)) → x.theirs seen.plain l q o ≤ theirs seen l q - 1).
                slows Weak (Some (Calling d i j)) (goes_on seen.state q d j next) _ (inl (omega (arith, low (slice_get (goes_on seen.state q d j next).next.seats q), other_load seen.plain l q (seat_of seen q) ne, other_load seen.plain l q (slice_get (goes_on seen.state q d j next).next.seats q) ne))) after pays) (walks.refuses seen l w q d i j next ne at may);
            reads = λ b h at may. quiet q _ refl refl refl;
            writes = λ v b h at may. quiet q _ refl refl refl;
            leaks = λ h at. slows Leak (Some (Holding h)) _ _ (grind (arith, other_load, walks.leaks seen.plain l q h, at, get-set_same seen.state.seats q (Leaked h) (Holding h) at));
            gets = λ y at may. not_owned may;
            sets = λ v y at may. not_owned may;
          })

    own_step : let sc = scene_at m seen p Step (Some (Calling x.call l x.hold)) in After seen p sc → Goes sc
    own_step made pays =
        let sc = scene_at m seen p Step (Some (Calling x.call l x.hold)) in
        ⊎_elim inl (λ (o : (i : L) × Sits sc.after i × x.At i × (x.mine sc.after.plain i ≤ n) × Others seen l p sc i n).
        on p sc o.0 refl made pays o.1 o.2 (inl (omega (arith, o.3, own_load sc.after.plain o.0 (seat_of sc.after p))))
        (λ d other. by_whom sc o.0 d (λ is. absurd (other (sym is))) (λ not_its. o.4 d not_its other)))
        (walks.own seen l n w (within sc pays) made)

    own : (move : Move C V) → After seen p (scene m seen p move) → Goes (scene m seen p move)
    own =
        of_call m seen p x.call l x.hold w.0 (λ sc. After seen p sc → Goes sc) (λ move kind. quiet p _ refl refl refl) own_step
        (λ next may after pays. inl (walks.weak seen l next w.1 may))

    goes : (q : ℕ) (move : Move C V) → x.Fine (scene m seen q move).after → Goes (scene m seen q move)
    goes q move fine pays =
        let sc = scene m seen q move in
        let keeps = kept f seen q move w.3 in
        ⊎_elim inl
        (λ (known : x.Known sc.after).
        let after : After seen q sc = record {
          others = λ d ne. same_beside m seen q d p x.call l x.hold w.0 move ne;
          good = keeps.good;
          opens = keeps.keeps.opens;
          belongs = keeps.keeps.belongs;
          known = known;
          fine = fine;
        } in
        ⊎_elim (λ (is : q ≡ p). subst (λ i. After seen i (scene m seen i move) → Goes (scene m seen i move)) (sym is) (own move) after pays) (λ (ne : q ≡ p → ⊥). event q ne move after pays) (cases_eq q p))
        (walks.keeps seen q move l w)

  -- The rounds

  module _ (walks : Walks) where
    fine_before : (seen : World) (es : Turn) → Invariant f seen → x.Fine (seen_after m seen es) → x.Fine seen
    fine_before seen [] good is = is
    fine_before seen (e ∷ es) good is = walks.fine seen e.0 e.1 good (fine_before (scene m seen e.0 e.1).after es (kept f seen e.0 e.1 good).good is)

    -- The entries `es` come, and then `rest`. If the goal is not reached in `es`, what holds after them decides.
    through : (seen : World) (l : L) (n : ℕ) (es rest : Turn) → Waits seen l → x.Fine (seen_after m seen (es ++ rest)) → ((q : ℕ) → Pays seen l n es q)
        → (let end = seen_after m seen es in (i : L) → Waits end i → x.Fine (seen_after m end rest) → Within end i n → occurs m x.goal end.state rest ≡ true)
        → occurs m x.goal seen.state (es ++ rest) ≡ true
    through seen l n [] rest w fine pays next = next l w fine (grind (arith, pays, false≢true, own_load, other_load))
    through seen l n (e ∷ es) rest w fine pays next =
        let sc = scene m seen e.0 e.1 in
        ⊎_elim (λ (r : Reaches sc). or_left _ _ r) (λ (on : On walks seen l w n es sc). or_right _ _ (through sc.after on.0 n es rest on.1 fine on.2 next))
        (goes walks seen l w n es e.0 e.1 (fine_before sc.after (es ++ rest) (kept f seen e.0 e.1 w.3).good fine) pays)

    -- at the beginning of a round each party whose load is n + 1 still makes its awaited move
    pays_first : (seen : World) (l : L) (n : ℕ) (es : Turn) → Waits seen l → Within seen l (suc n) → IsRound m seen.state es → (q : ℕ) → Pays seen l n es q
    pays_first seen l n es w within round q =
        ⊎_elim (λ (low : load seen l q < suc n). inl (omega (arith, low))) (λ (high : suc n ≤ load seen l q). inr (most, moves_on m seen.state es q _ (busy high) (round q))) (cases_lt (load seen l q) (suc n))
      where
        most : load seen l q ≤ suc n
        most = ⊎_elim (λ (is : q ≡ p). rw (eq-eqb q p is) within.mine) (λ (ne : q ≡ p → ⊥). omega (arith, within.theirs q ne, other_load seen.plain l q (seat_of seen q) ne)) (cases_eq q p)

        busy : suc n ≤ load seen l q → is_busy (seat_of seen q) ≡ true
        busy high = grind (arith, other_load, cases_eq)

    -- the goal is reached in as many rounds as the highest load says
    in_rounds : (rounds : List Turn) (seen : World) (l : L) → Waits seen l → x.Fine (seen_after m seen (joined rounds)) → AreRounds m seen.state rounds → Within seen l (length rounds) → occurs m x.goal seen.state (joined rounds) ≡ true
    in_rounds [] seen l w fine are within = absurd (walks.some seen l w within)
    in_rounds (es ∷ rounds) seen l w fine are within =
        through seen l (length rounds) es (joined rounds) w fine (pays_first seen l (length rounds) es w within are.0) (λ i w' fine' within'.
        in_rounds rounds (seen_after m seen es) i w' fine' (subst (λ s. AreRounds m s rounds) (sym (state-seen_after m seen es)) are.1) within')

    -- the goal is reached in that many rounds also from the state after any schedule
    pub ends : (n : ℕ) (past : Turn) (rounds : List Turn) (l : L)
        → let seen = seen_after m (opening m n) past in let s = after m (at_first m n) past in
        slice_get s.seats p ≡ Some (Calling x.call l x.hold) → x.At l → x.Known seen → x.Fine (seen_after m seen (joined rounds)) → AreRounds m s rounds → (Waits seen l → Within seen l (length rounds))
        → occurs m x.goal s (joined rounds) ≡ true
    ends n past rounds l there at known fine are enough =
        let seen = seen_after m (opening m n) past in
        let same = state_is f n past in
        let w : Waits seen l = (seat_is f n past p _ there, at, known, reached.good f n past) in
        subst (λ s. occurs m x.goal s (joined rounds) ≡ true) same (in_rounds rounds seen l w fine (subst (λ s. AreRounds m s rounds) (sym same) are) (enough w))
