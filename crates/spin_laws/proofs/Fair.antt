-- While a starver waits, a fair lock is granted within five rounds. The holder leaves within two rounds. The starver then
-- takes three: it finds the flag clear, sets the flag, and stops starving. If another party sets the flag earlier, the
-- other party is granted the lock by its next step.
use Rattle.spin_laws.proofs.Names.{seat_of, cases_eq, suc, Bool, entries, entries-other, empty_is, if◌then◌else◌, ◌≡◌, ℕ, ◌==◌, true, false, Option, Some, None, List, [], ◌∷◌, length, refl, ap, arith, not, ◌≤◌, ◌⊎◌, inl, inr, ⊎_elim, Plain, Kind, writing, Holder, is_empty, is_holder, is_starver, without_holder, holder, IsOpenStep, Hold, filter, subst, Answer, Seat, Calling, Holding, Move, Step, Machine, after, get-set_same, Seen, Scene, scene_at, opening, seen_after, eqb_self, Plays, Invariant, in_call, row_tells, calls_so, fair_machine}
use Rattle.spin_world.proofs.FairNames.{fair_is_locked-tells, Write, Starver, FairCall, Lock, StarverLock, Release, FairPoint, First, SetFlag, Await, Unregister, is_held_word}
use Rattle.spin_world.proofs.FairOwed.{fair_notes, fair_facts}
use Rattle.spin_laws.specs.Fair.{grants_lock, LocksInFive}
use Rattle.spin_laws.proofs.Waiting.{holds_lock, is_busy}
use Rattle.spin_laws.proofs.Loads.{Wait}
use Rattle.spin_laws.proofs.Loads as walk

abbrev FairSeat : Type 0
FairSeat = Seat FairCall FairPoint

-- the calls in which a starver waits
abbrev its_call : FairCall → Option Hold → Type 0
its_call Lock None = Unit {0}
its_call StarverLock (Some Starver) = Unit {0}
its_call _ h = ⊥

-- the points of these calls
abbrev its_point : FairPoint → Type 0
its_point l = elim l [ SetFlag ↦ Unit {0} | Await ↦ Unit {0} | Unregister ↦ Unit {0} | _ ↦ ⊥ ]

starves_own : (p : ℕ) (qs : List ℕ) → is_starver p qs ≡ true → not (is_empty (filter (λ q. q == p) qs)) ≡ true
starves_own p [] found = found
starves_own p (q ∷ qs) found = grind (arith, found, starves_own p qs)

-- The load of the waiting party, a number of rounds (see Loads.antt). `clear` says whether nobody holds.
abbrev mine_by : Bool → FairPoint → ℕ
mine_by clear l = if clear then elim l [ SetFlag ↦ 2 | _ ↦ 3 ] else elim l [ Unregister ↦ 1 | _ ↦ 0 ]

-- the load of another party; with `true` this party holds
abbrev theirs_by : Bool → Option FairSeat → ℕ
theirs_by holds his =
    if holds then elim his [ Some (Calling c Unregister h) ↦ 1 | Some (Calling c l h) ↦ 4 | _ ↦ 5 ] else 0

point_cases : (l : FairPoint) → (l ≡ Unregister) ⊎ (l ≡ Unregister → ⊥)
point_cases l = grind arith

first_holds : (h : Holder) (hs : List Holder) → not (is_empty (filter (λ g. g.party == h.party) (h ∷ hs))) ≡ true
first_holds h hs = rw (eqb_self h.party) refl

one_gone : (k : Kind) (d : ℕ) (hs : List Holder) → length hs ≤ 1 → is_holder d k hs ≡ true → without_holder d k hs ≡ []
one_gone k d [] one found = refl
one_gone k d (h ∷ []) one found = grind (arith, found)
one_gone k d (h ∷ i ∷ hs) one found = absurd (omega (arith, one))

module _ {V : Type 0} (v : V) (cap patience : ℕ) where
  abbrev m : Machine ℕ V FairCall FairPoint (Answer V)
  m = fair_machine v cap patience

  abbrev f : Plays m (fair_notes v cap patience)
  f = fair_facts v cap patience

  abbrev World : Type 0
  World = Seen ℕ V FairCall FairPoint

  abbrev Sits : ℕ → Option FairSeat → Type 0
  Sits = walk.SitsSo (fair_notes v cap patience) holds_lock

  module _ (p : ℕ) (c : FairCall) (h : Option Hold) (waits : its_call c h) where
    abbrev x : Wait ℕ V FairCall FairPoint (Answer V)
    x = record { goal = grants_lock m; party = p; call = c; hold = h; At = its_point; Known = λ seen. Unit {0}; Fine = λ seen. Unit {0}; mine = λ s. mine_by (is_empty s.holders); theirs = λ s l q his. theirs_by (holds_lock (entries q s)) his }

    abbrev sc : World → ℕ → FairCall → FairPoint → Option Hold → Scene ℕ V FairCall FairPoint (Answer V)
    sc seen q d i j = scene_at m seen q Step (Some (Calling d i j))

    module _ (seen : World) (good : Invariant f seen) (l : FairPoint) where
      abbrev s : Plain
      s = seen.plain

      -- the flag is set exactly if somebody holds
      flag : is_held_word seen.state.words ≡ not (is_empty s.holders)
      flag = grind (arith, fair_is_locked-tells s seen.state.words good.shape.one good.shape.queue (cc (good.encodes)), good.shape.queue)

      his_sits : (q : ℕ) → holds_lock (entries q s) ≡ true → Sits q (seat_of seen q)
      his_sits q found = walk.sits_so (fair_notes v cap patience) holds_lock seen good q found

      others_same : (q o : ℕ) (d : FairCall) (i : FairPoint) (j : Option Hold) → IsOpenStep s q (sc seen q d i j).change → (q ≡ o → ⊥) → theirs_by (holds_lock (entries o (sc seen q d i j).after.plain)) (seat_of seen o) ≤ theirs_by (holds_lock (entries o s)) (seat_of seen o)
      others_same q o d i j opens ne = omega (arith, ap (λ e. theirs_by (holds_lock e) (seat_of seen o)) (entries-other s q o (sc seen q d i j).change ne opens))

      -- a step of the waiting party's own
      module _ (there : seat_of seen p ≡ Some (Calling c l h)) where
        abbrev y : Scene ℕ V FairCall FairPoint (Answer V)
        y = sc seen p c l h

        goes_clear : its_point l → (l ≡ Unregister → ⊥) → s.holders ≡ [] → is_held_word seen.state.words ≡ false
            → ((seat_of y.after p ≡ Some (Calling c Unregister h)) × (is_empty y.after.plain.holders ≡ false) × (l ≡ SetFlag)) ⊎ ((seat_of y.after p ≡ Some (Calling c SetFlag h)) × (is_empty y.after.plain.holders ≡ true) × (l ≡ Await))
        goes_clear at ne none clear = grind (arith, at, ne, none, clear, get-set_same seen.state.seats p (Calling c Unregister h) _ there, get-set_same seen.state.seats p (Calling c SetFlag h) _ there)

        goes_set : its_point l → (l ≡ Unregister → ⊥) → is_held_word seen.state.words ≡ true → (seat_of y.after p ≡ Some (Calling c Await h)) × (y.after.plain ≡ s)
        goes_set at ne set = grind (arith, waits, at, ne, set, get-set_same seen.state.seats p (Calling c Await h) _ there)

        own : (n : ℕ) → walk.Within f x seen l (suc n) → IsOpenStep s p y.change → its_point l → (l ≡ Unregister → ⊥) → (b : Bool) → is_empty s.holders ≡ b → walk.Own f x seen l n y
        own n within opens at ne b is = grind (arith, others_same, goes_clear, empty_is, flag, goes_set)

        own_by : (n : ℕ) → walk.Within f x seen l (suc n) → IsOpenStep s p y.change → its_point l → walk.Own f x seen l n y
        own_by n within opens at = ⊎_elim (λ (is : l ≡ Unregister). inl (grind (arith, is, get-set_same seen.state.seats p (Holding Write) _ there))) (λ (ne : l ≡ Unregister → ⊥). own n within opens at ne (is_empty s.holders) refl) (point_cases l)

      some_starve : seat_of seen p ≡ Some (Calling c l h) → its_point l → is_empty s.starvers ≡ false
      some_starve there at = grind (arith, row_tells, in_call)

      -- another party's step, which may set a clear flag
      takes_clear : (q : ℕ) (d : FairCall) (i : FairPoint) (j : Option Hold) → s.holders ≡ [] → is_held_word seen.state.words ≡ false → is_empty s.starvers ≡ false → seat_of seen q ≡ Some (Calling d i j) → let y = sc seen q d i j in IsOpenStep s q y.change
          → (y.after.plain.holders ≡ []) ⊎ ((y.after.plain.holders ≡ holder q writing ∷ []) × (seat_of y.after q ≡ Some (Calling d Unregister j)))
      takes_clear q d i j none clear some at opens = grind (arith, none, clear, some, opens, get-set_same seen.state.seats q (Calling d Unregister j) _ at)

      takes_none : (q : ℕ) (d : FairCall) (i : FairPoint) (j : Option Hold) → is_held_word seen.state.words ≡ true → walk.SitsSo (fair_notes v cap patience) (λ e. not (holds_lock e)) q (Some (Calling d i j)) → (sc seen q d i j).after.plain.holders ≡ s.holders
      takes_none q d i j set so = grind (arith, set, so)

      -- by its step, a holder releases the lock, or its call is granted
      holder_steps : (n q : ℕ) (d : FairCall) (i : FairPoint) (j : Option Hold) → seat_of seen q ≡ Some (Calling d i j) → Sits q (Some (Calling d i j)) → walk.After f x seen q (sc seen q d i j) → theirs_by true (Some (Calling d i j)) ≤ suc n
          → walk.Reaches f x (sc seen q d i j) ⊎ walk.Falls f x seen l q (sc seen q d i j) n
      holder_steps n q Release First (Some Write) seat so made few = grind (arith, one_gone, others_same)
      holder_steps n q d Unregister j seat so made few = inl (rw (get-set_same seen.state.seats q (Holding Write) _ seat) refl)
      holder_steps n q d i j seat so made few = absurd (grind (arith, so))

      module _ (n : ℕ) (within : walk.Within f x seen l (suc n)) (there : seat_of seen p ≡ Some (Calling c l h)) (at : its_point l) (q : ℕ) (d : FairCall) (i : FairPoint) (j : Option Hold) (ne : q ≡ p → ⊥) (seat : seat_of seen q ≡ Some (Calling d i j)) (made : walk.After f x seen q (sc seen q d i j)) where
        abbrev falls : Type 0
        falls = walk.Reaches f x (sc seen q d i j) ⊎ walk.Falls f x seen l q (sc seen q d i j) n

        one_left : is_empty s.holders ≡ true → 1 ≤ n
        one_left is = grind (arith, at, within.mine, is)

        -- a step of a party that does not hold makes nobody a holder, or sets a clear flag
        other_steps : holds_lock (entries q s) ≡ false → (b : Bool) → is_empty s.holders ≡ b → walk.Falls f x seen l q (sc seen q d i j) n
        other_steps none true is = grind (arith, others_same, one_left, takes_clear, flag, some_starve, none, is)
        other_steps none false is = grind (arith, takes_none, flag, others_same, none, is)

        steps : (b : Bool) → holds_lock (entries q s) ≡ b → falls
        steps true found = holder_steps n q d i j seat (subst (Sits q) seat (his_sits q found)) made (subst (λ o. theirs_by true o ≤ suc n) seat (subst (λ b. theirs_by b (seat_of seen q) ≤ suc n) found (within.theirs q ne)))
        steps false none = inr (other_steps none (is_empty s.holders) refl)

      busy : (q : ℕ) (b : Bool) → holds_lock (entries q s) ≡ b → 1 ≤ theirs_by b (seat_of seen q) → is_busy (seat_of seen q) ≡ true
      busy q b found some = grind (arith, his_sits)

      some : seat_of seen p ≡ Some (Calling c l h) → its_point l → walk.Within f x seen l 0 → ⊥
      some there at none = by s.holders refl
        where
          by : (hs : List Holder) → s.holders ≡ hs → ⊥
          by [] is = grind (arith, at, none.mine, is)
          by (i ∷ hs) is = grind (arith, waits, at, none.mine, is, first_holds i hs, his_sits i.party, none.theirs i.party, cases_eq i.party p, there)

    walks : walk.Walks f x
    walks =
        record {
          fine = λ seen q move good fine. tt;
          keeps = λ seen q move l w. inr tt;
          own = λ seen l n w within made. own_by seen w.3 l w.0 n within made.opens w.1;
          steps = λ seen l n w within q d i j ne at made. steps seen w.3 l n within w.0 w.1 q d i j ne at made (holds_lock (entries q seen.plain)) refl;
          weak = λ seen l next at may. absurd (grind (arith, at, may));
          refuses = λ seen l w q d i j next ne there may. inr (λ o. grind (arith, his_sits seen w.3 l q, there, may));
          begins = λ seen l w q d i j ne there may. rw there (grind arith, λ is. grind arith);
          leaks = λ s l q h. grind arith;
          busy = λ seen l q w ne some. busy seen w.3 l q (holds_lock (entries q seen.plain)) refl some;
          some = λ seen l w none. some seen w.3 l w.0 w.1 none;
        }

  pub locks_in_five : (n : ℕ) (past : List (ℕ × Move FairCall V)) (rounds : List (List (ℕ × Move FairCall V))) → LocksInFive m n past rounds
  locks_in_five n past rounds p c l h there (asks, with_it) are few =
      let seen = seen_after m (opening m n) past in
      let at : its_call c h × its_point l = grind (arith, asks, calls_so f n past (λ e. not (is_empty e.starvers)) p there (starves_own p seen.plain.starvers with_it)) in
      walk.ends f (x p c h at.0) (walks p c h at.0) n past rounds l there at.1 tt tt are
      (λ w. record { mine = grind (arith, few); theirs = λ q ne. grind (arith, few) })
