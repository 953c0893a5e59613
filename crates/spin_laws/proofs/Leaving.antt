-- A proof that several locks share. If all holders of one kind do nothing but release, they leave within the first two
-- rounds. Then the waiting party can continue.
use Rattle.spin_laws.proofs.Names.{seat_of, apply_some, cases_eq, suc, ◌<◌, cases_lt, ◌≡◌, ℕ, ◌≤◌, ◌⊎◌, ◌+◌, Bool, true, false, Option, Some, None, List, length, slice_get, refl, ap, ◌∙◌, arith, inl, inr, ⊎_elim, IsOpenStep, entries, entries-other, entries-own, Hold, Seat, Idle, Calling, Next, Answers, Move, Step, Weak, Machine, goes_on, may_read, after, at_first, Seen, Scene, scene_at, joined, entries_of, Table, machine_of, ◌-◌, no_entries, entries_after, get-set_same, Plays, Invariant, Notes, StandsSo, Test, occurs, AreRounds, if◌then◌else◌}
use Rattle.spin_step.specs.Parties.{Entries}
use Rattle.spin_laws.proofs.Waiting.{is_busy}
use Rattle.spin_laws.proofs.Loads.{Wait}
use Rattle.spin_laws.proofs.Loads as walk

-- The load of a holder, a number of rounds (see Loads.antt). A holder takes one round to begin its release, and one
-- for the step of the release. To these are added the rounds that the waiting party needs after that (`bound`).
abbrev load_by : {C L : Type 0} → ℕ → Bool → Option (Seat C L) → ℕ
load_by bound holds his = if holds then elim his [ Some (Calling c l h) ↦ bound + 1 | _ ↦ bound + 2 ] else 0

load_none : {C L : Type 0} (bound n : ℕ) (b : Bool) (o : Option (Seat C L)) → load_by bound b o ≤ suc n → n < bound → b ≡ false
load_none bound n b o few less = grind (arith, few, less)

module _ {W V C L A : Type 0} {t : Table W V C L A} {n : Notes t} (f : Plays (machine_of t) n) (goal : Test V C L A) (p : ℕ) (c : C) (h : Option Hold) (At : L → Type 0) (test : Entries → Bool) (rank : L → ℕ) (bound : ℕ) where
  abbrev m : Machine W V C L A
  m = machine_of t

  abbrev World : Type 0
  World = Seen W V C L

  abbrev x : Wait W V C L A
  x = record { goal = goal; party = p; call = c; hold = h; At = At; Known = λ seen. Unit {0}; Fine = λ seen. Unit {0}; mine = λ s l. rank l; theirs = λ s l q his. load_by bound (test (entries q s)) his }

  abbrev pub Waits : World → L → Type 0
  Waits = walk.Waits f x

  abbrev pub Reaches : Scene W V C L A → Type 0
  Reaches = walk.Reaches f x

  abbrev holds : ℕ → World → Bool
  holds q seen = test (entries q seen.plain)

  abbrev pub Nobody : World → Type 0
  Nobody seen = (q : ℕ) → test (entries q seen.plain) ≡ false

  pub record Leaves : Type 0 where
    -- a party without entries in the plain lock does not pass the test
    pub none : test no_entries ≡ false
    -- the waiting party does not pass the test
    pub not_its : (l : L) → At l → StandsSo n test p c l h → ⊥
    -- a party whose hold passes the test may read
    pub reads : (q : ℕ) (h : Hold) → test (entries_of q h) ≡ true → may_read h ≡ true
    -- the waiting party's own step lowers its rank if nobody holds, unless the step reaches the goal
    pub own : (seen : World) (l : L) → Invariant f seen → seat_of seen p ≡ Some (Calling c l h) → At l
        → let sc = scene_at m seen p Step (Some (Calling c l h)) in Reaches sc ⊎ ((i : L) × (seat_of sc.after p ≡ Some (Calling c i h)) × At i × (Nobody seen → rank i ≤ rank l - 1))
    -- a spurious failure of the waiting party reaches the goal
    pub weak : (seen : World) (l : L) (next : Next L A) → At l → m.refuse c l h ≡ Some next → let x = goes_on seen.state p c h next in goal p Weak x.outcome (slice_get x.next.seats p) ≡ true
    -- a step makes no party a holder, unless the step reaches the goal
    pub comes : (seen : World) (l : L) (q : ℕ) (d : C) (i : L) (j : Option Hold) → Waits seen l → seat_of seen q ≡ Some (Calling d i j) → holds q seen ≡ false
        → let sc = scene_at m seen q Step (Some (Calling d i j)) in IsOpenStep seen.plain q sc.change → Reaches sc ⊎ (test (entries_after seen.plain sc.change (entries q seen.plain)) ≡ false)
    -- a holder's call ends by its next step, after which the party holds nothing; this step never fails spuriously
    pub releases : (q : ℕ) (d : C) (i : L) (j : Option Hold) (w : W) (v : Option V) → StandsSo n test q d i j → (a : A) × ((m.step w v d i j).next ≡ Answers a None)
    pub strong : (q : ℕ) (d : C) (i : L) (j : Option Hold) (next : Next L A) → StandsSo n test q d i j → m.refuse d i j ≡ Some next → ⊥
    pub few : (l : L) → rank l ≤ bound
    pub some : (l : L) → 1 ≤ rank l

  module _ (leaves : Leaves) where
    sits : (seen : World) → Invariant f seen → (q : ℕ) → holds q seen ≡ true → walk.SitsSo n test q (seat_of seen q)
    sits seen good q found = walk.sits_so n test seen good q found

    -- after its step the party does not hold, or the step reaches the goal
    gone : (seen : World) (l : L) (q : ℕ) (d : C) (i : L) (j : Option Hold) → Waits seen l → seat_of seen q ≡ Some (Calling d i j)
        → let sc = scene_at m seen q Step (Some (Calling d i j)) in walk.After f x seen q sc → Reaches sc ⊎ (holds q sc.after ≡ false)
    gone seen l q d i j w there made = by (holds q seen) refl
      where
        by : (b : Bool) → holds q seen ≡ b → let sc = scene_at m seen q Step (Some (Calling d i j)) in Reaches sc ⊎ (holds q sc.after ≡ false)
        by true found = grind (arith, leaves.releases q d i j seen.state.words seen.state.value, sits seen w.3 q found, there, get-set_same {X = Seat C L} seen.state.seats q Idle _ there, (made.good.parties q).stands, leaves.none)
        by false none = grind (arith, none, entries-own seen.plain q (scene_at m seen q Step (Some (Calling d i j))).change made.opens, leaves.comes seen l q d i j w there none made.opens)

    strong_there : (seen : World) → Invariant f seen → (q : ℕ) (d : C) (i : L) (j : Option Hold) (next : Next L A) → seat_of seen q ≡ Some (Calling d i j) → m.refuse d i j ≡ Some next → holds q seen ≡ false
    strong_there seen good q d i j next there may = grind (arith, sits)

    not_mine : (seen : World) (l : L) → Waits seen l → holds p seen ≡ false
    not_mine seen l w = grind (arith, sits)

    busy : (seen : World) → Invariant f seen → (q : ℕ) (b : Bool) → holds q seen ≡ b → 1 ≤ load_by bound b (seat_of seen q) → is_busy (seat_of seen q) ≡ true
    busy seen good q b found some = grind (arith, sits)

    same_load : (seen : World) (q o : ℕ) (sc : Scene W V C L A) → (q ≡ o → ⊥) → IsOpenStep seen.plain q sc.change → sc.after.plain ≡ apply_some seen.plain sc.change → load_by bound (test (entries o sc.after.plain)) (seat_of seen o) ≤ load_by bound (holds o seen) (seat_of seen o)
    same_load seen q o sc ne opens plain = omega (arith, ap (λ e. load_by bound (test e) (seat_of seen o)) (ap (entries o) plain ∙ entries-other seen.plain q o sc.change ne opens))

    own : (seen : World) (l : L) (r : ℕ) → Waits seen l → walk.Within f x seen l (suc r) → let sc = scene_at m seen p Step (Some (Calling c l h)) in walk.After f x seen p sc → walk.Own f x seen l r sc
    own seen l r w within made =
        ⊎_elim inl (λ on. inr (on.0, on.1, on.2, low on.0 on.3, λ o other not_its. omega (arith, same_load seen p o (scene_at m seen p Step (Some (Calling c l h))) not_its made.opens refl))) (leaves.own seen l w.3 w.0 w.1)
      where
        low : (i : L) → (Nobody seen → rank i ≤ rank l - 1) → rank i ≤ r
        low i on =
            ⊎_elim (λ less. omega (arith, within.mine, on (λ q. ⊎_elim (λ is. ap (λ i. holds i seen) is ∙ not_mine seen l w) (λ ne. load_none bound r (holds q seen) (seat_of seen q) (within.theirs q ne) less) (cases_eq q p))))
            (λ no_less. omega (arith, leaves.few i, no_less)) (cases_lt r bound)

    walks : walk.Walks f x
    walks =
        record {
          fine = λ seen q move good fine. tt;
          keeps = λ seen q move l w. inr tt;
          own = own;
          steps = λ seen l r w within q d i j ne there made. grind (arith, gone seen l q d i j w there made, same_load seen q, made.opens);
          weak = leaves.weak;
          refuses = λ seen l w q d i j next ne there may. inr (λ o. rw (strong_there seen w.3 q d i j next there may) (omega arith));
          begins = λ seen l w q d i j ne there may. rw there (grind arith, λ is. grind arith);
          leaks = λ s l q h. grind arith;
          busy = λ seen l q w ne long. busy seen w.3 q (holds q seen) refl long;
          some = λ seen l w none. omega (arith, none.mine, leaves.some l);
        }

    -- the goal is reached in two rounds more than the waiting party takes alone
    pub two_rounds : (number : ℕ) (past : List (ℕ × Move C V)) (rounds : List (List (ℕ × Move C V))) (l : L) → let s = after m (at_first m number) past in slice_get s.seats p ≡ Some (Calling c l h) → At l
        → AreRounds m s rounds → 2 + bound ≤ length rounds → occurs m goal s (joined rounds) ≡ true
    two_rounds number past rounds l there at are long =
        walk.ends f x walks number past rounds l there at tt tt are
        (λ w. record { mine = omega (arith, leaves.few l, long); theirs = λ q ne. grind (arith, long) })
