-- A party that has got a lock holds it until its next move, whatever others do meanwhile.
use Rattle.std.proofs.Common.{◌≡◌, ℕ, ◌+◌, ◌≤◌, ◌==◌, Bool, true, false, Option, Some, None, List, [], ◌∷◌, ◌++◌, filter, length, drop, is_some, slice_get, refl, sym, ap, ◌∙◌, subst, arith}
use Rattle.std.specs.List.{list_all}
use Rattle.std.proofs.lemmas.List.{append_assoc, drop-append-le}
use Rattle.std.proofs.lemmas.List.Elements.{filter-append}
use mathlib.Core.List.{IsPrefix}
use Rattle.spin_core.specs.Own.{Numbered, MadeNone, entries_by}
use Rattle.spin_core.specs.Passes.{Course, HasNumber, IsCall, Made, own_mark}
use Rattle.spin_core.specs.Run.{is_played, outcomes_of}
use Rattle.spin_core.specs.Passes.{outcomes_by}
use Rattle.spin_step.specs.Plain.{Plain}
use Rattle.spin_step.specs.Parties.{entries, is_held}
use Rattle.spin_step.specs.declared.place.Hold.{Hold}
use Rattle.spin_step.specs.declared.place.Seat.{Seat}
use Rattle.spin_step.specs.declared.place.Seat.TheVariants.{Calling, Holding}
use Rattle.spin_step.specs.declared.schedule.Move.TheVariants.{Step}
use Rattle.spin_step.specs.declared.schedule.Outcome.TheVariants.{Answered}
use Rattle.spin_step.specs.declared.stepped.Next.{Next}
use Rattle.spin_step.specs.declared.stepped.Next.TheVariants.{Continue, Answers}
use Rattle.spin_core.specs.declared.tie.Opening.{Opening}
use Rattle.spin_session.specs.Meaning.{model_at, table_at}
use Rattle.spin_step.specs.Acts.{Table}
use Rattle.spin_step.specs.Asks.{same}
use Rattle.spin_step.specs.Calls as meaning
use Rattle.spin_step.specs.Calls.{Mark}
use Rattle.spin_step.specs.declared.answer.Answer.{Answer}
use Rattle.spin_step.specs.declared.answer.Answer.TheVariants.{Granted, Is}
use Rattle.spin_step.specs.Machines.{Machine}
use Rattle.spin_step.specs.Schedules.{State, Entry, after, at_first, goes_on, may_read, placed, resting}
use Rattle.spin_step.proofs.Lists.{get-set_same}
use Rattle.spin_world_core.specs.Runs.{Seen, entries_of, opening, scene, scene_at, seat_of}
use Rattle.spin_world_core.specs.Users.{seen_after}
use Rattle.spin_world_core.proofs.Held.{stays}
use Rattle.spin_world_core.proofs.Preserved.{Invariant, in_call, standing}
use Rattle.spin_world_core.proofs.Reached.{good}
use Rattle.spin_world_core.proofs.Schedules.{seen_after-append}
use Rattle.spin_world_core.proofs.Rows.{Row}
use Rattle.spin_world_core.proofs.Shapes.{KnowsRow, Notes, row_of}
use Rattle.spin_world_core.proofs.Steps.{played, Plays}
use Rattle.spin_laws.specs.Moments.{Was}
use Rattle.spin_laws.specs.Beside.{LooksTrue}
use Rattle.spin_laws.proofs.Calls.{IsAnswered, call_in, one_more}
use Rattle.spin_laws.proofs.Moments.{found_in, same_is}

pub both_empty : {X : Type 0} (xs ys : List X) → xs ++ ys ≡ [] → (xs ≡ []) × (ys ≡ [])
both_empty [] ys none = (refl, none)
both_empty (x ∷ xs) ys none = absurd (cc (none))

through : {X : Type 0} (old mid late : List X) → IsPrefix old mid → IsPrefix mid late → IsPrefix old late
through old mid late (r, here) (s, there) = (r ++ s, sym (append_assoc old r s) ∙ ap (λ l. l ++ s) here ∙ there)

-- a party that knew its own steps, and has made no move up to `late`, has made none up to an earlier history
made_none : {C V X : Type 0} (p q : ℕ) (view : Option (Numbered X)) (old mid late : List (Entry C V)) → HasNumber p view → own_mark view ≤ length old → MadeNone late q view
    → (here : IsPrefix old mid) → IsPrefix mid late → entries_by p here.0 ≡ []
made_none p q None old mid late is few none here there = absurd is
made_none {C} {V} p q (Some u) old mid late is few (may, none) (r, here) (s, there) =
    let mine : Entry C V → Bool = λ e. e.0 == p in
    let gone : filter mine (drop u.2 late) ≡ [] = subst (λ i. filter (λ (e : Entry C V). e.0 == i) (drop u.2 late) ≡ []) (may ∙ sym is) none in
    let whole : old ++ (r ++ s) ≡ late = sym (append_assoc old r s) ∙ ap (λ l. l ++ s) here ∙ there in
    let parts : filter mine (drop u.2 old) ++ filter mine (r ++ s) ≡ [] = sym (filter-append mine (drop u.2 old) (r ++ s)) ∙ ap (filter mine) (sym (drop-append-le u.2 old (r ++ s) few) ∙ ap (drop u.2) whole) ∙ gone in
    let rest : filter mine r ++ filter mine s ≡ [] = sym (filter-append mine r s) ∙ (both_empty (filter mine (drop u.2 old)) (filter mine (r ++ s)) parts).1 in
    (both_empty (filter mine r) (filter mine s) rest).0

-- the party holds something, which passes the test
abbrev pub holds_so : (Hold → Bool) → Option Hold → Bool
holds_so test o = elim o [ None ↦ false | Some h ↦ test h ]

some_hold : (test : Hold → Bool) (o : Option Hold) → holds_so test o ≡ true → (hold : Hold) × (o ≡ Some hold) × (test hold ≡ true)
some_hold test None so = absurd (cc (so))
some_hold test (Some h) so = (h, refl, so)

-- a party that holds more than a registration is in the plain lock
held_by : (h : Hold) (p : ℕ) (s : Plain) → may_read h ≡ true → entries p s ≡ entries_of p h → is_held s ≡ true
held_by h p s reads is = grind (arith, reads, is)

module _ {W V C L A B : Type 0} {t : Table W V C L B} {by : Machine W V C L A} {k : Notes t} (facts : Plays by k) where
  abbrev m : Machine W V C L A
  m = played t by

  abbrev Schedule : Type 0
  Schedule = List (Entry C V)

  -- a world of n parties after this history
  abbrev at : ℕ → Schedule → Seen W V C L
  at n es = seen_after m (opening m n) es

  -- each answer a of the call c, at a point with a row, leaves its party a hold that passes the test
  abbrev pub Keeps : (Hold → Bool) → C → A → Type 0
  Keeps test c a = (w : W) (v : Option V) (l : L) (h after : Option Hold) → is_some (row_of k c l h) ≡ true → (m.step w v c l h).next ≡ Answers a after → holds_so test after ≡ true

  -- so it is in a world of more parties
  abbrev pub raised : {X : Type 0} {P : Course V C A} (view now : Option (Numbered X)) (old new : Schedule) (more : ℕ) → Made m view old now new P → Made m view old now new P
  raised view now old new more made =
      let did = made.5 in let least = did.1 in let so_many : (j : ℕ) → least + (more + j) ≡ least + more + j = λ j. omega arith in (
        made.0,
        made.1,
        made.2,
        made.3,
        made.4,
        (
          did.0,
          least + more,
          did.2,
          did.3,
          λ j. subst (λ n. list_all is_played (outcomes_of m (at_first m n) new) ≡ true) (so_many j) (did.4 (more + j)),
          λ j. subst (λ n. outcomes_by m made.0 (after m (at_first m n) old) did.0 ≡ made.4) (so_many j) (did.5 (more + j)),
        ),
        made.6,
      )

  rests : (s : State W V C L) (p : ℕ) (c : C) (h : Option Hold) (a : A) (y : Seat C L) → slice_get s.seats p ≡ Some y → (next : Next L A) → (goes_on {V = V} s p c h next).outcome ≡ Answered a None
      → (after : Option Hold) × (next ≡ Answers a after) × (slice_get (goes_on {V = V} s p c h next).next.seats p ≡ Some (resting after))
  rests s p c h a y there (Continue l) comes = absurd (cc (comes))
  rests s p c h a y there (Answers b after) comes = (after, ap (λ x. Answers x after) (let e : b ≡ a = cc (comes) in e), get-set_same s.seats p (resting after) y there)

  has_row : (c : C) (l : L) (h : Option Hold) (p : ℕ) (s : Plain) (span : List Mark) (o : Option Row) → KnowsRow k c l h p s span o → is_some o ≡ true
  has_row c l h p s span None knows = absurd knows
  has_row c l h p s span (Some row) knows = refl

  module _ (test : Hold → Bool) (c : C) (a : A) (keeps : Keeps test c a) where
    -- the step that so answers the call leaves its party the hold
    answered : (seen : Seen W V C L) → Invariant facts seen → (p : ℕ) (l : L) (h : Option Hold) → seat_of seen p ≡ Some (Calling c l h) → (scene m seen p Step).outcome ≡ Answered a None
        → (hold : Hold) × (seat_of (scene m seen p Step).after p ≡ Some (Holding hold)) × (test hold ≡ true)
    answered seen fine p l h there comes =
        let s = seen.state in let st = m.step s.words s.value c l h in
        let (after, next_is, sits) = rests (record s { words = st.words; value = placed st.placed s.value }) p c h a (Calling c l h) there st.next (subst (λ o. (scene_at m seen p Step o).outcome ≡ Answered a None) there comes) in
        let row = has_row c l h p seen.plain (seen.span p) (row_of k c l h) (in_call facts p fine there).knows in
        let (hold, is, so) = some_hold test after (keeps s.words s.value l h after row next_is) in
        (hold, subst (λ o. seat_of (scene_at m seen p Step o).after p ≡ Some (Holding hold)) (sym there) (sits ∙ ap (λ x. Some (resting x)) is), so)

    holds_on : (n p : ℕ) (hold : Hold) (old more : Schedule) → seat_of (at n old) p ≡ Some (Holding hold) → entries_by p more ≡ [] → seat_of (at n (old ++ more)) p ≡ Some (Holding hold)
    holds_on n p hold old more there none = ap (λ z. seat_of z p) (seen_after-append m (opening m n) old more) ∙ stays m p hold more (at n old) there none

    -- the party holds after the history that it then knows
    pub granted : (p n j : ℕ) (old new : Schedule) (h : Option Hold) → IsAnswered facts p (opening m n) old new c h a j → (hold : Hold) × (seat_of (at n new) p ≡ Some (Holding hold)) × (test hold ≡ true)
    granted p n j old new h it =
        let (hold, sits, so) = answered it.seen it.fine p it.point h it.there it.comes in
        let led : at n (it.past ++ (p, Step) ∷ []) ≡ (scene m it.seen p Step).after = one_more facts (opening m n) it.past (p, Step) ∙ ap (λ z. (scene m z p Step).after) (sym it.leads) in
        (hold, subst (λ es. seat_of (at n es) p ≡ Some (Holding hold)) it.before.1 (holds_on n p hold (it.past ++ (p, Step) ∷ []) it.before.0 (ap (λ z. seat_of z p) led ∙ sits) it.quiet), so)

    -- A party gets this answer, and makes no move up to `late`. It holds the lock after each history in between.
    module _ {X : Type 0} (start now : Option (Numbered X)) (old new mid late : Schedule) (made : Made m start old now new (IsCall c a)) (few : own_mark now ≤ length new)
        (q : ℕ) (none : MadeNone late q now) (here : IsPrefix new mid) (there : IsPrefix mid late) where
      pub still_holds : (more : ℕ) → (p : ℕ) × (hold : Hold) × HasNumber p now × (test hold ≡ true) × (seat_of (at (made.5.1 + more) mid) p ≡ Some (Holding hold))
      still_holds more =
          let (call, so_many) = call_in facts c a start now old new (raised start now old new more made) in let p = call.pass.party in let n = call.pass.parties in
          let (hold, sits, so) = granted p n call.steps old new call.held call.answered in
          let on : seat_of (at n mid) p ≡ Some (Holding hold) =
          subst (λ es. seat_of (at n es) p ≡ Some (Holding hold)) here.1 (holds_on n p hold new here.0 sits (made_none p q now new mid late call.pass.is_number few none here there)) in
          (p, hold, call.pass.is_number, so, subst (λ j. seat_of (at j mid) p ≡ Some (Holding hold)) so_many on)

  -- While a party holds more than a registration, each look finds the lock held.
  module _ (c look : C) (a : A) (is : Bool → A) (keeps : Keeps may_read c a) (says : (held : Bool) (h : Option Hold) → (m.asks look h).answers (m.says (is held)) ≡ meaning.found (λ p s. same held (is_held s))) where
    looks_true : {X : Type 0} (held : Bool) (start got view now : Option (Numbered X)) (old new old' new' late : Schedule) → Made m start old got new (IsCall c a) → own_mark got ≤ length new → (q : ℕ) → MadeNone late q got
        → IsPrefix new old' → Made m view old' now new' (IsCall look (is held)) → IsPrefix new' late → held ≡ true
    looks_true {X} held start got view now old new old' new' late made few q none here looked there =
        let so = found_in facts (λ p s. same held (is_held s)) (says held) {Q = Was is_held held} (λ p l h seen call is. same_is (is_held seen.plain) held is) view now old' new' (raised view now old' new' made.5.1 looked) in
        let r = so.0 in let n = r.pass.parties in
        let so_many : made.5.1 + looked.5.1 ≡ n = let e : made.5.1 + looked.5.1 ≡ looked.5.1 + made.5.1 = omega arith in e ∙ sym so.1 in
        let (p, hold, number, reads, sits) = still_holds may_read c a keeps start got old new r.moment late made few q none (through new old' r.moment here r.behind) (through r.moment new' late r.before there) looked.5.1 in
        let seated : seat_of (at n r.moment) p ≡ Some (Holding hold) = subst (λ j. seat_of (at j r.moment) p ≡ Some (Holding hold)) so_many sits in
        sym r.so ∙ held_by hold p (at n r.moment).plain reads (standing facts p (good facts n r.moment) seated)

-- the same of the passes of a lock with these tables
module _ {W V C L : Type 0} (t : ℕ → V → Table W V C L (Answer V)) {k : (o : Opening V) → Notes (table_at t o)} (facts : (o : Opening V) → Plays (model_at t o) (k o)) where
  pub looks_so : (acquires : C → Bool) (look : C) → ((o : Opening V) (c : C) → acquires c ≡ true → Keeps (facts o) may_read c Granted)
      → ((o : Opening V) (held : Bool) (h : Option Hold) → ((table_at t o).asks look h).answers ((table_at t o).says (Is held)) ≡ meaning.found (λ p s. same held (is_held s)))
      → LooksTrue t acquires look
  looks_so acquires look keeps says held call start granted before now late acquired grant few opens begins looked ends later rests =
      let o = start.0 in let same : before.0 ≡ o = opens ∙ grant.2 in
      let found : Made (model_at t o) before.1 before.2.entries now.1 now.2.entries (IsCall look (Is held)) = subst (λ (x : Opening V). Made (model_at t x) before.1 before.2.entries now.1 now.2.entries (IsCall look (Is held))) same looked.0 in
      looks_true (facts o) call look Granted Is (keeps o call acquired) (says o) held start.1 granted.1 before.1 now.1 start.2.entries granted.2.entries before.2.entries now.2.entries late.2.entries grant.0 few rests.0
      (subst (λ (v : Option (Numbered (Seat C L))). MadeNone late.2.entries rests.0 v) later.1 rests.1) begins found ends
