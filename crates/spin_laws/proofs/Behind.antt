-- A writer is granted a read-write lock only after the release of each reader that held it before.
use Rattle.std.proofs.Common.{◌≡◌, ◌⊎◌, ℕ, zero, suc, ◌+◌, ◌<◌, ◌≤◌, ◌==◌, Bool, true, false, not, cond, if◌then◌else◌, Option, Some, None, List, [], ◌∷◌, ◌++◌, filter, length, replicate, refl, sym, ap, ◌∙◌, subst, arith, eq-eqb, inl, inr, ⊎_elim}
use Rattle.std.proofs.lemmas.List.{append-nil}
use Rattle.std.proofs.lemmas.List.Sums.{sum_by-cons}
use Rattle.std.proofs.lemmas.List.Elements.{filter-append}
use mathlib.Core.List.{IsPrefix}
use Rattle.spin_core.specs.Own.{Numbered, MayBe, by_party, entries_by}
use Rattle.spin_core.specs.Passes.{HasNumber, IsCall, Made, outcomes_by, own_mark}
use Rattle.spin_core.specs.declared.tie.Opening.{Opening}
use Rattle.spin_session.specs.Meaning.{model_at, table_at}
use Rattle.spin_step.specs.Acts.{Table}
use Rattle.spin_step.specs.Machines.{Machine}
use Rattle.spin_step.specs.Parties.{Entries, entries}
use Rattle.spin_step.specs.Plain.{Holder, count_kind, holder, is_empty, same_kind, writing}
use Rattle.spin_step.specs.Schedules.{Entry, after, at_first}
use Rattle.spin_step.specs.declared.answer.Answer.{Answer}
use Rattle.spin_step.specs.declared.answer.Answer.TheVariants.{Done, Granted}
use Rattle.spin_step.specs.declared.place.Hold.{Hold}
use Rattle.spin_step.specs.declared.place.Hold.TheVariants.{Read, Upgradable, Write}
use Rattle.spin_step.specs.declared.place.Seat.TheVariants.{Calling, Holding}
use Rattle.spin_step.specs.declared.schedule.Move.TheVariants.{Begin, Step}
use Rattle.spin_step.specs.declared.schedule.Outcome.TheVariants.{Answered, Begun, GoingOn}
use Rattle.spin_world_core.specs.Runs.{Scene, Seen, entries_of, held_at, opening, scene, seat_of}
use Rattle.spin_world_core.specs.Users.{seen_after}
use Rattle.spin_world_core.proofs.Every.{kept, state-seen_after}
use Rattle.spin_world_core.proofs.Held.{stays}
use Rattle.spin_world_core.proofs.Names.{false≢true}
use Rattle.spin_world_core.proofs.Preserved.{Invariant, Preserved, in_call, standing}
use Rattle.spin_world_core.proofs.Reached.{good, passes_all, row_tells}
use Rattle.spin_world_core.proofs.Schedules.{seen_after-append}
use Rattle.spin_world_core.proofs.Shapes.{Notes, row_of}
use Rattle.spin_world_core.proofs.Stands.{entries_at}
use Rattle.spin_world_core.proofs.Steps.{played, Plays}
use Rattle.spin_laws.specs.Beside.{WritesBehind}
use Rattle.spin_laws.proofs.Holding.{Keeps, both_empty, granted, raised, still_holds}
use Rattle.spin_laws.proofs.Calls.{begins_by, call_in, stays_by}

-- a hold by which its party reads or writes
abbrev pub is_kind : Hold → Bool
is_kind h = elim h [ Read ↦ true | Upgradable ↦ true | Write ↦ true | _ ↦ false ]

abbrev pub is_write : Hold → Bool
is_write h = elim h [ Write ↦ true | _ ↦ false ]

abbrev pub has_holder : Entries → Bool
has_holder e = not (is_empty e.holders)

kind_holds : (p : ℕ) (h : Hold) → is_kind h ≡ true → has_holder (entries_of p h) ≡ true
kind_holds p h is = grind (arith, is)

write_is : (h : Hold) → is_write h ≡ true → h ≡ Write
write_is h is = grind (arith, is)

same_number : {X : Type 0} (p q : ℕ) (view : Option (Numbered X)) → HasNumber p view → HasNumber q view → p ≡ q
same_number p q None is has = absurd is
same_number p q (Some u) is has = is ∙ sym has

same_as : {X : Type 0} (p q : ℕ) (view : Option (Numbered X)) → HasNumber p view → MayBe q view → p ≡ q
same_as p q None is may = absurd is
same_as p q (Some u) is may = is ∙ sym may

-- Where a party writes, no other party holds.

counted : (p : ℕ) (hs : List Holder) → filter (λ h. h.party == p) hs ≡ holder p writing ∷ [] → 0 < count_kind writing hs
counted p [] mine = absurd (cc (mine))
counted p (x ∷ xs) mine = let all = sum_by-cons (λ (h : Holder). cond (same_kind writing h.kind) 1 0) x xs in grind (arith, mine, all, counted p xs)

alone : (p q : ℕ) (hs : List Holder) → (0 < count_kind writing hs → length hs ≡ 1) → filter (λ h. h.party == p) hs ≡ holder p writing ∷ [] → is_empty (filter (λ h. h.party == q) hs) ≡ false → q ≡ p
alone p q [] one mine its = absurd (cc (mine))
alone p q (x ∷ []) one mine its = grind (arith, mine, its, eq-eqb)
alone p q (x ∷ y ∷ hs) one mine its = absurd (let e = one (counted p (x ∷ y ∷ hs) mine) in omega (arith, e))

-- if two splits of a list are the same list, one of their first parts begins the other
seam : {X : Type 0} (xs ys a b : List X) → xs ++ a ≡ ys ++ b → ((c : List X) × (xs ++ c ≡ ys) × (a ≡ c ++ b)) ⊎ IsPrefix ys xs
seam [] ys a b e = inl (ys, refl, e)
seam (x ∷ xs) [] a b e = inr (x ∷ xs, refl)
seam (x ∷ xs) (y ∷ ys) a b e =
    let head : x ≡ y = cc (e) in let tail : xs ++ a ≡ ys ++ b = cc (e) in
    ⊎_elim (λ r. inl (r.0, ap (λ l. x ∷ l) r.1 ∙ ap (λ z. z ∷ ys) head, r.2)) (λ r. inr (r.0, ap (λ l. y ∷ l) r.1 ∙ ap (λ z. z ∷ xs) (sym head))) (seam xs ys a b tail)

module _ {W V C L A B : Type 0} {t : Table W V C L B} {by : Machine W V C L A} {k : Notes t} (facts : Plays by k) where
  abbrev m : Machine W V C L A
  m = played t by

  abbrev Schedule : Type 0
  Schedule = List (Entry C V)

  abbrev at : ℕ → Schedule → Seen W V C L
  at n es = seen_after m (opening m n) es

  -- A party with this hold goes on to make the call c. As long as it has not made the last step of the call, it still holds, or is in the call.
  abbrev IsStill : ℕ → Hold → C → Seen W V C L → Type 0
  IsStill p hold c seen = (seat_of seen p ≡ Some (Holding hold)) ⊎ ((l : L) × (seat_of seen p ≡ Some (Calling c l (Some hold))))

  module _ (p : ℕ) (hold : Hold) (c : C) (a : A) (rest : Schedule) (y : Entry C V) (ys : Schedule) (left : entries_by p rest ≡ y ∷ ys) where
    not_all : (es : Schedule) → entries_by p (es ++ rest) ≡ [] → ⊥
    not_all es none =
        let mine : Entry C V → Bool = λ e. e.0 == p in
        let gone = (both_empty (filter mine es) (filter mine rest) (sym (filter-append mine es rest) ∙ none)).1 in absurd (cc (left, gone))

    abbrev GoesOn : Schedule → Type 0
    GoesOn es =
        (seen : Seen W V C L) → Invariant facts seen → (l : L) → seat_of seen p ≡ Some (Calling c l (Some hold)) → (i : ℕ) → entries_by p (es ++ rest) ≡ by_party p (replicate i Step ++ Step ∷ [])
        → outcomes_by m p seen.state (es ++ rest) ≡ replicate i GoingOn ++ Answered a None ∷ [] → (n : L) × (seat_of (seen_after m seen es) p ≡ Some (Calling c n (Some hold)))

    one_more : (x : Entry C V) (es : Schedule) → GoesOn es → GoesOn (x ∷ es)
    one_more x es go_on seen fine l there i made came = by_turn (x.0 == p) refl made came where
      now : Scene W V C L A
      now = scene m seen x.0 x.1

      promised : Preserved facts now
      promised = kept facts seen x.0 x.1 fine

      by_own : (j : ℕ) → x ∷ entries_by p (es ++ rest) ≡ by_party p (replicate j Step ++ Step ∷ []) → now.outcome ∷ outcomes_by m p now.after.state (es ++ rest) ≡ replicate j GoingOn ++ Answered a None ∷ []
          → (n : L) × (seat_of (seen_after m now.after es) p ≡ Some (Calling c n (Some hold)))
      by_own zero made' came' = absurd (not_all es (cc (made')))
      by_own (suc j) made' came' =
          let x_is : x ≡ (p, Step) = cc (made') in let comes : now.outcome ≡ GoingOn = cc (came') in let own : Scene W V C L A = scene m seen p Step in
          let on = stays_by facts p seen [] [] c l (Some hold) own.outcome own.seat (seat_of own.after p) there (subst (λ z. (scene m seen z.0 z.1).outcome ≡ GoingOn) x_is comes) (kept facts seen p Step fine).keeps.in_call in
          go_on now.after promised.good on.0 (subst (λ z. seat_of (scene m seen z.0 z.1).after p ≡ Some (Calling c on.0 (Some hold))) (sym x_is) on.1) j (cc (made')) (cc (came'))

      by_turn : (b : Bool) → (x.0 == p) ≡ b → (if b then x ∷ entries_by p (es ++ rest) else entries_by p (es ++ rest)) ≡ by_party p (replicate i Step ++ Step ∷ [])
          → (if b then now.outcome ∷ outcomes_by m p now.after.state (es ++ rest) else outcomes_by m p now.after.state (es ++ rest)) ≡ replicate i GoingOn ++ Answered a None ∷ []
          → (n : L) × (seat_of (seen_after m now.after es) p ≡ Some (Calling c n (Some hold)))
      by_turn true own made' came' = by_own i made' came'
      by_turn false other made' came' = go_on now.after promised.good l (promised.keeps.calls p c l (Some hold) (λ own. false≢true (sym other ∙ eq-eqb x.0 p own)) there) i made' came'

    calling : (es : Schedule) → GoesOn es
    calling [] = λ seen fine l there i made came. (l, there)
    calling (x ∷ es) = one_more x es (calling es)

    abbrev Starts : Schedule → Type 0
    Starts es =
        (seen : Seen W V C L) → Invariant facts seen → seat_of seen p ≡ Some (Holding hold) → (i : ℕ) → entries_by p (es ++ rest) ≡ by_party p (Begin c ∷ (replicate i Step ++ Step ∷ []))
        → outcomes_by m p seen.state (es ++ rest) ≡ Begun ∷ (replicate i GoingOn ++ Answered a None ∷ []) → IsStill p hold c (seen_after m seen es)

    first_event : (x : Entry C V) (es : Schedule) → Starts es → Starts (x ∷ es)
    first_event x es start seen fine there i made came = by_turn (x.0 == p) refl made came where
      now : Scene W V C L A
      now = scene m seen x.0 x.1

      by_own : x ∷ entries_by p (es ++ rest) ≡ by_party p (Begin c ∷ (replicate i Step ++ Step ∷ [])) → now.outcome ∷ outcomes_by m p now.after.state (es ++ rest) ≡ Begun ∷ (replicate i GoingOn ++ Answered a None ∷ [])
          → IsStill p hold c (seen_after m now.after es)
      by_own made' came' =
          let x_is : x ≡ (p, Begin c) = cc (made') in let comes : now.outcome ≡ Begun = cc (came') in let own : Scene W V C L A = scene m seen p (Begin c) in
          let begins = begins_by facts p seen [] [] c own.outcome own.seat (seat_of own.after p) (subst (λ z. (scene m seen z.0 z.1).outcome ≡ Begun) x_is comes) (kept facts seen p (Begin c) fine).keeps.in_call in
          let there' : seat_of own.after p ≡ Some (Calling c begins.0 (Some hold)) = begins.1 ∙ ap (λ s. Some (Calling c begins.0 (held_at s))) there in
          inr (calling es now.after (kept facts seen x.0 x.1 fine).good begins.0 (subst (λ z. seat_of (scene m seen z.0 z.1).after p ≡ Some (Calling c begins.0 (Some hold))) (sym x_is) there') i (cc (made')) (cc (came')))

      by_turn : (b : Bool) → (x.0 == p) ≡ b → (if b then x ∷ entries_by p (es ++ rest) else entries_by p (es ++ rest)) ≡ by_party p (Begin c ∷ (replicate i Step ++ Step ∷ []))
          → (if b then now.outcome ∷ outcomes_by m p now.after.state (es ++ rest) else outcomes_by m p now.after.state (es ++ rest)) ≡ Begun ∷ (replicate i GoingOn ++ Answered a None ∷ [])
          → IsStill p hold c (seen_after m now.after es)
      by_turn true own made' came' = by_own made' came'
      by_turn false other made' came' = start now.after (kept facts seen x.0 x.1 fine).good (stays m p hold (x ∷ []) seen there (ap (λ b. if b then x ∷ [] else []) other)) i made' came'

    beginning : (es : Schedule) → Starts es
    beginning [] = λ seen fine there i made came. inl there
    beginning (x ∷ es) = first_event x es (beginning es)

  -- at each point of the call c a party that reads or writes is in the plain lock
  abbrev pub HoldsIn : C → Type 0
  HoldsIn c = (p : ℕ) (l : L) (h : Hold) → is_kind h ≡ true → passes_all (λ row. has_holder (entries_at p row.stand)) (row_of k c l (Some h)) ≡ true

  -- A party that writes is not beside another that still holds.
  apart : (n p q : ℕ) (hold : Hold) (c : C) (es : Schedule) → HoldsIn c → is_kind hold ≡ true
      → seat_of (at n es) p ≡ Some (Holding Write) → IsStill q hold c (at n es) → q ≡ p
  apart n p q hold c es rows kind writer still =
      let fine = good facts n es in let s = (at n es).plain in
      let there : has_holder (entries q s) ≡ true =
      ⊎_elim (λ sits. ap has_holder (standing facts q fine sits) ∙ kind_holds q hold kind)
      (λ on. row_tells k c on.0 (Some hold) q s ((at n es).span q) has_holder (row_of k c on.0 (Some hold)) (in_call facts q fine on.1).knows (rows q on.0 hold kind)) still in
      alone p q s.holders fine.exclusive.writer (ap (λ (e : Entries). e.holders) (standing facts p fine writer)) (let e : not (is_empty (entries q s).holders) ≡ true = there in grind (arith, e))

  module _ (c other release : C) (a won done : A) (keeps : Keeps facts is_kind c a) (writes : Keeps facts is_write other won) (rows : HoldsIn release) {X : Type 0} (start got end view now : Option (Numbered X))
      (old new late last old' new' rest : Schedule) (made : Made m start old got new (IsCall c a)) (few : own_mark got ≤ length new) (here : IsPrefix new late) (released : Made m got late end last (IsCall release done))
      (wrote : Made m view old' now new' (IsCall other won)) (two : (p q : ℕ) → HasNumber p got → HasNumber q now → p ≡ q → ⊥) (begins : IsPrefix new new') (ends : new' ++ rest ≡ last) (p : ℕ) (number : HasNumber p end) where
    -- a number of parties that suffices for all three calls
    abbrev n : ℕ
    n = made.5.1 + (released.5.1 + wrote.5.1)

    own : released.0 ≡ p
    own = same_number released.0 p end released.2 number

    -- the writer holds after its history
    writer : (w : ℕ) × HasNumber w now × (seat_of (at n new') w ≡ Some (Holding Write))
    writer =
        let (call, so_many) = call_in facts other won view now old' new' (raised facts view now old' new' (made.5.1 + released.5.1) wrote) in
        let (hold, sits, is) = granted facts is_write other won writes call.pass.party call.pass.parties call.steps old' new' call.held call.answered in
        let same : call.pass.parties ≡ n = so_many ∙ (let e : wrote.5.1 + (made.5.1 + released.5.1) ≡ made.5.1 + (released.5.1 + wrote.5.1) = omega arith in e) in
        (call.pass.party, call.pass.is_number, subst (λ j. seat_of (at j new') call.pass.party ≡ Some (Holding Write)) same (sits ∙ ap (λ h. Some (Holding h)) (write_is hold is)))

    -- the other party holds after each history up to its release
    holds_at : (mid : Schedule) → IsPrefix new mid → IsPrefix mid late → (hold : Hold) × (is_kind hold ≡ true) × HasNumber p got × (seat_of (at n mid) p ≡ Some (Holding hold))
    holds_at mid from to =
        let (r, hold, has, kind, sits) = still_holds facts is_kind c a keeps start got old new mid late made few released.0 released.1 from to (released.5.1 + wrote.5.1) in
        let it : r ≡ p = same_as r released.0 got has released.1.0 ∙ own in
        (hold, kind, subst (λ j. HasNumber j got) it has, subst (λ j. seat_of (at n mid) j ≡ Some (Holding hold)) it sits)

    clash : (hold : Hold) → is_kind hold ≡ true → HasNumber p got → IsStill p hold release (at n new') → ⊥
    clash hold kind has still = let (w, is, sits) = writer in two p w has is (apart n w p hold release new' rows kind sits still)

    module _ (y : Entry C V) (ys : Schedule) (left : entries_by p rest ≡ y ∷ ys) where
      upto : (b : Schedule) → late ++ b ≡ new' → released.5.0 ≡ b ++ rest → ⊥
      upto b whole more =
          let (hold, kind, has, sits) = holds_at late here ([], append-nil late) in let (moves, comes, own_is, outs_is, (i, rest_is, comes_are)) = released.6 in
          let mine : entries_by p (b ++ rest) ≡ by_party p (Begin release ∷ (replicate i Step ++ Step ∷ [])) =
          ap (entries_by p) (sym more) ∙ subst (λ j. entries_by j released.5.0 ≡ by_party j released.3) own released.5.3 ∙ ap (by_party p) (own_is ∙ ap (λ l. Begin release ∷ l) rest_is) in
          let much : ℕ = made.5.1 + wrote.5.1 in let many : n ≡ released.5.1 + much = omega arith in
          let came : outcomes_by m p (at n late).state (b ++ rest) ≡ Begun ∷ (replicate i GoingOn ++ Answered done None ∷ []) =
          ap (λ s. outcomes_by m p s (b ++ rest)) (state-seen_after m (opening m n) late ∙ ap (λ j. after m (at_first m j) late) many) ∙ ap (outcomes_by m p (after m (at_first m (released.5.1 + much)) late)) (sym more)
          ∙ subst (λ j. outcomes_by m j (after m (at_first m (released.5.1 + much)) late) released.5.0 ≡ released.4) own (released.5.5 much) ∙ (outs_is ∙ ap (λ l. Begun ∷ l) comes_are) in
          let still = beginning p hold release done rest y ys left b (at n late) (good facts n late) sits i mine came in
          let led : at n new' ≡ seen_after m (at n late) b = ap (at n) (sym whole) ∙ seen_after-append m (opening m n) late b in
          clash hold kind has (subst (IsStill p hold release) (sym led) still)

      none_left : ⊥
      none_left =
          ⊎_elim (λ r. upto r.0 r.1 r.2) (λ earlier. let (hold, kind, has, sits) = holds_at new' begins earlier in clash hold kind has (inl sits)) (seam late new' released.5.0 rest (sym released.5.2 ∙ sym ends))

    by_rest : (l : Schedule) → entries_by p rest ≡ l → entries_by p rest ≡ []
    by_rest [] is = is
    by_rest (y ∷ ys) is = absurd (none_left y ys is)

    comes_after : entries_by p rest ≡ []
    comes_after = by_rest (entries_by p rest) refl

-- the same of the passes of a lock with these tables
module _ {W V C L : Type 0} (t : ℕ → V → Table W V C L (Answer V)) {k : (o : Opening V) → Notes (table_at t o)} (facts : (o : Opening V) → Plays (model_at t o) (k o)) where
  pub writes_behind : (acquires writes : C → Bool) (release : C) → ((o : Opening V) (c : C) → acquires c ≡ true → Keeps (facts o) is_kind c Granted)
      → ((o : Opening V) (c : C) → writes c ≡ true → Keeps (facts o) is_write c Granted) → ((o : Opening V) → HoldsIn (facts o) release) → WritesBehind t acquires writes release
  writes_behind acquires writes release keeps wins rows call other start got late end before now rest p acquired grant few later released number exclusive opens wrote two begins ends =
      let o = start.0 in let same : before.0 ≡ o = opens ∙ grant.2 in let late_same : late.0 ≡ o = later.0 ∙ grant.2 in
      let won : Made (model_at t o) before.1 before.2.entries now.1 now.2.entries (IsCall other Granted) = subst (λ (x : Opening V). Made (model_at t x) before.1 before.2.entries now.1 now.2.entries (IsCall other Granted)) same wrote.0 in
      let left : Made (model_at t o) got.1 late.2.entries end.1 end.2.entries (IsCall release Done) =
      subst (λ v. Made (model_at t o) v late.2.entries end.1 end.2.entries (IsCall release Done)) later.1 (subst (λ (x : Opening V). Made (model_at t x) late.1 late.2.entries end.1 end.2.entries (IsCall release Done)) late_same released.0) in
      comes_after (facts o) call other release Granted Granted Done (keeps o call acquired) (wins o other exclusive) (rows o) start.1 got.1 end.1 before.1 now.1 start.2.entries got.2.entries late.2.entries end.2.entries before.2.entries now.2.entries rest
      grant.0 few later.2 left won two begins ends p number
