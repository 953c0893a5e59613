-- A call of a pass in the history: where its steps stand, and where it is answered.
use Rattle.std.proofs.Common.{◌≡◌, ◌⊎◌, ℕ, zero, suc, ◌+◌, ◌==◌, if◌then◌else◌, Bool, true, false, Option, Some, None, List, [], ◌∷◌, ◌++◌, length, replicate, slice_get, refl, sym, ap, ◌∙◌, subst, arith, eq-eqb}
use mathlib.Core.List.{IsPrefix}
use mathlib.Core.Logic.{inl, inr}
use Rattle.std.specs.List.{All}
use Rattle.std.proofs.lemmas.List.{append_assoc, append-nil, length-append, length-map, length-replicate}
use Rattle.std.proofs.lemmas.List.Elements.{All-nil, All-cons}
use Rattle.spin_core.specs.Own.{Numbered, by_party, entries_by}
use Rattle.spin_core.specs.Passes.{IsCall, outcomes_by, Made}
use Rattle.spin_step.specs.Calls.{Mark, limit}
use Rattle.spin_step.specs.declared.place.Hold.{Hold}
use Rattle.spin_step.specs.declared.place.Seat.{Seat}
use Rattle.spin_step.specs.declared.place.Seat.TheVariants.{Calling}
use Rattle.spin_step.specs.declared.schedule.Move.{Move}
use Rattle.spin_step.specs.declared.schedule.Move.TheVariants.{Begin, Step}
use Rattle.spin_step.specs.declared.schedule.Outcome.{Outcome}
use Rattle.spin_step.specs.declared.schedule.Outcome.TheVariants.{Begun, GoingOn, Answered}
use Rattle.spin_step.specs.Acts.{Table}
use Rattle.spin_step.specs.Machines.{Machine}
use Rattle.spin_step.specs.Schedules.{Entry, after, at_first}
use Rattle.spin_world_core.specs.Runs.{seat_of, Seen, Scene, scene, opening, span_after, own_count, held_at, InItsCall, ContinuesWithin}
use Rattle.spin_world_core.specs.Users.{seen_after}
use Rattle.spin_world_core.proofs.Shapes.{Notes}
use Rattle.spin_world_core.proofs.Steps.{played, Plays}
use Rattle.spin_world_core.proofs.Preserved.{Invariant, Preserved}
use Rattle.spin_world_core.proofs.Every.{state-seen_after, kept}
use Rattle.spin_world_core.proofs.Reached.{good}
use Rattle.spin_laws.specs.Counts.{AfterEachStep}
use Rattle.spin_laws.specs.Moments.{OfPass}

module _ {W V C L A B : Type 0} {t : Table W V C L B} {by : Machine W V C L A} {k : Notes t} (facts : Plays by k) where
  abbrev m : Machine W V C L A
  m = played t by

  abbrev Schedule : Type 0
  Schedule = List (Entry C V)

  -- one event, and the state after it
  abbrev pub event : Seen W V C L → Entry C V → Scene W V C L A
  event seen x = scene m seen x.0 x.1

  -- the span of a party after its next step
  abbrev pub span_of : ℕ → Seen W V C L → List Mark
  span_of p seen = (event seen (p, Step)).after.span p

  -- this call of a party that held `h` before it can still keep its limit
  abbrev Continues : C → Option Hold → ℕ → List Mark → Type 0
  Continues c h = ContinuesWithin (limit m.lock_kind (m.asks c h)) m.lock_kind

  pub one_more : (seen : Seen W V C L) (xs : Schedule) (x : Entry C V) → seen_after m seen (xs ++ x ∷ []) ≡ (event (seen_after m seen xs) x).after
  one_more seen [] x = refl
  one_more seen (y ∷ xs) x = one_more (event seen y).after xs x

  pub longer : (old xs : Schedule) (x : Entry C V) → IsPrefix old xs → IsPrefix old (xs ++ x ∷ [])
  longer old xs x (rest, is) = (rest ++ x ∷ [], sym (append_assoc old rest (x ∷ [])) ∙ ap (λ z. z ++ x ∷ []) is)

  module _ (p : ℕ) (start : Seen W V C L) (old new : Schedule) where
    -- The step was made after some prefix of `new`, and `old` is a prefix of that prefix. The party was then in this call.
    abbrev pub IsBetween : C → Option Hold → Mark → Type 0
    IsBetween c h mark =
        (past : Schedule) × IsPrefix old past × IsPrefix past new × (mark.before ≡ (seen_after m start past).plain) × ((l : L) × (seat_of (seen_after m start past) p ≡ Some (Calling c l h)))

    -- The call gets this answer by a step of the party after a prefix of `new`. The call's span has n steps of the party.
    pub record IsAnswered (c : C) (h : Option Hold) (a : A) (n : ℕ) : Type 0 where
      pub past : Schedule
      pub seen : Seen W V C L
      pub leads : seen ≡ seen_after m start past
      pub known : IsPrefix old past
      pub before : IsPrefix (past ++ (p, Step) ∷ []) new
      -- the party makes no further move
      pub quiet : entries_by p before.0 ≡ []
      pub fine : Invariant facts seen
      pub point : L
      pub there : seat_of seen p ≡ Some (Calling c point h)
      pub comes : (event seen (p, Step)).outcome ≡ Answered a None
      pub so_far : AfterEachStep (Continues c h) p (seen.span p)
      pub span : All (IsBetween c h) (span_of p seen)
      pub count : own_count p (span_of p seen) ≡ n

    module _ (P : Mark → Type 0) where
      cleared : (b : Bool) (span : List Mark) → All P span → All P (if b then [] else span)
      cleared b span all = grind (arith, all)

      span_kept : (o : Outcome A V) (mark : Mark) (span : ℕ → List Mark) → P mark → All P (span p) → All P (span_after o mark span p)
      span_kept o mark span is all = grind (arith, all, cleared, All-cons P mark (span p) is all, All-nil P)

    module _ (P : ℕ → List Mark → Type 0) where
      -- if P holds after each step of the span, it does so also after another party's step
      keeps_other : (o : Outcome A V) (mark : Mark) (span : ℕ → List Mark) → (mark.party == p) ≡ false → (mark.party ≡ p → ⊥) → AfterEachStep P p (span p) → AfterEachStep P p (span_after o mark span p)
      keeps_other o mark span other not_its kept = grind (arith, kept)

      -- and after a step of its own after which P holds
      keeps_own : (o : Outcome A V) (mark : Mark) (span : ℕ → List Mark) → o ≡ GoingOn → P p (span_after o mark span p) → AfterEachStep P p (span p) → AfterEachStep P p (span_after o mark span p)
      keeps_own o mark span comes now kept = grind (arith, comes, now, kept)

    count_mine : (a : A) (o : Outcome A V) (mark : Mark) (span : ℕ → List Mark) → mark.party ≡ p → (o ≡ GoingOn) ⊎ (o ≡ Answered a None) → own_count p (span_after o mark span p) ≡ own_count p (span p) + 1
    count_mine a o mark span mine steps = grind (arith, mine, steps, eq-eqb mark.party p mine)

    pub stays_by : (c : C) (l : L) (h : Option Hold) (o : Outcome A V) (seat now : Option (Seat C L)) → seat ≡ Some (Calling c l h) → o ≡ GoingOn → InItsCall {V = V} {L = L} o Step seat now → (next : L) × (now ≡ Some (Calling c next h))
    stays_by c l h o seat now there comes in_call = subst (λ r. InItsCall {V = V} {L = L} r Step (Some (Calling c l h)) now) comes (subst (λ y. InItsCall {V = V} {L = L} o Step y now) there in_call)

    pub begins_by : (c : C) (o : Outcome A V) (seat now : Option (Seat C L)) → o ≡ Begun → InItsCall {V = V} {L = L} o (Begin c) seat now → (l : L) × (now ≡ Some (Calling c l (held_at seat)))
    begins_by c o seat now comes in_call = subst (λ r. InItsCall {V = V} {L = L} r (Begin c) seat now) comes in_call

    -- the moves that the party still makes in its call: i steps after which it continues, and one that answers it
    abbrev to_make : ℕ → List (Move C V)
    to_make i = replicate i Step ++ Step ∷ []

    abbrev to_come : ℕ → A → List (Outcome A V)
    to_come i a = replicate i GoingOn ++ Answered a None ∷ []

    nothing_made : (i : ℕ) → [] ≡ by_party p (to_make i) → ⊥
    nothing_made i e = grind arith

    another : (q : ℕ) → (q == p) ≡ false → q ≡ p → ⊥
    another q other same = absurd (cc (other, eq-eqb q p same))

    -- `seen` is the world after `xs`, where `xs` begins with `old`, and `new` is `xs` followed by `es`
    abbrev IsAt : Schedule → Schedule → Seen W V C L → Type 0
    IsAt xs es seen = (seen ≡ seen_after m start xs) × IsPrefix old xs × (xs ++ es ≡ new) × Invariant facts seen

    on_by : (x : Entry C V) (es xs : Schedule) (seen : Seen W V C L) → IsAt xs (x ∷ es) seen → IsAt (xs ++ x ∷ []) es (event seen x).after
    on_by x es xs seen at =
        let leads = ap (λ z. (event z x).after) at.0 ∙ sym (one_more start xs x) in
        (leads, longer old xs x at.1, append_assoc xs (x ∷ []) es ∙ at.2, (kept facts seen x.0 x.1 at.3).good)

    -- what follows from the entries `es` for a party that is in its call
    abbrev Walks : Schedule → Type 0
    Walks es =
        (xs : Schedule) (seen : Seen W V C L) → IsAt xs es seen → (c : C) (l : L) (h : Option Hold) → seat_of seen p ≡ Some (Calling c l h) → All (IsBetween c h) (seen.span p)
        → AfterEachStep (Continues c h) p (seen.span p) → (i : ℕ) (a : A) → entries_by p es ≡ by_party p (to_make i) → outcomes_by m p seen.state es ≡ to_come i a → IsAnswered c h a (own_count p (seen.span p) + suc i)

    one_event : (x : Entry C V) (es : Schedule) → Walks es → Walks (x ∷ es)
    one_event x es walks xs seen at c l h there span kept_on i a made came = by_turn (x.0 == p) refl made came where
      s : Scene W V C L A
      s = event seen x

      promised : Preserved facts s
      promised = kept facts seen x.0 x.1 at.3

      mark : Mark
      mark = record { party = x.0; change = s.change; step_kind = s.step_kind; before = seen.plain; after = s.after.plain }

      here : IsBetween c h mark
      here = (xs, at.1, (x ∷ es, at.2), ap (λ (z : Seen W V C L). z.plain) at.0, (l, subst (λ (z : Seen W V C L). seat_of z p ≡ Some (Calling c l h)) at.0 there))

      all : All (IsBetween c h) (s.after.span p)
      all = span_kept (IsBetween c h) s.outcome mark seen.span here span

      on : (next : L) → seat_of s.after p ≡ Some (Calling c next h) → AfterEachStep (Continues c h) p (s.after.span p) → (j : ℕ) → own_count p (s.after.span p) + suc j ≡ own_count p (seen.span p) + suc i
          → entries_by p es ≡ by_party p (to_make j) → outcomes_by m p s.after.state es ≡ to_come j a → IsAnswered c h a (own_count p (seen.span p) + suc i)
      on next stays still j counts made' came' = subst (IsAnswered c h a) counts (walks (xs ++ x ∷ []) s.after (on_by x es xs seen at) c next h stays all still j a made' came')

      by_own : (j : ℕ) → j ≡ i → x ∷ entries_by p es ≡ by_party p (to_make j) → s.outcome ∷ outcomes_by m p s.after.state es ≡ to_come j a → IsAnswered c h a (own_count p (seen.span p) + suc i)
      by_own zero so made' came' =
          let x_is : x ≡ (p, Step) = cc (made') in let comes : s.outcome ≡ Answered a None = cc (came') in
          record {
            past = xs;
            seen = seen;
            leads = at.0;
            known = at.1;
            before = (es, append_assoc xs ((p, Step) ∷ []) es ∙ ap (λ y. xs ++ y ∷ es) (sym x_is) ∙ at.2);
            quiet = cc (made');
            fine = at.3;
            point = l;
            there = there;
            comes = subst (λ y. (event seen y).outcome ≡ Answered a None) x_is comes;
            so_far = kept_on;
            span = subst (λ y. All (IsBetween c h) ((event seen y).after.span p)) x_is all;
            count = subst (λ y. own_count p ((event seen y).after.span p) ≡ own_count p (seen.span p) + suc i) x_is (let c = count_mine a s.outcome mark seen.span (ap (λ y. y.0) x_is) (inr comes) in omega (arith, c, so));
          }
      by_own (suc j) so made' came' =
          let x_is : x ≡ (p, Step) = cc (made') in let comes : s.outcome ≡ GoingOn = cc (came') in let own : Scene W V C L A = event seen (p, Step) in
          let stays = stays_by c l h own.outcome own.seat (seat_of own.after p) there (subst (λ y. (event seen y).outcome ≡ GoingOn) x_is comes) (kept facts seen p Step at.3).keeps.in_call in
          let going : own.outcome ≡ GoingOn = subst (λ y. (event seen y).outcome ≡ GoingOn) x_is comes in
          let own_mark : Mark = record { party = p; change = own.change; step_kind = own.step_kind; before = seen.plain; after = own.after.plain } in
          let timely : Continues c h p (own.after.span p) = grind (arith, there, going, (kept facts seen p Step at.3).in_time.in_time) in
          let still : AfterEachStep (Continues c h) p (s.after.span p) = subst (λ y. AfterEachStep (Continues c h) p ((event seen y).after.span p)) (sym x_is) (keeps_own (Continues c h) own.outcome own_mark seen.span going timely kept_on) in
          on stays.0 (subst (λ y. slice_get (event seen y).after.state.seats p ≡ Some (Calling c stays.0 h)) (sym x_is) stays.1) still j (let c = count_mine a s.outcome mark seen.span (ap (λ y. y.0) x_is) (inl comes) in omega (arith, c, so)) (cc (made')) (cc (came'))

      by_turn : (b : Bool) → (x.0 == p) ≡ b → (if b then x ∷ entries_by p es else entries_by p es) ≡ by_party p (to_make i) → (if b then s.outcome ∷ outcomes_by m p s.after.state es else outcomes_by m p s.after.state es) ≡ to_come i a
          → IsAnswered c h a (own_count p (seen.span p) + suc i)
      by_turn true same made' came' = by_own i refl made' came'
      by_turn false same made' came' = on l (promised.keeps.calls p c l h (another x.0 same) there) (keeps_other (Continues c h) s.outcome mark seen.span same (another x.0 same) kept_on) i (let c : own_count p (s.after.span p) ≡ own_count p (seen.span p) = grind (arith, same) in omega (arith, c)) made' came'

    walk : (es : Schedule) → Walks es
    walk [] = λ xs seen at c l h there span kept_on i a made came. absurd (nothing_made i made)
    walk (x ∷ es) = one_event x es (walk es)

    -- what follows from the entries `es` for a party whose first move in them begins its call
    abbrev Starts : Schedule → Type 0
    Starts es =
        (xs : Schedule) (seen : Seen W V C L) → IsAt xs es seen → (c : C) (i : ℕ) (a : A) → entries_by p es ≡ by_party p (Begin c ∷ to_make i) → outcomes_by m p seen.state es ≡ Begun ∷ to_come i a
        → (h : Option Hold) × IsAnswered c h a (suc i)

    first_event : (x : Entry C V) (es : Schedule) → Starts es → Starts (x ∷ es)
    first_event x es starts xs seen at c i a made came = by_turn (x.0 == p) refl made came where
      s : Scene W V C L A
      s = event seen x

      by_own : x ∷ entries_by p es ≡ by_party p (Begin c ∷ to_make i) → s.outcome ∷ outcomes_by m p s.after.state es ≡ Begun ∷ to_come i a → (h : Option Hold) × IsAnswered c h a (suc i)
      by_own made' came' =
          let x_is : x ≡ (p, Begin c) = cc (made') in let comes : s.outcome ≡ Begun = cc (came') in let own : Scene W V C L A = event seen (p, Begin c) in
          let begun : own.outcome ≡ Begun = subst (λ y. (event seen y).outcome ≡ Begun) x_is comes in
          let begins = begins_by c own.outcome own.seat (seat_of own.after p) begun (kept facts seen p (Begin c) at.3).keeps.in_call in
          let mark : Mark = record { party = p; change = own.change; step_kind = own.step_kind; before = seen.plain; after = own.after.plain } in
          let cleared : own.after.span p ≡ [] = ap (λ o. span_after o mark seen.span p) begun ∙ ap (λ b. if b then [] else seen.span p) (eq-eqb p p refl) in
          let none : s.after.span p ≡ [] = subst (λ y. (event seen y).after.span p ≡ []) (sym x_is) cleared in (
            held_at own.seat,
            subst (IsAnswered c (held_at own.seat) a) (let c = ap (own_count p) none in omega (arith, c))
                (walk es (xs ++ x ∷ []) s.after (on_by x es xs seen at) c begins.0 (held_at own.seat) (subst (λ y. slice_get (event seen y).after.state.seats p ≡ Some (Calling c begins.0 (held_at own.seat))) (sym x_is) begins.1)
                (subst (All (IsBetween c (held_at own.seat))) (sym none) (All-nil (IsBetween c (held_at own.seat)))) (subst (AfterEachStep (Continues c (held_at own.seat)) p) (sym none) tt) i a (cc (made')) (cc (came'))),
          )

      by_turn : (b : Bool) → (x.0 == p) ≡ b → (if b then x ∷ entries_by p es else entries_by p es) ≡ by_party p (Begin c ∷ to_make i) → (if b then s.outcome ∷ outcomes_by m p s.after.state es else outcomes_by m p s.after.state es) ≡ Begun ∷ to_come i a
          → (h : Option Hold) × IsAnswered c h a (suc i)
      by_turn true same made' came' = by_own made' came'
      by_turn false same made' came' = starts (xs ++ x ∷ []) s.after (on_by x es xs seen at) c i a made' came'

    starts : (es : Schedule) → Starts es
    starts [] = λ xs seen at c i a made came. absurd (cc (made))
    starts (x ∷ es) = first_event x es (starts es)

  -- what a party knows of a call that got this answer, the only call that the party has made after `old`
  pub record Call {X : Type 0} (c : C) (a : A) (view : Option (Numbered X)) (old new : Schedule) : Type 0 where
    pub pass : OfPass m view new
    pub held : Option Hold
    pub steps : ℕ
    pub answered : IsAnswered pass.party (opening m pass.parties) old new c held a steps
    pub more : Schedule
    pub grown : new ≡ old ++ more
    -- the party's moves are the beginning of the call and its steps
    pub moves : length (entries_by pass.party more) ≡ suc steps

  -- also in a world of as many parties as `made` says
  pub call_in : {X : Type 0} (c : C) (a : A) (view now : Option (Numbered X)) (old new : Schedule) (made : Made m view old now new (IsCall c a)) → (call : Call c a now old new) × (call.pass.parties ≡ made.5.1)
  call_in c a view now old new (p, may, is, own, outs, (more, least, new_is, mine, played, came), (rest, comes, own_is, outs_is, (i, rest_is, comes_are))) =
      let seen = seen_after m (opening m least) old in
      let own_are : own ≡ Begin c ∷ (replicate i Step ++ Step ∷ []) = own_is ∙ ap (λ l. Begin c ∷ l) rest_is in
      let (h, answered) = starts p (opening m least) old new more old seen (refl, ([], append-nil old), sym new_is, good facts least old) c i a (mine ∙ ap (by_party p) own_are)
      (ap (λ s. outcomes_by m p s more) (state-seen_after m (opening m least) old) ∙ ap (λ n. outcomes_by m p (after m (at_first m n) old) more) (let e : least ≡ least + 0 = omega arith in e) ∙ came 0 ∙ outs_is ∙ ap (λ l. Begun ∷ l) comes_are) in (
        record {
          pass = record { party = p; is_number = is; parties = least; played = played };
          held = h;
          steps = suc i;
          answered = answered;
          more = more;
          grown = new_is;
          moves = let l = length-map {B = Entry C V} own (λ move. (p, move)) in let e = ap length mine in let b = ap length own_are in let f = length-append {A = Move C V} (replicate i Step) (Step ∷ []) in let r = length-replicate {A = Move C V} i Step in omega (arith, l, e, b, f, r);
        },
        refl,
      )

  pub call_of : {X : Type 0} (c : C) (a : A) (view now : Option (Numbered X)) (old new : Schedule) → Made m view old now new (IsCall c a) → Call c a now old new
  call_of c a view now old new made = (call_in c a view now old new made).0
