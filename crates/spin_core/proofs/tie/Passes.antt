-- What a party with a number learns by a step, and by one step after another.
use Rattle.std.proofs.Common.{◌≡◌, ◌≤◌, ℕ, ◌+◌, false, Option, Some, None, List, [], ◌∷◌, ◌++◌, length, replicate, refl, sym, ap, ◌∙◌, arith, eq-eqb}
use Rattle.std.proofs.lemmas.List.{drop-append-le}
use Rattle.std.proofs.Common.{drop}
use Rattle.std.proofs.lemmas.List.{append_assoc, map-append, replicate-append-replicate}
use Rattle.std.proofs.lemmas.List.Elements.{filter-append}
use Rattle.std.proofs.Math.Nat.{add_assoc}
use Rattle.spin_step.specs.declared.schedule.Move.{Move}
use Rattle.spin_step.specs.declared.schedule.Move.TheVariants.{Step}
use Rattle.spin_step.specs.declared.schedule.Outcome.{Outcome}
use Rattle.spin_step.specs.declared.schedule.Outcome.TheVariants.{GoingOn, Answered}
use Rattle.spin_step.specs.Machines.{Machine}
use Rattle.spin_step.specs.Schedules.{State, Entry, after, at_first, happens}
use Rattle.spin_core.specs.declared.trace.Watch.{Watch}
use Rattle.spin_step.specs.declared.place.Seat.{Seat}
use Rattle.spin_core.specs.Run.{outcomes_of}
use Rattle.spin_core.specs.Own.{Numbered, MayBe, what, by_party, entries_by, Tells}
use Rattle.spin_core.specs.Passes.{own_mark, HasNumber, Course, Waits, Ends, Begins, IsCall, Says, IsOneStep, outcomes_by, Did, Made}
use Rattle.spin_core.specs.Cell.{Ways, Moved}
use Rattle.spin_core.specs.Traced.{Watches, Named}
use Rattle.spin_core.specs.declared.trace.Trace.{Trace}
use Rattle.spin_step.proofs.Schedules.{after-append}
use Rattle.spin_core.proofs.tie.Owns.{by_of}

both_empty : {X : Type 0} (xs ys : List X) → xs ++ ys ≡ [] → (xs ≡ []) × (ys ≡ [])
both_empty [] ys none = (refl, none)
both_empty (x ∷ xs) ys none = absurd (cc none)

-- a party with a view has one number
pub one_number : {X : Type 0} (p q : ℕ) (view : Option (Numbered X)) → HasNumber p view → MayBe q view → q ≡ p
one_number p q None is may = absurd is
one_number p q (Some u) is may = may ∙ sym is

-- R accepts moves of P followed by moves of Q
abbrev pub Joins : (V C A : Type 0) → Course V C A → Course V C A → Course V C A → Type 0
Joins V C A P Q R = (own own' : List (Move C V)) (outs outs' : List (Outcome A V)) → P own outs → Q own' outs' → R (own ++ own') (outs ++ outs')

module _ {W V C L A : Type 0} (m : Machine W V C L A) where
  abbrev Schedule : Type 0
  Schedule = List (Entry C V)

  by-both : (p : ℕ) (s : State W V C L) (xs ys : Schedule) → outcomes_by m p s (xs ++ ys) ≡ outcomes_by m p s xs ++ outcomes_by m p (after m s xs) ys
  by-both p s [] ys = refl
  by-both p s (x ∷ xs) ys = grind (arith, by-both p (happens m s x.0 x.1).next xs ys)

  -- entries of others have no outcomes for the party
  by-others : (p : ℕ) (xs : Schedule) → entries_by p xs ≡ [] → (s : State W V C L) → outcomes_by m p s xs ≡ []
  by-others p [] none s = refl
  by-others p (x ∷ xs) none s = grind (arith, by-others p xs)

  by-own : (p : ℕ) (s : State W V C L) (own : List (Move C V)) → outcomes_by m p s (by_party p own) ≡ outcomes_of m s (by_party p own)
  by-own p s [] = refl
  by-own p s (move ∷ own) = rw (eq-eqb p p refl, by-own p (happens m s p move).next own)

  -- the party's outcomes over both parts of what follows the trace a
  came_both : (p : ℕ) (s : State W V C L) (a more more' : Schedule) (outs outs' : List (Outcome A V)) → outcomes_by m p (after m s a) more ≡ outs
      → outcomes_by m p (after m s (a ++ more)) more' ≡ outs' → outcomes_by m p (after m s a) (more ++ more') ≡ outs ++ outs'
  came_both p s a more more' outs outs' first second = rw (by-both p (after m s a) more more', first, ← after-append m s a more, second)

  -- moves of a party up to a later trace, followed by its moves up to a still later one, are its moves over both
  did_both : (p : ℕ) (a b c : Schedule) (own own' : List (Move C V)) (outs outs' : List (Outcome A V)) → Did m p a b own outs
      → Did m p b c own' outs' → Did m p a c (own ++ own') (outs ++ outs')
  did_both p a b c own own' outs outs' (more, least, is, mine, played, came) (more', least', is', mine', played', came') =
      let swap : (k : ℕ) → least + least' + k ≡ least' + (least + k) = λ k. omega arith in
      let its : entries_by p (more ++ more') ≡ by_party p (own ++ own') = rw (filter-append, mine, mine', map-append) in
      let comes : (k : ℕ) → outcomes_by m p (after m (at_first m (least + least' + k)) a) (more ++ more') ≡ outs ++ outs' =
      λ k. came_both p (at_first m (least + least' + k)) a more more' outs outs'
      (rw (← add_assoc least least' k) at (came (least' + k))) (rw (← swap k, is) at (came' (least + k))) in
      (more ++ more', least + least', cc (append_assoc a more more'), its, (λ k. rw (swap k) (played' _)), comes)

  module _ {X : Type 0} where
    -- if R accepts moves of P followed by moves of Q, a party that follows P and then Q follows R
    pub made_both : (u v w : Option (Numbered X)) (a b c : Schedule) (P Q R : Course V C A) → Joins V C A P Q R
        → Made m u a v b P → Made m v b w c Q → Made m u a w c R
    made_both u v w a b c P Q R joins (p, may, is, own, outs, did, so) (q, may', is', own', outs', did', so') =
        let same : q ≡ p = one_number p q v is may'.0 in
        (p, may, rw same at is', own ++ own', outs ++ outs', did_both p a b c own own' outs outs' did (rw same at did'), joins own own' outs outs' so so')

-- the rule says that the trace has this name
pub may_know : {E S V R : Type 0} (holds : ℕ → Trace E S → List V → Type 0) (ways : Ways R V (Trace E S)) (name : ℕ) → ((n : ℕ) (t : Trace E S) (vs : List V) → holds n t vs → t.name ≡ name) → (known : ℕ) → name ≡ known → Named holds ways known
may_know holds ways name says known same n t vs meets = says n t vs meets.0 ∙ same

-- What a step tells a party that knew all entries up to its last step, and perhaps more: the party's course and its next
-- view; that it now knows all entries up to this step; and that its watch keeps the name.
pub record Learnt {W V C L A X : Type 0} (m : Machine W V C L A) (view view' : Option (Numbered X)) (before now : Watch (Entry C V)) (to : X) (course : Course V C A) : Type 0 where
  pub made : Made m view before.entries view' now.entries course
  pub knows : own_mark view' ≡ length now.entries
  pub is : what view' ≡ Some to
  pub named : now.name ≡ before.name

module _ {W V C L A X S : Type 0} (m : Machine W V C L A) (seat_of : X → Seat C L) (words_of : W → ℕ × S) where
  pub learnt : (says : Says V C A X) (to : ℕ → X) (course : ℕ → Course V C A) → ((own : List (Move C V)) (outs : List (Outcome A V)) (n : ℕ) (v : X) → says own outs n v → (v ≡ to n) × course n own outs)
      → (named : Type 0) → named → (view view' : Option (Numbered X)) (before now : Watch (Entry C V)) (found : ℕ) → own_mark view ≤ length before.entries
      → Moved (Watches named before now (Tells m seat_of words_of says view) found) view' → Learnt m view view' before now (to found) (course found)
  learnt says to course means named is_named view None before now found knew moved = absurd moved
  learnt says to course means named is_named view (Some v) before now found knew (same, (log, es, known, is, (own, outs, es_is, mark, none, mine, said))) =
      let p : ℕ = v.1 in let old : List (Entry C V) = before.entries in let (between, here) = known in
      let steps : List (Entry C V) = by_party p own in let whole = append_assoc old between steps in
      -- the party has made no entry after its last step, neither in `old` nor since it knew `old`
      let mine_before : List (Entry C V) = entries_by p (drop (own_mark view) old) in
      let since : entries_by p (drop (own_mark view) (old ++ between)) ≡ [] = rw (here) none.1 in
      let (none_before, apart) = both_empty mine_before (entries_by p between)
      (rw (← filter-append, ← drop-append-le (own_mark view) old between knew) since) in
      let came : (k : ℕ) → outcomes_by m p (after m (at_first m (mine.1 + k)) old) (between ++ steps) ≡ outs = λ k.
      let start : State W V C L = at_first m (mine.1 + k) in
      came_both m p start old between steps [] outs (by-others m p between apart (after m start old))
      (rw (here, by-own m p (after m start log) own, ← es_is) (mine.4 k)) in
      let its : entries_by p (between ++ steps) ≡ steps = rw (filter-append, apart, by_of p p own, eq-eqb p p refl) in
      let did : Did m p old now.entries own outs = (between ++ steps, mine.1, cc (whole), its, rw is mine.3, came) in
      let so = means own outs found v.0 said in record {
        made = (p, (none.0, none_before), refl, own, outs, did, so.1);
        knows = mark ∙ ap length (sym is);
        is = ap Some so.0;
        named = same is_named;
      }

-- How one course of a call follows another.

-- i steps, followed by j steps and an end, are i + j steps and this end
pub after_steps : {X : Type 0} (x : X) (i j : ℕ) (xs ys end : List X) → xs ≡ replicate i x → ys ≡ replicate j x ++ end → xs ++ ys ≡ replicate (i + j) x ++ end
after_steps x i j xs ys end is are = rw (is, are, ← append_assoc, replicate-append-replicate)

module _ {V C A : Type 0} where
  pub waits_on : Joins V C A Waits Waits Waits
  waits_on own own' outs outs' (i, is, comes) (j, is', comes') =
      (i + j, rw (is, is', replicate-append-replicate), rw (comes, comes', replicate-append-replicate))

  pub waits_out : (a : A) → Joins V C A Waits (Ends a) (Ends a)
  waits_out a own own' outs outs' (i, is, comes) (j, is', comes') =
      (i + j, after_steps Step i j own own' (Step ∷ []) is is', after_steps GoingOn i j outs outs' (Answered a None ∷ []) comes comes')

  pub begun : (c : C) (P Q R : Course V C A) → Joins V C A P Q R → Joins V C A (Begins c P) Q (Begins c R)
  begun c P Q R joins own own' outs outs' (rest, comes, is, are, so) so' = (rest ++ own', comes ++ outs', ap (λ l. l ++ own') is, ap (λ l. l ++ outs') are, joins rest own' comes outs' so so')

  -- a step that begins a call and answers it is the whole call
  pub whole : (c : C) (a : A) (own : List (Move C V)) (outs : List (Outcome A V)) → IsOneStep false c (Answered a None) own outs → IsCall c a own outs
  whole c a own outs s = (Step ∷ [], Answered a None ∷ [], s.0, s.1, (0, refl, refl))

-- a course that implies another
pub weaker : {W V C L A X : Type 0} (m : Machine W V C L A) (view view' : Option (Numbered X)) (old new : List (Entry C V)) (P Q : Course V C A)
    → ((own : List (Move C V)) (outs : List (Outcome A V)) → P own outs → Q own outs) → Made m view old view' new P → Made m view old view' new Q
weaker m view view' old new P Q so (p, may, is, own, outs, did, said) = (p, may, is, own, outs, did, so own outs said)
