-- What a step tells a party that keeps a record of its calls, and how the party's steps add up to its calls.
use Rattle.std.proofs.Common.{◌≡◌, ◌≤◌, le_of_eq, ◌++◌, ℕ, ◌+◌, true, false, Option, Some, None, List, [], ◌∷◌, length, arith, refl, sym, ap, ◌∙◌, subst}
use mathlib.Core.Logic.{◌⊎◌, inl, inr}
use Rattle.spin_core.specs.Cell.{use_of, off}
use Rattle.spin_core.specs.Own.{Numbered, what}
use Rattle.spin_core.specs.Passes.{own_mark, IsCall, Begins as BeginsWith, IsOneStep, Waits}
use Rattle.spin_core.specs.Spots as spots
use Rattle.spin_core.specs.Spots.{spot}
use Rattle.spin_core.specs.Traced.{MadeStep, Named}
use Rattle.spin_core.specs.declared.cell.Permit.{Permit}
use Rattle.spin_core.specs.declared.trace.Trace.{Trace}
use Rattle.spin_core.specs.declared.trace.Watch.{Watch}
use Rattle.spin_core.proofs.tie.Passes as passes
use Rattle.spin_core.proofs.tie.Passes.{Learnt, one_number}
use Rattle.std.proofs.lemmas.List.{append_assoc}
use Rattle.spin_core.proofs.tie.Spots.{both, in_one, comes_in, stays_in, is_answered}
use Rattle.spin_core.proofs.tie.Ties as tie
use Rattle.spin_session.specs.Turns.{outcome_of, has_begun}
use Rattle.spin_step.specs.declared.answer.Answer.TheVariants.{Failed, Value}
use Rattle.spin_step.specs.declared.once_calls.OnceCall.TheVariants.{TryCallOnceOk, Wait}
use Rattle.spin_step.specs.declared.once_calls.OncePoint.{OncePoint}
use Rattle.spin_step.specs.declared.once_calls.OncePoint.TheVariants.{Run}
use Rattle.spin_step.specs.declared.place.Seat.TheVariants.{Idle}
use Rattle.spin_step.specs.declared.schedule.Move.TheVariants.{Step, Weak}
use Rattle.spin_step.specs.declared.schedule.Outcome.TheVariants.{GoingOn, Answered}
use Rattle.spin_step.specs.declared.stepped.Next.TheVariants.{Continue, Answers}
use Rattle.spin_once.specs.Accounts.{Place, here, bare_place, model_of, Moves, MadeSince, MadeSteps, WroteNone, Entered, Comes, Under}
use Rattle.spin_once.specs.OnceValues.{Content, Valued, bare_watch, Sees}
use Rattle.spin_once.specs.OnceValues.{made as made_in}
use Rattle.spin_once.specs.Once.{is_run, stops, runs_closure, HasClosure, IsStepOf, reader, in_call, Call, View, Onward, Moving, Says, OneMove, IsAt, IsFailure, Fails, IsFailedCall, IsOnce, Told, once_ways, seat_of, words_of, use_of_view, use_of_party, next_at, view_of, turn}
use Rattle.spin_once.specs.declared.once_core.account.Account.{Account}
use Rattle.spin_once.specs.declared.once_core.rule.Key.{Key}
use Rattle.spin_once.proofs.Kept.{writes_at}
use Rattle.spin_once.proofs.Moves.{begins_at, gets_value}
use Rattle.spin_once.proofs.Valued.{as_long, both_none, learns, stays, sees_on}

-- ---- the moves of the model
module _ {T S : Type 0} (p q : Place T S) (course : Moving) where
  pub opened : MadeSince p course q → spots.Since model_of course (bare_place p) (bare_place q)
  unfolding Moves
  opened since = since.2

  pub sealed : spots.Since model_of course (bare_place p) (bare_place q) → MadeSince p course q
  unfolding Moves
  sealed moves = (moves.2, moves.1, moves)

-- ---- steps one after another
module _ {T S : Type 0} (p q r : Place T S) where
  -- two parts of a call in which the party writes no value
  silent_on : WroteNone p q → WroteNone q r → WroteNone p r
  unfolding WroteNone
  silent_on (k, may, is, more, whole, none) (k', may', is', more', whole', none') =
      let same : k' ≡ k = one_number k k' q.1 is may' in
      (k, may, rw (← same) is', more ++ more', whole' ∙ ap (λ l. l ++ more') whole ∙ append_assoc p.2.entries more more', both_none k more more' none (rw (← same) none'))

  module _ (c : Call) where
    comes_by : Under c p q → (next : Onward) → MadeSince q (IsOneStep (has_begun (what q.1)) c (outcome_of next)) r → WroteNone q r → Comes c next p r
    comes_by (inl ((is_in, none), begun)) (Continue k) since silent =
        (sealed p r (BeginsWith c Waits) (stays_in model_of c (bare_place p) (bare_place q) (bare_place r) (opened p q (BeginsWith c Waits) is_in) (opened q r (IsOneStep true c (outcome_of (Continue k))) (rw begun at since))), silent_on none silent)
    comes_by (inl ((is_in, none), begun)) (Answers a h) since silent =
        (sealed p r (IsCall c a) (is_answered model_of c (bare_place p) (bare_place q) (bare_place r) (opened p q (BeginsWith c Waits) is_in) a (opened q r (IsOneStep true c (outcome_of {L = OncePoint} (Answers a h))) (rw begun at since))), silent_on none silent)
    comes_by (inr (same, not)) (Continue k) since silent =
        subst (λ x. Entered c x r) same (sealed q r (BeginsWith c Waits) (comes_in model_of c (bare_place q) (bare_place r) (opened q r (IsOneStep false c (outcome_of (Continue k))) (rw not at since))), silent)
    comes_by (inr (same, not)) (Answers a h) since silent =
        subst (λ x. Comes c (Answers a h) x r) same (sealed q r (IsCall c a) (in_one model_of c (bare_place q) (bare_place r) a (opened q r (IsOneStep false c (outcome_of {L = OncePoint} (Answers a h))) (rw not at since))), silent)

module _ {T S : Type 0} where
  -- a party in a call has made no step of it since
  pub stays_at : (c : Call) (l : OncePoint) (it : Account T S) → what it.party.view ≡ Some (in_call c l) → is_run l ≡ false → MadeSteps c (Continue l) it it
  stays_at c l it at quiet = record { comes = λ p under. grind (arith, at, under); key = refl; view = at; seed = λ runs. grind (arith, quiet, runs) }

  module _ {c : Call} {next : Onward} {it now : Account T S} (made : MadeSteps c next it now) where
    pub joins : {l : OncePoint} {old : Account T S} → MadeSteps c (Continue l) old it → MadeSteps c next old now
    joins first = record { comes = λ p under. made.comes p (inl (first.comes p under, ap has_begun first.view)); key = made.key ∙ first.key; view = made.view; seed = made.seed }

    -- a call with a closure that is answered gets the value
    pub gets : HasClosure c → IsStepOf c next → {a : _} {h : _} → next ≡ Answers a h → MadeSteps c (Answers (Value tt) h) it now
    gets may (l, n, step) {a} {h} is = subst (λ x. MadeSteps c x it now) (is ∙ ap (λ x. Answers x h) (gets_value c may l n a h (sym step ∙ is))) made

    -- a call that waits and stops gets the value
    pub waited : c ≡ Wait → IsStepOf c next × (stops next ≡ true) → MadeSteps c (Answers (Value tt) None) it now
    waited on (step, stopped) = subst (λ x. MadeSteps c x it now) (grind (arith, on, step, stopped)) made

-- a call whose closure gives a value
pub completes : {T S : Type 0} (p q r : Place T S) (c : Call) → Entered c p q → MadeSince q (IsOneStep true c (Answered (Value tt) None)) r → MadeSince p (IsCall c (Value tt)) r
completes p q r c (is_in, none) since =
    sealed p r (IsCall c (Value tt)) (is_answered model_of c (bare_place p) (bare_place q) (bare_place r) (opened p q (BeginsWith c Waits) is_in) (Value tt) (opened q r (IsOneStep true c (Answered (Value tt) None)) since))

-- a call whose closure fails
pub fails : {T S : Type 0} (p q r : Place T S) → Entered (TryCallOnceOk tt) p q → MadeSince q IsFailure r → MadeSince p IsFailedCall r
fails p q r (is_in, none) since =
    sealed p r IsFailedCall (both model_of (bare_place p) (bare_place q) (bare_place r) (BeginsWith (TryCallOnceOk tt) Waits) IsFailure IsFailedCall
    (passes.begun (TryCallOnceOk tt) Waits IsFailure Fails (λ own own' outs outs' (i, is, are) (own_is, outs_are).
    (i + 0, passes.after_steps Step i 0 own own' (Weak ∷ Step ∷ []) is own_is, passes.after_steps GoingOn i 0 outs outs' (GoingOn ∷ Answered Failed None ∷ []) are outs_are)))
    (opened p q (BeginsWith (TryCallOnceOk tt) Waits) is_in) (opened q r IsFailure since))

-- the party does not write any more after the step that ends its closure
pub stops_writing : (view view' : Option (Numbered View)) (c : Call) → what view ≡ Some (in_call c Run) → (what view' ≡ Some Idle) ⊎ (what view' ≡ Some reader) → use_of use_of_party view ≡ use_of use_of_party view' → ⊥
stops_writing view view' c runs ended same = grind (arith, runs, ended, same)

-- ---- one step
module _ {T S : Type 0} (makes : S → T → Type 0) where
  abbrev pub Of : Key T S → ℕ → Type 0
  Of key = Named (IsOnce key.opening) (once_ways makes key)

  pub may_know : (key : Key T S) (seen : Watch (Valued T)) → key.opening.name ≡ seen.name → Of key seen.name
  unfolding IsOnce
  may_know key seen named = passes.may_know (IsOnce key.opening) (once_ways makes key) key.opening.name (λ n t vs is. is.0.0) seen.name named

  -- what a party's step says, by its view before
  module _ (says : Option (Numbered View) → Says) where
    abbrev pub Made : {P : Type 0} (before now : Permit (Content T S) (Numbered View) P (Key T S) (Trace (Valued T) (Unit {0}))) → ℕ → (seen known : Watch (Valued T)) → Type 0
    Made before now n seen known = MadeStep (λ key. IsOnce key.opening) (once_ways makes) (λ key view. Told key.opening (says view) view) before seen n now known

    module _ {P : Type 0} {before now : Permit (Content T S) (Numbered View) P (Key T S) (Trace (Valued T) (Unit {0}))} {n : ℕ} {seen known : Watch (Valued T)}
        (knew : own_mark before.view ≤ length seen.entries) (named : before.key.opening.name ≡ seen.name) (made : Made before now n seen known) where
      -- only a party that runs its closure writes a value
      pub silent : runs_closure (what before.view) ≡ false → WroteNone (spot before seen) (spot now known)
      unfolding WroteNone
      silent quiet = (learns makes before.key (says before.view) (Of before.key seen.name) before.view seen known n now.view knew made.moved).2 quiet

      -- the step leads to the view that `to` gives for the number found, by the moves of this course
      module _ (to : ℕ → View) (course : ℕ → Moving) (means : (own : List OneMove) (outs : List _) (n : ℕ) (v : View) → says before.view own outs n v → (v ≡ to n) × course n own outs) where
        told : Learnt (model_of before.key) before.view now.view (bare_watch seen) (bare_watch known) (to n) (course n)
        told = passes.learnt (model_of before.key) seat_of words_of (says before.view) to course means (Of before.key seen.name) (may_know before.key seen named) before.view now.view (bare_watch seen) (bare_watch known) n
            (subst (λ k. own_mark before.view ≤ k) (sym (as_long seen.entries)) knew) (learns makes before.key (says before.view) (Of before.key seen.name) before.view seen known n now.view knew made.moved).0

        pub took : MadeSince (spot before seen) (course n) (spot now known) × (what now.view ≡ Some (to n))
        took = (sealed (spot before seen) (spot now known) (course n) (told.made, told.named, made.key), told.is)

        -- After the step the party knows all moves up to this step, in the trace of its cell. If it uses the content, it sees the content.
        pub keeps : (use_of use_of_party before.view ≡ use_of use_of_party now.view → Sees before.key.opening seen.entries (use_of use_of_party before.view) before.value) → record {
          named : now.key.opening.name ≡ known.name;
          knows : own_mark now.view ≤ length known.entries;
          few : length (made_in now.key.opening.value known.entries) ≤ 1;
          finds : Sees now.key.opening known.entries (use_of use_of_party now.view) now.value;
        }
        keeps sees = let grown = (learns makes before.key (says before.view) (Of before.key seen.name) before.view seen known n now.view knew made.moved).1 in record {
          named = ap (λ k. k.opening.name) made.key ∙ named ∙ sym told.named;
          knows = le_of_eq (told.knows ∙ as_long known.entries);
          few = subst (λ k. length (made_in k.opening.value known.entries) ≤ 1) (sym made.key) grown.1;
          finds = subst (λ k. Sees k.opening known.entries (use_of use_of_party now.view) now.value) (sym made.key)
              (sees_on makes before.key seen.entries known.entries (stays before.key.opening seen.entries known.entries grown.0 grown.1) (use_of use_of_party before.view)
              (use_of use_of_party now.view) before.value now.value sees made.kept.0 made.found);
        }

  -- the step of a call at a point
  pub made_steps : (old now : Account T S) (c : Call) (l : OncePoint) (n : ℕ) (next : Onward) → IsAt c l (what old.party.view) → is_run l ≡ false → next ≡ next_at c l n
      → Made (λ view. turn (has_begun (what view)) c l) old.party now.party n old.seen now.seen → MadeSteps c next old now
  made_steps old now c l n next at quiet is made =
      let says : Option (Numbered View) → Says = λ view. turn (has_begun (what view)) c l in let view = old.party.view in
      let so = took says old.knows old.named made (λ n. view_of c (next_at c l n)) (λ n. IsOneStep (has_begun (what view)) c (outcome_of (next_at c l n))) (λ own outs n v said. said) in
      let at_next : what now.party.view ≡ Some (view_of c next) = rw is so.1 in record {
        comes = λ p under. rw is (comes_by p (here old) (here now) c under (next_at c l n) so.0 (silent says old.knows old.named made (grind (arith, at, quiet))));
        key = made.key;
        view = at_next;
        seed = λ runs.
            let none : use_of use_of_party view ≡ off = sym (tie.same_use use_of_view view) ∙ begins_at c l (what view) at quiet n (sym is ∙ runs) in
            let on = writes_at now.party.view c (at_next ∙ ap (λ x. Some (view_of c x)) runs) in grind (arith, none, made.kept, made.key, on);
      }
