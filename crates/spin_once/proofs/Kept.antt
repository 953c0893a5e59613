-- Each step keeps the rule of a value that is made once, and appends its moves to the trace.
use Rattle.std.proofs.Common.{◌≡◌, ◌≢◌, Bool, true, false, ℕ, zero, suc, ◌+◌, ◌<◌, List, [], ◌∷◌, Option, Some, None, refl, sym, ap, ◌∙◌, subst, arith}
use mathlib.Core.Logic.{◌⊎◌}
use Rattle.std.specs.Option.{MatchOption}
use Rattle.std.proofs.lemmas.List.Folds.{fold-map}
use Rattle.spin_once.specs.Passes.{Ends}
use Rattle.spin_core.specs.Cell.{off, reads, writes, writing, use_of, alone, Fixed, Opens, Starts, Rests, MayLend, Knowing, readers_of, writers_of, no_fact}
use Rattle.spin_core.specs.Own.{Numbered, what, IsRun, RunsByRule, Tells}
use Rattle.spin_core.specs.Passes.{IsOneStep, Ending}
use Rattle.spin_core.specs.Stable.{maybe_stable, StableAt}
use Rattle.spin_core.specs.Traced.{Traces}
use Rattle.spin_core.specs.declared.tie.Opening.{Opening}
use Rattle.spin_core.specs.declared.trace.Trace.{Trace}
use Rattle.spin_core.proofs.cell.Ways.{knowing_rest}
use Rattle.spin_core.proofs.tie.Ties as tie
use Rattle.spin_core.specs.Run.{by_first}
use Rattle.spin_session.specs.Meaning.{just_one}
use Rattle.spin_session.specs.Operating.{Operates}
use Rattle.spin_session.specs.Turns.{outcome_of, has_begun}
use Rattle.spin_step.specs.Acts.{operation_by}
use Rattle.spin_step.specs.OnceCalls.{act_of}
use Rattle.spin_step.specs.Operations.{wrapped}
use Rattle.spin_step.specs.Schedules.{Entry}
use Rattle.spin_step.specs.declared.once_calls.OnceCall.TheVariants.{TryCallOnceOk, Wait}
use Rattle.spin_step.specs.declared.once_calls.OncePoint.{OncePoint}
use Rattle.spin_step.specs.declared.once_calls.OncePoint.TheVariants.{Look, Run}
use Rattle.spin_step.specs.declared.place.Seat.TheVariants.{Idle}
use Rattle.spin_step.specs.declared.schedule.Move.TheVariants.{Write, Weak, Step}
use Rattle.spin_once.specs.Model.{model}
use Rattle.spin_once.specs.OnceValues.{Content, Valued, bare, bare_trace, given_of, made, AtMostOne, IsMade, lent_key, value_in}
use Rattle.spin_once.specs.Once.{Call, View, OneMove, HasClosure, IsAt, use_of_view, use_of_party, Word, IsPhase, reader, in_call, is_run, runs_closure, is_done, IsMadeFrom, once_ways, seat_of, words_of, Says, IsOnce, Told, next_at, view_of, turn, fails_by}
use Rattle.spin_once.specs.declared.once_core.rule.Key.{Key}
use Rattle.spin_once.specs.declared.once_core.rule.Stage.{Stage}
use Rattle.spin_once.specs.declared.once_core.rule.Stage.TheVariants.{Seed, Done}
use Rattle.spin_once.proofs.Steps as steps
use Rattle.spin_once.proofs.Steps.{ComesTo, May, Fits}
use Rattle.spin_once.proofs.Moves.{Moves, after_word, finding, gives_by, turn_moves, fail_moves, give_moves, fits_at}
use Rattle.spin_once.proofs.Valued.{valued, writes_none, none_written, plainly, bare_moves}

-- while a closure runs the word is 1, and the history has no value
none_yet : {T : Type 0} (n : ℕ) (vs : List T) → AtMostOne n vs → n ≡ 1 → vs ≡ []
none_yet n vs few one = grind (arith, few, one)

pub running_call : (view : Option View) → runs_closure view ≡ true → (c : Call) × HasClosure c × (view ≡ Some (in_call c Run))
running_call view is = grind (arith, is)

-- a party that runs its closure writes
pub writes_at : (view : Option (Numbered View)) (c : Call) → what view ≡ Some (in_call c Run) → use_of use_of_party view ≡ writes
writes_at view c is = sym (tie.same_use use_of_view view) ∙ ap (use_of use_of_view) is

module _ {T S : Type 0} (makes : S → T → Type 0) (key : Key T S) where
  abbrev given : Option (Unit {0})
  given = given_of key.opening.value

  -- a store says nothing of the number that it finds
  abbrev Stores : Option (Numbered View) → Option (Content T S) → (ℕ → ℕ) → Says → Type 0
  Stores view shown f says = Traces (IsOnce key.opening) (once_ways makes key) view shown f (λ log es n. Told key.opening says view log es 0)

  traces : (view : Option (Numbered View)) (shown : Option (Content T S)) (f : ℕ → ℕ) (leads : ℕ → View → Type 0) (says : Says)
      → Moves given (what view) f leads says → steps.Allowed makes key (what view) shown f leads
      → Traces (RunsByRule (model given) seat_of words_of Word key.opening.name) (steps.way makes key, use_of_party, no_fact) view shown f (Tells (model given) seat_of words_of says view)
  traces view shown f leads says moves allows =
      tie.traces (model given) seat_of words_of Word key.opening.name (Content T S) (steps.way makes key) use_of_view no_fact view shown
      (by_first f) leads says moves (λ own outs n u said t word p. tt) allows

  -- the history's moves for a step that writes nothing are those of the model
  lifts : (on : Bool) (c : Call) (o : Ending (Unit {0})) (own : List OneMove) (outs : List (Ending (Unit {0}))) → IsOneStep on c o own outs → bare_moves (plainly {T = T} own) ≡ own
  lifts on c o own outs is = grind (arith, is)

  module _ (c : Call) (l : OncePoint) (view : Option (Numbered View)) (shown : Option (Content T S)) (at : IsAt c l (what view)) where
    abbrev was : Option View
    was = what view

    abbrev found : ℕ → Type 0
    found = May (use_of use_of_view was)

    abbrev says : Says
    says = turn (has_begun was) c l

    -- the next step of the party's call, if this step writes nothing
    keeps : is_run l ≡ false → Traces (IsOnce key.opening) (once_ways makes key) view shown (after_word c l) (Told key.opening says view)
    keeps quiet =
        let used : (use_of use_of_view was ≡ off) ⊎ ((use_of use_of_view was ≡ reads) × (l ≡ Look)) = grind (arith, at, quiet) in
        let silent : use_of use_of_view was ≢ writes = λ e. absurd (grind (arith, at, quiet, e)) in
        valued makes key view shown (after_word c l) (finding found says) says plainly (λ own outs n u said. said.0)
        (λ own outs n u said. lifts (has_begun was) c (outcome_of (next_at c l n)) own outs said.0.1)
        (writes_none makes key view shown (after_word c l) (finding found says) (λ e. silent (tie.same_use use_of_view view ∙ e)) (stays l quiet)) (λ idle. none_written)
        (traces view shown (after_word c l) (ComesTo (λ n. view_of c (next_at c l n)) found) (finding found says)
        (turn_moves given c found l was at)
        (steps.steps makes key was shown (λ n. view_of c (next_at c l n)) (after_word c l) (fits_at c l quiet (use_of use_of_view was) used) (λ n r e. absurd (silent e))))
      where
        stays : (l : OncePoint) → is_run l ≡ false → (n : ℕ) → n ≡ 2 → after_word c l n ≡ 2
        stays l quiet n two = grind (arith, quiet, two)

    pub turns : is_run l ≡ false → Operates just_one (IsOnce key.opening) (once_ways makes key) view shown 0 (wrapped (operation_by (act_of c l None))) (Told key.opening says view)
    turns quiet = operates c l quiet (Told key.opening says view) (keeps quiet)
      where
        operates : (c : Call) (l : OncePoint) → is_run l ≡ false → (told : List (Entry Call T) → List (Entry Call T) → ℕ → Numbered View → Type 0) → Traces (IsOnce key.opening) (once_ways makes key) view shown (after_word c l) told
            → Operates just_one (IsOnce key.opening) (once_ways makes key) view shown 0 (wrapped (operation_by (act_of c l None))) told
        operates c Run quiet told so = absurd (cc quiet)
        operates Wait l quiet told so = so
        operates c l quiet told so = so

  -- the last step of a call whose closure gave a value is a write of that value
  pub ends : (c : Call) → HasClosure c → (view : Option (Numbered View)) → what view ≡ Some (in_call c Run) → (value : T) → makes key.seed.value value
      → Stores view (Some (maybe_stable (Done value))) (λ _. 2) gives_by
  unfolding Told
  ends c may view is value is_made =
      let done : Option (Content T S) = Some (maybe_stable (Done value)) in let exact : Says = finding (λ n. n ≡ 1) gives_by in
      valued makes key view done (λ _. 2) exact gives_by (λ own. Write value ∷ []) (λ own outs n u said. said.0) (λ own outs n u said. sym said.0.1.0)
      (λ own outs n u said vs few.
      let none = none_yet n vs few said.1 in rw (none, writes_at view c is, ap use_of_view said.0.0) ((λ other. absurd (other refl), omega arith), λ told. refl))
      (λ idle. absurd (grind (arith, idle, is, may)))
      (traces view done (λ _. 2) (ComesTo (λ n. reader) (λ n. n ≡ 1)) exact (rw is (give_moves given c may))
      (rw is (steps.steps makes key (Some (in_call c Run)) done (λ n. reader) (λ _. 2) (λ n one. refl) (λ n r e. is_made))))

  -- the last step of a call whose closure failed
  pub gives_up : (view : Option (Numbered View)) → what view ≡ Some (in_call (TryCallOnceOk tt) Run)
      → Stores view (Some (maybe_stable (Seed key.seed.value))) (λ _. 0) fails_by
  unfolding Told
  gives_up view is =
      let shown : Option (Content T S) = Some (maybe_stable (Seed key.seed.value)) in
      valued makes key view shown (λ _. 0) (finding (λ n. n ≡ 1) fails_by) fails_by plainly
      (λ own outs n u said. said.0) (λ own outs n u said. ap (λ l. bare_moves (plainly {T = T} l)) said.0.1.0 ∙ sym said.0.1.0)
      (λ own outs n u said vs few.
      let none = none_yet n vs few said.1 in let own_is : own ≡ Weak ∷ Step ∷ [] = said.0.1.0 in let u_is : u ≡ Idle = said.0.0 in
      rw (none, own_is, writes_at view (TryCallOnceOk tt) is, ap use_of_view u_is) ((λ other. refl, omega arith), tt))
      (λ idle. none_written)
      (traces view shown (λ _. 0) (ComesTo (λ n. Idle) (λ n. n ≡ 1)) (finding (λ n. n ≡ 1) fails_by) (rw is (fail_moves given))
      (rw is (steps.steps makes key (Some (in_call (TryCallOnceOk tt) Run)) shown (λ n. Idle) (λ _. 0) (λ n one. refl) (λ n r e. refl))))

  -- ---- a new cell
  pub starts : (t : Trace (Valued T) (Unit {0})) → t.name ≡ key.opening.name → t.entries ≡ [] → (it : S) → key.opening.value ≡ Seed it → it ≡ key.seed.value
      → Opens (IsOnce key.opening) (once_ways makes key) 0 t (maybe_stable (Seed it))
  unfolding IsOnce
  starts t named empty it is same =
      let met = tie.opens (model given) seat_of words_of Word key.opening.name (Content T S) (steps.way makes key) use_of_view no_fact 0 (bare_trace t) named (ap bare empty) (rw is refl) (steps.meets makes key 0 tt [] (refl, refl)) in
      let few : AtMostOne 0 (made key.opening.value t.entries) = rw (is, empty) (λ other. refl, omega arith) in ([], tt, ((met.0, few), met.1), (tt, same))

  one_more : (more : ℕ) → 1 + more ≡ suc more
  one_more more = omega arith

  pub starts_made : (t : Trace (Valued T) (Unit {0})) → t.name ≡ key.opening.name → t.entries ≡ [] → (value : T) → key.opening.value ≡ Done value → makes key.seed.value value
      → Opens (IsOnce key.opening) (once_ways makes key) 2 t (maybe_stable (Done value))
  unfolding IsOnce
  starts_made t named empty value is is_made =
      let first : Numbered View = (reader, 0, 0) in let met = steps.meets makes key 2 tt (reader ∷ []) (omega arith, refl) in
      let runs : IsRun (model (Some tt)) seat_of words_of [] (2, tt) (first ∷ []) = (Some (reader, 0) ∷ [], 2, Some tt, refl, refl, (λ more. rw one_more refl), (λ more. refl), (((omega arith), refl), λ q le. refl), refl) in
      let here : IsRun (model given) seat_of words_of (bare t.entries) (2, t.word) (first ∷ []) = rw (is, empty) runs in
      let only : made key.opening.value t.entries ≡ value ∷ [] = rw (is, empty) refl in
      let few : AtMostOne 2 (made key.opening.value t.entries) = rw only (λ other. absurd (other refl), omega arith) in
      (first ∷ [], tt, (((named, met.0, here), few), met.1), ((λ told. only), is_made))

  -- ---- the owner of a value that was made
  fixed : (r w : ℕ) → 0 < r → (x : Stage T S) → Fixed (steps.way makes key) r w (maybe_stable x) ≡ IsMadeFrom makes key.seed true x
  fixed r w few x = grind (arith, few)

  left : (n r : ℕ) (vs : List T) (x : Stage T S) → IsPhase n r 0 → AtMostOne n vs → IsMade key.opening.told vs x → Fixed (steps.way makes key) r 0 (maybe_stable x)
      → MatchOption (value_in x) (vs ≡ []) (λ v. makes key.seed.value v × (key.opening.told ≡ true → vs ≡ v ∷ []))
  left n r vs x phase few made fixed = grind (arith, phase, few, made, fixed)

  pub ends_with : (n : ℕ) (t : Trace (Valued T) (Unit {0})) (x : Stage T S) → Starts (IsOnce key.opening) (once_ways makes key) n t (maybe_stable x) → Ends makes key (value_in x, t)
  unfolding IsOnce
  ends_with n t x (vs, meets, known) = (
    n,
    vs,
    meets.0,
    λ none.
        let at = rw none at known in let writers = fold-map (λ s v. s + writing (use_of_view v)) (λ (v : Numbered View). v.0) 0 vs in
        left n (readers_of use_of_party vs) (made key.opening.value t.entries) x (rw (tie.as_many_read use_of_view vs, writers, none) at meets.0.0.1) meets.0.1 at.0 at.1,
  )

  -- The content that some party reads is a value that was made. Any other value may replace it if the trace does not
  -- tell the value any more, and each seed may give each value.
  pub stabilizes : key.opening.told ≡ false → ((it : S) (value : T) → makes it value) → StableAt (IsOnce key.opening) (once_ways makes key) is_done 2
  unfolding IsOnce
  stabilizes untold any t x lies =
      let vs = lies.0 in let rs = readers_of use_of_party vs in let ws = writers_of use_of_party vs in let know = (once_ways makes key).2 in
      let few : 0 < rs = subst (λ r. 0 < r) (tie.as_many_read use_of_view vs) lies.1.0.0.1.0 in
      let same = fixed rs ws few in
      let now : IsMadeFrom makes key.seed true x = subst (λ A. A) (same x) (knowing_rest know t ws (maybe_stable x) lies.2) in (
        grind (arith, now),
        λ y done.
            let then : IsMadeFrom makes key.seed true y = grind (arith, any key.seed.value, done) in
            (vs, lies.1, untold_knows t ws y (subst (λ A. A) (sym (same y)) then)),
      )
    where
      untold_knows : (t : Trace (Valued T) (Unit {0})) (w : ℕ) (y : Stage T S) {A : Type 0} → A → Knowing (once_ways makes key).2 t w (maybe_stable y) A
      untold_knows t zero y a = (grind (arith, untold), a)
      untold_knows t (suc w) y a = a

-- the owner may borrow the value; from then on the trace does not tell the value
module _ {T S : Type 0} (makes : S → T → Type 0) (key : Key T S) where
  pub lends : MayLend (IsOnce key.opening) (once_ways makes key) (IsOnce (lent_key key).opening) (once_ways makes (lent_key key))
  unfolding IsOnce
  lends = (
    (λ shared. shared),
    (λ v. refl),
    λ n t x starts.
        (starts.0, starts.1, grind (arith, starts.2)),
  )

-- ---- which parties may leave
module _ {T S : Type 0} (opening : Opening (Stage T S)) where
  pub leaves : (v : Numbered View) → seat_of v.0 ≡ Idle → use_of_view v.0 ≡ off → Rests (IsOnce opening) use_of_party (Some v)
  unfolding IsOnce
  leaves v idle none =
      let rest = tie.rests (model (given_of opening.value)) seat_of words_of Word opening.name (Unit {0}) alone use_of_view no_fact v idle (steps.leaves v.0 none) in
      (rest.0, λ n t before behind holds. (rest.1 n (bare_trace t) before behind holds.0, holds.1))
