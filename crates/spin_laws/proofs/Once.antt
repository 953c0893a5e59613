-- In any four rounds a call with a closure is answered, or some closure fails.
use Rattle.spin_laws.proofs.Names.{seat_of, Bool, suc, eqb-true, eq-eqb, ◌≡◌, ℕ, ◌≤◌, ◌⊎◌, ◌==◌, true, false, Option, Some, List, [], ◌∷◌, slice_get, if◌then◌else◌, refl, ap, sym, ◌∙◌, subst, arith, inl, inr, ⊎_elim, cases_eq, ne_eqb, Plain, Phase, nothing, running, complete, Change, is_running, once_word, apply_some, IsOpenStep, Answer, Hold, Calling, Move, Step, BelongsTo, Seen, Scene, scene, scene_at, opening, State, seen_after, once_machine, eqb_self, get-set_same, Plays, Invariant, in_call, kept, good_first, state_is, numbers_are}
use Rattle.spin_world.proofs.OnceNames.{OnceCall, OncePoint, Look, TryBegin, Await, Run, asks_of, OnceSchedule, state_at, has_closure, OnceMachine}
use Rattle.spin_world.proofs.OnceOwed.{once_notes, once_facts}
use Rattle.spin_step.specs.OnceKind.{once}
use Rattle.spin_world.proofs.OneClosure.{run_here}
use Rattle.spin_laws.specs.Once.{answers, answers_or_fails, AnswersInFour, AnswersInOne, SomebodyRuns}
use Rattle.spin_laws.proofs.Waiting.{is_busy, same_beside, no_owner}
use Rattle.spin_laws.proofs.Loads.{Wait}
use Rattle.spin_laws.proofs.Loads as walk

-- The load of a call with a closure, a number of rounds (see Loads.antt), by the phase and the call's point. While
-- another party's closure runs, this load is 0, since the call waits for that closure.
abbrev mine_by : Phase → ℕ → OncePoint → ℕ
mine_by phase p l =
    elim phase [ complete ↦ 1 | running q ↦ if q == p then 1 else 0 | nothing ↦ elim l [ TryBegin ↦ 3 | _ ↦ 4 ] ]

abbrev theirs_by : Phase → ℕ → ℕ
theirs_by phase q = if is_running q phase then 2 else 0

-- the point and the phase after a step of the call's own, while there is no value
abbrev onward : Phase → ℕ → OncePoint → OncePoint × Phase
onward nothing p TryBegin = (Run, running p)
onward nothing p l = (TryBegin, nothing)
onward phase p Look = (TryBegin, phase)
onward phase p l = (Await, phase)

theirs_run : (s : Phase) (q : ℕ) → 1 ≤ theirs_by s q → s ≡ running q
theirs_run s q some = grind (arith, some, eqb-true)

-- another party's closure begins; if the load of the waiting call was at most n + 1, all loads are then at most n
begins_running : (q r p n : ℕ) (l : OncePoint) → (r ≡ p → ⊥) → mine_by nothing p l ≤ suc n → (theirs_by (running r) r ≤ n) × (mine_by (running r) p l ≤ n) × ((r ≡ q → ⊥) → theirs_by (running r) q ≤ n)
begins_running q r p n l ne few = grind (arith, ne, few)

-- A step that does not end the running closure begins a closure, or does not change the phase.
phase_beside : (s : Plain) (r : ℕ) (step : Option Change) → IsOpenStep s r step → BelongsTo once step → is_running r s.phase ≡ false
    → ((apply_some s step).phase ≡ s.phase) ⊎ ((s.phase ≡ nothing) × ((apply_some s step).phase ≡ running r))
phase_beside s r step may belongs other = grind arith

point_cases : (l : OncePoint) → (l ≡ Run) ⊎ (l ≡ Run → ⊥)
point_cases l = grind arith

same_point : {V : Type 0} (d : OnceCall V) (i : OncePoint) (j : Option Hold) (e : OnceCall V) (g : Option Hold) → Some (Calling d i j) ≡ Some (Calling e Run g) → i ≡ Run
same_point d i j e g is = cc (is)

runs_where : (s : Plain) → once_word s ≡ 1 → (q : ℕ) × (s.phase ≡ running q)
runs_where s is = grind arith

module _ {V : Type 0} (value : Option V) where
  abbrev m : OnceMachine V
  m = once_machine value

  abbrev f : Plays m (once_notes value)
  f = once_facts value

  abbrev World : Type 0
  World = Seen ℕ V (OnceCall V) OncePoint

  abbrev Event : Type 0
  Event = Scene ℕ V (OnceCall V) OncePoint (Answer V)

  word_is : (seen : World) → Invariant f seen → seen.state.words ≡ once_word seen.plain
  word_is seen good = cc (good.encodes)

  told_by : (seen : World) (p : ℕ) (c : OnceCall V) (l : OncePoint) (h : Option Hold) → Invariant f seen → seat_of seen p ≡ Some (Calling c l h) → seen.plain.phase ≡ complete
      → let sc = scene_at m seen p Step (Some (Calling c l h)) in answers p p Step sc.outcome (seat_of sc.after p) ≡ true
  told_by seen p c l h good there is = grind (arith, word_is seen good, is, eqb_self p, (in_call f p good there).knows)

  -- The party q is in a call that runs its closure

  abbrev Runs : World → ℕ → Type 0
  Runs seen q = (c : OnceCall V) × (h : Option Hold) × (seat_of seen q ≡ Some (Calling c Run h))

  abbrev RunnerIn : World → Type 0
  RunnerIn seen = (q : ℕ) → seen.plain.phase ≡ running q → Runs seen q

  module _ (seen : World) (good : Invariant f seen) (runner : RunnerIn seen) where
    module _ (q : ℕ) (c : OnceCall V) (l : OncePoint) (h : Option Hold) (there : seat_of seen q ≡ Some (Calling c l h)) where
      abbrev y : Event
      y = scene_at m seen q Step (Some (Calling c l h))

      ends : l ≡ Run → y.after.plain.phase ≡ running q → ⊥
      ends e is = grind (arith, e, (in_call f q good there).knows, is)

      begins_run : y.after.plain.phase ≡ running q → (seen.plain.phase ≡ running q) ⊎ (seat_of y.after q ≡ Some (Calling c Run h))
      begins_run is = grind (arith, is, get-set_same seen.state.seats q (Calling c Run h) _ there)

      steps_on : y.after.plain.phase ≡ running q → Runs y.after q
      steps_on is = grind (arith, ends, same_point, begins_run)

    own_kept : (q : ℕ) (move : Move (OnceCall V) V) → (scene m seen q move).after.plain.phase ≡ running q → Runs (scene m seen q move).after q
    own_kept q move is = grind (arith, runner q, steps_on q, no_owner m seen q, is)

    runner_kept : (r : ℕ) (move : Move (OnceCall V) V) → RunnerIn (scene m seen r move).after
    runner_kept r move q =
        ⊎_elim (λ (same : r ≡ q). subst (λ i. (scene m seen i move).after.plain.phase ≡ running q → Runs (scene m seen i move).after q) (sym same) (own_kept q move))
        (λ (ne : r ≡ q → ⊥) is.
        let keeps = (kept f seen r move good).keeps in
        let at = runner q (grind (arith, is, ne, keeps.opens, keeps.belongs)) in
        (at.0, at.1, same_beside m seen r q q at.0 Run at.1 at.2 move ne ∙ at.2))
        (cases_eq r q)

  -- after any schedule, while the phase says that a party runs a closure, this party is in its call
  runner_after : (seen : World) (es : OnceSchedule V) → Invariant f seen → RunnerIn seen → RunnerIn (seen_after m seen es)
  runner_after seen [] good runner = runner
  runner_after seen (e ∷ es) good runner = runner_after (scene m seen e.0 e.1).after es (kept f seen e.0 e.1 good).good (runner_kept seen good runner e.0 e.1)

  runner_there : (n : ℕ) (past : OnceSchedule V) → RunnerIn (seen_after m (opening m n) past)
  runner_there n past = runner_after (opening m n) past (good_first f n) (λ q is. absurd (grind (arith, is)))

  module _ (p : ℕ) (c : OnceCall V) (h : Option Hold) (closure : has_closure (asks_of c) ≡ true) where
    abbrev x : Wait ℕ V (OnceCall V) OncePoint (Answer V)
    x = record { goal = answers_or_fails m p; party = p; call = c; hold = h; At = λ l. Unit {0}; Known = RunnerIn; Fine = λ seen. Unit {0}; mine = λ s. mine_by s.phase p; theirs = λ s l q his. theirs_by s.phase q }

    module _ (seen : World) (l : OncePoint) (w : walk.Waits f x seen l) where
      abbrev s : Plain
      s = seen.plain

      abbrev sc : Event
      sc = scene_at m seen p Step (Some (Calling c l h))

      goes : (phase : Phase) → s.phase ≡ phase → (phase ≡ complete → ⊥) → (l ≡ Run → ⊥) → (seat_of sc.after p ≡ Some (Calling c (onward phase p l).0 h)) × (sc.after.plain.phase ≡ (onward phase p l).1)
      goes phase is unmade ne = grind (arith, word_is seen w.3, is, unmade, ne, closure, get-set_same seen.state.seats p (Calling c (onward phase p l).0 h) _ w.0)

      own_at : (n : ℕ) → walk.Within f x seen l (suc n) → (phase : Phase) → s.phase ≡ phase → (l ≡ Run → ⊥) → walk.Own f x seen l n sc
      own_at n within complete is ne = inl (grind (arith, told_by seen p c l h w.3 w.0 is))
      own_at n within nothing is ne = grind (arith, goes nothing is, ne, within.mine, is, eqb_self p)
      own_at n within (running q) is ne = grind (arith, goes (running q) is, ne, w.2 q is, w.0, ne_eqb q p, is)

      own : (n : ℕ) → walk.Within f x seen l (suc n) → walk.Own f x seen l n sc
      own n within = ⊎_elim (λ (is : l ≡ Run). inl (grind (arith, is, closure, eqb_self p))) (own_at n within s.phase refl) (point_cases l)

      -- the step that ends another party's closure reaches the goal, or there is a value after it
      run_ends : (q : ℕ) (d : OnceCall V) (i : OncePoint) (j : Option Hold) → seat_of seen q ≡ Some (Calling d i j) → i ≡ Run
          → let y = scene_at m seen q Step (Some (Calling d i j)) in walk.Reaches f x y ⊎ (y.after.plain.phase ≡ complete)
      run_ends q d i j at e = grind (arith, in_call)

      -- another party's step ends its closure, or begins one, or does not change the phase
      steps : (n : ℕ) → walk.Within f x seen l (suc n) → (q : ℕ) (d : OnceCall V) (i : OncePoint) (j : Option Hold) → (q ≡ p → ⊥) → seat_of seen q ≡ Some (Calling d i j)
          → let y = scene_at m seen q Step (Some (Calling d i j)) in walk.After f x seen q y → walk.Reaches f x y ⊎ walk.Falls f x seen l q y n
      steps n within q d i j ne at made = by (is_running q s.phase) refl
        where
          y : Event
          y = scene_at m seen q Step (Some (Calling d i j))

          by : (b : Bool) → is_running q s.phase ≡ b → walk.Reaches f x y ⊎ walk.Falls f x seen l q y n
          by true runs = grind (arith, theirs_run, s, y, run_ends, same_point, runs)
          by false rests =
              ⊎_elim (λ (same : y.after.plain.phase ≡ s.phase). inr (record { his = rw (same, rests) (omega arith); mine = rw same (omega arith); others = rw same (λ o other not_his. omega arith) }))
              (λ (began : (s.phase ≡ nothing) × (y.after.plain.phase ≡ running q)).
              let few : mine_by nothing p l ≤ suc n = subst (λ z. mine_by z p l ≤ suc n) began.0 within.mine in
              let low = λ (o : ℕ). begins_running o q p n l ne few in
              inr (record { his = rw began.1 (low q).0; mine = rw began.1 (omega (arith, (low q).1)); others = rw began.1 (λ o other not_his. omega (arith, (low o).2 not_his)) }))
              (phase_beside s q y.change made.opens made.belongs rests)

      busy : (q : ℕ) → 1 ≤ theirs_by s.phase q → is_busy (seat_of seen q) ≡ true
      busy q some = ap is_busy (w.2 q (theirs_run s.phase q some)).2

      some : walk.Within f x seen l 0 → ⊥
      some none = by s.phase refl
        where
          by : (phase : Phase) → s.phase ≡ phase → ⊥
          by (running q) is =
              ⊎_elim (λ (same : q ≡ p). absurd (omega (arith, subst (λ b. (if b then 1 else 0) ≤ 0) (eq-eqb q p same) (subst (λ z. mine_by z p l ≤ 0) is none.mine))))
              (λ (ne : q ≡ p → ⊥). absurd (omega (arith, subst (λ b. (if b then 2 else 0) ≤ 0) (eqb_self q) (subst (λ z. theirs_by z q ≤ 0) is (none.theirs q ne))))) (cases_eq q p)
          by phase is = absurd (grind (arith, none.mine, is))

    walks : walk.Walks f x
    walks =
        record {
          fine = λ seen q move good fine. tt;
          keeps = λ seen q move l w. inr (runner_kept seen w.3 w.2 q move);
          own = λ seen l n w within made. own seen l w n within;
          steps = λ seen l n w within q d i j ne at made. steps seen l w n within q d i j ne at made;
          weak = λ seen l next at may. absurd (cc (may));
          refuses = λ seen l w q d i j next ne at may. absurd (cc (may));
          begins = λ seen l w q d i j ne at may. (omega arith, λ is. absurd (grind (arith, is)));
          leaks = λ s l q h. omega arith;
          busy = λ seen l q w ne. busy seen l w q;
          some = some;
        }

  pub answers_in_four : (n : ℕ) (past : OnceSchedule V) (rounds : List (OnceSchedule V)) → AnswersInFour m n past rounds
  answers_in_four n past rounds p c l h there closure are few =
      let seen = seen_after m (opening m n) past in
      walk.ends f (x p c h closure) (walks p c h closure) n past rounds l there tt (runner_there n past) tt are
      (λ w. record { mine = grind (arith, few); theirs = λ q ne. grind (arith, few) })

  -- While there is a value

  complete_stays : (s : Plain) (q : ℕ) (step : Option Change) → s.phase ≡ complete → IsOpenStep s q step → BelongsTo once step → (apply_some s step).phase ≡ complete
  complete_stays s q step is opens belongs = grind arith

  abbrev is_told : World → Type 0
  is_told seen = seen.plain.phase ≡ complete

  abbrev ready : ℕ → OnceCall V → Option Hold → Wait ℕ V (OnceCall V) OncePoint (Answer V)
  ready p c h = record { goal = answers p; party = p; call = c; hold = h; At = λ l. Unit {0}; Known = is_told; Fine = λ seen. Unit {0}; mine = λ s l. 1; theirs = λ s l q his. 0 }

  word_there : (n : ℕ) (past : OnceSchedule V) → (state_at m n past).words ≡ once_word (seen_after m (opening m n) past).plain
  word_there n past = cc (numbers_are f n past)

  pub answers_in_one : (n : ℕ) (past : OnceSchedule V) (rounds : List (OnceSchedule V)) → AnswersInOne m n past rounds
  answers_in_one n past rounds p c l h there is are some =
      let seen = seen_after m (opening m n) past in
      walk.ends f (ready p c h) (grind (arith, complete_stays, told_by)) n past rounds l there tt (grind (arith, word_there n past, is)) tt are (λ w. record { mine = omega (arith, some); theirs = λ q ne. omega arith })

  pub somebody_runs : (n : ℕ) (past : OnceSchedule V) → SomebodyRuns m n past
  somebody_runs n past is =
      let seen = seen_after m (opening m n) past in
      let who = runs_where seen.plain (sym (word_there n past) ∙ is) in
      let at = runner_there n past who.0 who.1 in
      (who.0, run_here value n past who.0 at.0 Run at.1 (subst (λ (s : State ℕ V (OnceCall V) OncePoint). slice_get s.seats who.0 ≡ Some (Calling at.0 Run at.1)) (state_is f n past) at.2) refl)
