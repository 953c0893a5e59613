-- Proofs of what users of a `Once` may rely on: one closure runs at a time, and there is one value.
use Rattle.spin_world_core.proofs.Every.{outcome-seen_at}
use Rattle.spin_world_core.specs.Users.{IsCalling}
use Rattle.spin_world_core.proofs.Every.{state-seen_at}
use Rattle.spin_world.proofs.OnceNames.{Plays, ◌≡◌, ℕ, ◌==◌, true, false, is_some, Option, Some, None, ◌∷◌, ◌++◌, refl, arith, ap, ◌∙◌, and_parts, running, once_word, Value, Hold, Step, State, after, at_first, Seen, scene, OnceCall, Get, OncePoint, Run, runs, asks_of, OnceMachine, once_machine, OnceSchedule, state_at, seen_at, keeps_value, is_shared, ValueStays, RunsClosure, OneRuns, wants_value, AnswersAtOnce, GetAgrees, after-append, Invariant, []}
use Rattle.spin_step.specs.declared.schedule.Outcome.TheVariants as outcome
use Rattle.spin_world_core.specs.Users.{outcome_after}
use Rattle.spin_world_core.proofs.Every.{kept}
use Rattle.spin_world_core.proofs.Reached.{good, numbers_are, calls}
use Rattle.spin_world.proofs.OnceOwed.{once_notes, once_facts}

abbrev pub OnceState : Type 0 → Type 0
OnceState V = State ℕ V (OnceCall V) OncePoint

module _ {V : Type 0} (value : Option V) where
  abbrev m : OnceMachine V
  m = once_machine value

  abbrev f : Plays m (once_notes value)
  f = once_facts value

  stays_on : (seen : Seen ℕ V (OnceCall V) OncePoint) (es : OnceSchedule V) (v : V) → Invariant f seen → is_shared es ≡ true
      → seen.state.value ≡ Some v → (after m seen.state es).value ≡ Some v
  stays_on seen [] v good shared is = is
  stays_on seen (e ∷ es) v good shared is = let parts = and_parts (keeps_value e.1) (is_shared es) shared in
      stays_on (scene m seen e.0 e.1).after es v (kept f seen e.0 e.1 good).good parts.1 (grind (arith, parts.0, is))

  pub a_value_stays : (n : ℕ) (past further : OnceSchedule V) → ValueStays m n past further
  a_value_stays n past further = let seen = seen_at m n past in let state = state-seen_at m n past in
      let good = good f n past in record {
        complete = good.phase ∙ ap (λ (s : OnceState V). is_some s.value) state;
        stays = λ v is shared. rw (after-append m (at_first m n) past further, ← state)
            (stays_on seen further v good shared (rw (← state) at is));
      }

  word_at : (n : ℕ) (past : OnceSchedule V) → (state_at m n past).words ≡ once_word (seen_at m n past).plain
  word_at n past = cc (numbers_are f n past)

  -- a party at the point `Run` runs its closure, and no other party runs one

  module _ (n : ℕ) (past : OnceSchedule V) (p : ℕ) (c : OnceCall V) (l : OncePoint) (h : Option Hold) (there : IsCalling m n past p c l h) where
    -- if the word is not 1, no closure runs
    pub not_at_run : (w : ℕ) → (w == 1) ≡ false → (state_at m n past).words ≡ w → l ≡ Run → ⊥
    not_at_run w other is e = grind (arith, (calls f n past p there).knows, word_at n past)

    pub run_here : l ≡ Run → RunsClosure m n past p
    run_here e = let knows = (calls f n past p there).knows in
        record { call = c; point = l; held = h; calls = there; begun = grind (arith, knows) }

  phase_of : (n : ℕ) (past : OnceSchedule V) (p : ℕ) → RunsClosure m n past p → (seen_at m n past).plain.phase ≡ running p
  phase_of n past p runs = grind (arith, runs.begun, (calls f n past p runs.calls).knows)

  pub one_closure_runs_at_a_time : (n : ℕ) (past : OnceSchedule V) → OneRuns m n past
  one_closure_runs_at_a_time n past = record {
    alone = λ p q by_p by_q. cc (phase_of n past p by_p, phase_of n past q by_q);
    before = λ p runs. let phase = phase_of n past p runs in grind (arith, (a_value_stays n past []).complete);
    ends = λ p runs. grind (arith, runs.calls, runs.begun, (calls f n past p runs.calls).knows);
  }

  -- If there is a value, the word is 2

  value_told : (n : ℕ) (past : OnceSchedule V) (p : ℕ) (v : V) (c : OnceCall V) (l : OncePoint) (h : Option Hold)
      → (state_at m n past).value ≡ Some v → IsCalling m n past p c l h
      → wants_value (asks_of c) ≡ true → outcome_after m n past p Step ≡ outcome.Answered (Value v) None
  value_told n past p v c l h is there wants =
      let complete = (a_value_stays n past []).complete in
      grind (arith, there, is, word_at n past, complete, not_at_run n past p c l h there 2 refl)

  pub a_value_is_answered_at_once : (n : ℕ) (past : OnceSchedule V) → AnswersAtOnce m n past
  a_value_is_answered_at_once n past = record { value = value_told n past; none = grind arith }

  pub a_later_get_agrees : (n : ℕ) (past further : OnceSchedule V) → GetAgrees m n past further
  a_later_get_agrees n past further = λ p q v l h is shared at. let seen = seen_at m n past in
      let state = state-seen_at m n past in
      let all = past ++ (p, Step) ∷ further in
      let good = good f n past in
      let told : (scene m seen p Step).after.state.value ≡ Some v = grind (arith, outcome-seen_at m n past p Step ∙ is) in
      let now : (state_at m n all).value ≡ Some v =
      rw (after-append m (at_first m n) past ((p, Step) ∷ further), ← state)
      (stays_on (scene m seen p Step).after further v (kept f seen p Step good).good shared told) in
      value_told n all q v Get l h now at refl
