-- Proofs of what users of a `Once` may rely on when a closure begins, also after another closure has failed.
use Rattle.spin_world_core.specs.Users.{IsCalling}
use Rattle.spin_world.proofs.OnceNames.{◌≡◌, ℕ, true, Option, Some, ◌∷◌, ◌++◌, slice_get, refl, arith, ap, ◌∙◌, ◌⊎◌, Hold, Calling, Step, to_begin, gets, Seen, plain_change_at, happens, at_first, OnceCall, OncePoint, Look, TryBegin, Await, Run, asks_of, OnceMachine, once_machine, OnceSchedule, state_at, RunsClosure, seen_at, has_just_looked, has_closure, MayRunAgain, LooksFirst, after-append, Invariant, in_call, []}
use Rattle.spin_step.specs.declared.place.Seat.{Seat}
use Rattle.spin_step.proofs.Lists.{get-set_same}
use Rattle.spin_world.proofs.OnceOwed.{once_facts}
use Rattle.spin_world_core.proofs.Reached.{good}
use Rattle.spin_world.proofs.OneClosure.{OnceState, not_at_run, run_here}

module _ {V : Type 0} (value : Option V) where
  abbrev m : OnceMachine V
  m = once_machine value

  -- If the word is 0, a look leaves the word at 0 and leads to the exchange. The exchange then leads to the closure.

  abbrev next_point : OncePoint → OncePoint
  next_point l = elim l [ Look ↦ TryBegin | Await ↦ TryBegin | _ ↦ Run ]

  goes_next : (s : OnceState V) (p : ℕ) (c : OnceCall V) (l : OncePoint) (h : Option Hold) → s.words ≡ 0 → slice_get s.seats p ≡ Some (Calling c l h)
      → has_closure (asks_of c) ≡ true → (l ≡ Run → ⊥) → let next = (happens m s p Step).next in
      (slice_get next.seats p ≡ Some (Calling c (next_point l) h)) × (next_point l ≡ TryBegin → next.words ≡ 0)
  goes_next s p c l h zero at closure not = grind (arith, get-set_same)

  module _ (n : ℕ) (past : OnceSchedule V) (p : ℕ) (c : OnceCall V) (h : Option Hold) (zero : (state_at m n past).words ≡ 0) (closure : has_closure (asks_of c) ≡ true) where
    by_exchange : IsCalling m n past p c TryBegin h → RunsClosure m n (past ++ (p, Step) ∷ []) p
    by_exchange at =
        run_here value n (past ++ (p, Step) ∷ []) p c Run h
        (rw (after-append m (at_first m n) past ((p, Step) ∷ [])) (goes_next (state_at m n past) p c TryBegin h zero at closure (λ e. cc (e))).0) refl

    by_look : (l : OncePoint) → IsCalling m n past p c l h → next_point l ≡ TryBegin → (l ≡ Run → ⊥) → RunsClosure m n (past ++ (p, Step) ∷ (p, Step) ∷ []) p
    by_look l at leads not = let now = state_at m n past in let one = goes_next now p c l h zero at closure not in
        let there = one.0 ∙ ap (λ l. Some (Calling c l h)) leads in
        let two = goes_next (happens m now p Step).next p c TryBegin h (one.1 leads) there closure (λ e. cc (e)) in
        run_here value n (past ++ (p, Step) ∷ (p, Step) ∷ []) p c Run h
        (rw (after-append m (at_first m n) past ((p, Step) ∷ (p, Step) ∷ [])) two.0) refl

    runs_soon : (l : OncePoint) → IsCalling m n past p c l h
        → RunsClosure m n (past ++ (p, Step) ∷ []) p ⊎ RunsClosure m n (past ++ (p, Step) ∷ (p, Step) ∷ []) p
    runs_soon l at = grind (arith, by_exchange, by_look l at, not_at_run value n past p c l h at 0 refl)

  pub a_later_closure_may_run : (n : ℕ) (past : OnceSchedule V) → MayRunAgain m n past
  a_later_closure_may_run n past = grind (arith, after-append, at_first, runs_soon)

  -- a closure begins only by the exchange, which follows a look
  looks_at : (seen : Seen ℕ V (OnceCall V) OncePoint) (p : ℕ) (o : Option (Seat (OnceCall V) OncePoint)) → Invariant (once_facts value) seen → slice_get seen.state.seats p ≡ o → plain_change_at m seen.state p Step o ≡ Some (gets p to_begin)
      → has_just_looked p (seen.span p) ≡ true
  looks_at seen p o good there e = grind (arith, in_call, once_facts)

  pub looks_first : (n : ℕ) (past : OnceSchedule V) → LooksFirst m n past
  looks_first n past = λ p e. looks_at (seen_at m n past) p _ (good (once_facts value) n past) refl e
