-- The moves of each step of a value that is made once. Either the step begins a call of the model and makes its first step, or it is the
-- next step of a call under way. The model's table has each of these steps.
use Rattle.std.proofs.Common.{◌≡◌, true, false, ℕ, [], ◌∷◌, Option, Some, None, refl, ap, ◌∙◌, arith}
use mathlib.Core.Logic.{◌⊎◌, inl, inr}
use Rattle.std.specs.List.{list_all}
use Rattle.spin_core.specs.Run.{AreMoves, is_played, by_first, sits, outcomes_of}
use Rattle.spin_core.specs.Passes.{IsOneStep}
use Rattle.spin_core.specs.Cell.{Use, off, reads, use_of}
use Rattle.spin_session.specs.Turns.{outcome_of, has_begun}
use Rattle.spin_step.specs.declared.answer.Answer.{Answer}
use Rattle.spin_step.specs.declared.answer.Answer.TheVariants.{Value, Failed}
use Rattle.spin_step.specs.declared.once_calls.OnceCall.TheVariants.{CallOnce, TryCallOnceOk}
use Rattle.spin_step.specs.declared.once_calls.OncePoint.{OncePoint}
use Rattle.spin_step.specs.declared.once_calls.OncePoint.TheVariants.{Look, TryBegin, Run}
use Rattle.spin_step.specs.declared.place.Hold.{Hold}
use Rattle.spin_step.specs.declared.place.Seat.{Seat}
use Rattle.spin_step.specs.declared.place.Seat.TheVariants.{Idle, Calling}
use Rattle.spin_step.specs.declared.schedule.Move.TheVariants.{Begin, Step, Weak}
use Rattle.spin_step.specs.declared.schedule.Outcome.TheVariants.{Begun, GoingOn, Answered}
use Rattle.spin_step.specs.declared.stepped.Next.TheVariants.{Continue, Answers}
use Rattle.spin_step.specs.declared.stepped.Stepped.{Stepped}
use Rattle.spin_step.specs.Acts.{filled, operation_by, next_of}
use Rattle.spin_step.specs.OnceCalls.{OnceMachine, once_machine, once_table_of, act_of}
use Rattle.spin_step.specs.Operations.{performed}
use Rattle.spin_step.specs.Schedules.{placed, goes_on, happens, begun, after, Happened}
use Rattle.spin_once.specs.Model.{Point, at, model, onward}
use Rattle.spin_once.specs.Once.{Call, View, Onward, Says, HasClosure, IsAt, seat_of, words_of, use_of_view, in_call, is_run, next_at, view_of, turn, fails_by, reader}
use Rattle.spin_once.proofs.Resting.{World}
use Rattle.spin_once.proofs.Steps.{ComesTo, May, Fits}

-- the table's step of a call
abbrev pub table : Call → OncePoint → ℕ → Stepped ℕ (Unit {0}) OncePoint (Answer (Unit {0}))
table c l n = let m : OnceMachine (Unit {0}) = once_machine None in m.step n (Some tt) c l None

-- the word after the step
abbrev pub after_word : Call → OncePoint → ℕ → ℕ
after_word c l n = performed (operation_by (act_of c l None)) n

-- what the last step of a call tells whose closure gave a value
abbrev pub gives_by : Says
gives_by own outs n v = (v ≡ reader) × IsOneStep true (CallOnce tt) (Answered (Value tt) None) own outs

-- a party whose call is answered by this step holds nothing
abbrev pub IsFree : Onward → Type 0
IsFree (Continue l) = Unit {0}
IsFree (Answers a h) = h ≡ None

-- what the step says, if the number that it finds has the property `Q`
abbrev pub finding : (ℕ → Type 0) → Says → Says
finding Q says own outs n v = says own outs n v × Q n

free_at : (c : Call) (l : OncePoint) (n : ℕ) → IsFree (next_at c l n)
free_at c l n = grind arith

words_at : (c : Call) (l : OncePoint) (n : ℕ) → (table c l n).words ≡ after_word c l n
words_at c l n = grind arith

abbrev Did : Type 0
Did = Happened ℕ (Unit {0}) Call Point (Answer (Unit {0}))

-- where a step leads that goes on so, and its outcome
goes_to : (w : ℕ) (value : Option (Unit {0})) (x : Seat Call Point) (c : Call) (next : Onward) → IsFree next
    → let s : World = record { words = w; value = value; seats = x ∷ [] } in let end : World = record { words = w; value = value; seats = seat_of (view_of c next) ∷ [] } in
    let it = goes_on s 0 c None (onward next) in (it.next ≡ end) × (it.outcome ≡ outcome_of next) × (list_all is_played (outcome_of next ∷ []) ≡ true)
goes_to w value x c next free = grind (arith, free)

module _ (given : Option (Unit {0})) where
  abbrev pub Moves : Option View → (ℕ → ℕ) → (ℕ → View → Type 0) → Says → Type 0
  Moves view f = AreMoves (model given) seat_of words_of view (by_first f)

  -- the closure of the party's call has failed: the model's call continues as one whose closure fails
  pub fail_moves : Moves (Some (in_call (TryCallOnceOk tt) Run)) (λ _. 0) (ComesTo (λ n. Idle) (λ n. n ≡ 1)) (finding (λ n. n ≡ 1) fails_by)
  fail_moves n value v is =
      rw (is.0) (Weak ∷ Step ∷ [], GoingOn ∷ Answered Failed None ∷ [], ((refl, (refl, refl)), is.1), refl, refl, 0, value, refl, refl, refl)

  -- the closure of the party's call has given a value
  pub give_moves : (c : Call) → HasClosure c → Moves (Some (in_call c Run)) (λ _. 2) (ComesTo (λ n. reader) (λ n. n ≡ 1)) (finding (λ n. n ≡ 1) gives_by)
  give_moves c may n value v is =
      (Step ∷ [], Answered (Value tt) None ∷ [], ((is.0, (refl, refl)), is.1), refl, refl, 2, Some tt, grind (arith, is.0, is.1, may), grind (arith, may), refl)

  module _ (c : Call) (Q : ℕ → Type 0) (l : OncePoint) where
    abbrev f : ℕ → ℕ
    f = after_word c l

    abbrev to : ℕ → View
    to n = view_of c (next_at c l n)

    next_moves : Moves (Some (in_call c l)) f (ComesTo to Q) (finding Q (turn true c l))
    next_moves n value v is =
        let st = table c l n in let go = goes_to st.words (placed st.placed value) (Calling c (at l) None) c st.next (free_at c l n) in
        (Step ∷ [], outcome_of st.next ∷ [], ((is.0, (refl, refl)), is.1), refl, go.2, st.words, placed st.placed value, rw is.0 go.0, ap (λ o. o ∷ []) go.1, ap words_of (words_at c l n))

    first_moves : (view : Option View) → has_begun view ≡ false → l ≡ Look → Moves view f (ComesTo to Q) (finding Q (turn false c l))
    first_moves view out look n value v is =
        let st = table c l n in let s : World = record { words = n; value = value; seats = sits (model given) seat_of words_of view ∷ [] } in
        let began : happens (model given) s 0 (Begin c) ≡ begun s 0 c None (Some (at l)) = grind (arith, out, look) in
        let go = goes_to st.words (placed st.placed value) (Calling c (at l) None) c st.next (free_at c l n) in
        let ends = ap (λ (o : Did). after (model given) o.next ((0, Step) ∷ [])) began ∙ go.0 in
        let outs = ap (λ (o : Did). o.outcome ∷ outcomes_of (model given) o.next ((0, Step) ∷ [])) began ∙ ap (λ o. Begun ∷ o ∷ []) go.1 in
        (Begin c ∷ Step ∷ [], Begun ∷ outcome_of st.next ∷ [], ((is.0, (refl, refl)), is.1), refl, go.2, st.words, placed st.placed value, rw is.0 ends, outs, ap words_of (words_at c l n))

    pub turn_moves : (view : Option View) → IsAt c l view → Moves view f (ComesTo to Q) (finding Q (turn (has_begun view) c l))
    turn_moves view (inl is) = rw is next_moves
    turn_moves view (inr (look, out)) = rw out (first_moves view out look)

-- ---- the table, by the number found
-- how a call goes on does not depend on the present value
pub next_is : (c : Call) (l : OncePoint) (n : ℕ) (next : Onward) → filled (Some tt) next ≡ next_of (once_table_of {X = Unit {0}} (Some tt)) c l None n → next ≡ next_at c l n
next_is c l n next is = grind (arith, is)

-- the step of a party that does not use the content, or reads it and begins a call
pub fits_at : (c : Call) (l : OncePoint) → is_run l ≡ false → (u : Use) → (u ≡ off) ⊎ ((u ≡ reads) × (l ≡ Look)) → (n : ℕ) → May u n → Fits u (use_of_view (view_of c (next_at c l n))) n (after_word c l n)
fits_at c l quiet u used n may = grind (arith, quiet, used, may)

-- a call with a closure that is answered gets the value
pub gets_value : (c : Call) → HasClosure c → (l : OncePoint) (n : ℕ) (a : Answer (Unit {0})) (h : Option Hold) → next_at c l n ≡ Answers a h → a ≡ Value tt
gets_value c may l n a h is = grind (arith, may, is)

-- it goes on from its first look, if there is no value, by trying to begin its closure
pub looks : (c : Call) → HasClosure c → (l : OncePoint) (n : ℕ) → Continue l ≡ next_at c Look n → l ≡ TryBegin
looks c may l n is = grind (arith, may, is)

-- only an exchange begins a closure, of a party that does not use the content
pub begins_at : (c : Call) (l : OncePoint) (view : Option View) → IsAt c l view → is_run l ≡ false → (n : ℕ) → next_at c l n ≡ Continue Run → use_of use_of_view view ≡ off
begins_at c l view is quiet n runs = grind (arith, is, quiet, runs)
