-- Waiting calls that nobody disturbs. Once its request is open, such a call is answered within the steps it promises.
use Rattle.std.specs.Prelude.{◌≡◌, ℕ, ◌≤◌, ◌<◌, ◌==◌, ◌&&◌, Bool, true, false, Option, Some, is_some, min, List, [], ◌∷◌, ◌++◌, if◌then◌else◌}
use Rattle.spin_step.specs.Plain.{Plain, is_empty}
use Rattle.spin_step.specs.declared.schedule.Outcome.{Outcome}
use Rattle.spin_step.specs.declared.schedule.Outcome.TheVariants as outcome
use Rattle.spin_step.specs.StepKinds.{is_weak}
use Rattle.spin_step.specs.Calls.{Asked, LockKind, Mark, encoded}
use Rattle.spin_world_core.specs.Spans.{own, own_count}

-- The number of arrivals just after the party's latest plain step, or 0 if it made none. At a barrier this step is the
-- party's own arrival.
abbrev pub arrivals_after : ℕ → List Mark → ℕ
arrivals_after p [] = 0
arrivals_after p (m ∷ ms) = if (m.party == p) && is_some m.change then m.after.arrivals else arrivals_after p ms

-- whether the call waits, and what it asks next is open to its party; the span so far tells what it asks next
abbrev pub is_open_now : ℕ → Asked → List Mark → Plain → Bool
is_open_now p what span s = what.waits && what.is_open_next (is_empty (own p span)) (arrivals_after p span) p s

-- the step m does not disturb the party p: a step of p does not fail spuriously, and a step of another party changes no word
pub record LeavesAlone (kind : LockKind) (p : ℕ) (m : Mark) : Type 0 where
  pub strong : m.party ≡ p → is_weak m.step_kind ≡ false
  pub still : (m.party ≡ p → ⊥) → encoded kind m.after ≡ encoded kind m.before

abbrev pub AllOf : {X : Type 0} → (X → Type 0) → List X → Type 0
AllOf P [] = Unit {0}
AllOf P (x ∷ xs) = P x × AllOf P xs

-- Suppose that the call's request was open just before a step `first` of the span. If neither `first` nor a later step
-- disturbs the party, then few of these steps are the party's own.
abbrev pub UndisturbedTakes : (ℕ → Type 0) → LockKind → ℕ → Asked → List Mark → Type 0
UndisturbedTakes IsFew kind p what span =
    (recent : List Mark) (first : Mark) (older : List Mark) → span ≡ recent ++ first ∷ older → is_open_now p what older first.before ≡ true → AllOf (LeavesAlone kind p) (recent ++ first ∷ [])
    → IsFew (own_count p (recent ++ first ∷ []))

-- how many steps an undisturbed call takes at most once its request is open: as many as it promises, and at most four
abbrev pub steps_alone : Asked → ℕ
steps_alone what = min what.undisturbed_steps 4

-- Since its request was open, an undisturbed call has made at most `steps_alone` steps when it is answered, and fewer
-- while it continues.
abbrev pub AnsweredSoon : {V A : Type 0} → LockKind → ℕ → List Mark → Outcome A V → Option Asked → Type 0
AnsweredSoon kind p span (outcome.Answered a b) (Some what) = UndisturbedTakes (λ n. n ≤ steps_alone what) kind p what span
AnsweredSoon kind p span outcome.GoingOn (Some what) = UndisturbedTakes (λ n. n < steps_alone what) kind p what span
AnsweredSoon kind p span _ _ = Unit {0}
