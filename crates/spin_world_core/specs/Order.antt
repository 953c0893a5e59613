-- The order of a call's steps: when a waiting call tries and when it looks, and how long a try continues.
use Rattle.std.specs.Prelude.{◌≡◌, ℕ, ◌⊎◌, ◌==◌, ◌&&◌, ◌||◌, Bool, true, false, not, Option, Some, None, is_some, List, [], ◌∷◌, if◌then◌else◌}
use Rattle.spin_step.specs.Plain.{Plain, Ask, to_take_and_enter, Change, gets, is_open_to, next_word, serving_word}
use Rattle.spin_step.specs.Parties.{is_held}
use Rattle.spin_step.specs.declared.schedule.Move.{Move}
use Rattle.spin_step.specs.declared.schedule.Move.TheVariants.{Step}
use Rattle.spin_step.specs.declared.schedule.Outcome.{Outcome}
use Rattle.spin_step.specs.declared.schedule.Outcome.TheVariants as outcome
use Rattle.spin_step.specs.StepKinds.{StepKind, is_look}
use Rattle.spin_step.specs.Calls.{AnyOf, Asked, LockKind, Mark}
use Rattle.spin_world_core.specs.Spans.{own, own_count}

-- the request, after these plain steps, of a waiting call that tries before it looks; a call that does not wait has none
abbrev pub goes_of : Asked → List Change → Option Ask
goes_of what made = if what.waits then what.goes_for made else None

-- the request of a try; a call that waits is no try
abbrev pub tries_of : Asked → Option Ask
tries_of what = if what.waits then None else what.tries

-- whether the call has to try now: at its first step, after its own plain step, and after its own look that found the lock free
abbrev pub is_due : ℕ → List Mark → Bool
is_due p [] = true
is_due p (m ∷ ms) = if m.party == p then is_some m.change || (is_look m.step_kind && not (is_held m.before)) else is_due p ms

-- by which of its steps a waiting call tries, if it began without a look
pub data TryingWay : Type 0 where
  always : TryingWay  -- it tries by each step
  by_looks : TryingWay  -- it tries by each step that is due, and looks by each other step
  past_looks : TryingWay  -- it tries by each step that is due; by another step it may register as a starver

abbrev pub way_of : LockKind → Asked → List Change → TryingWay
way_of kind what made =
    if kind.spins_on_exchange then always else if what.may_register made then past_looks else by_looks

abbrev pub is_due_by : TryingWay → ℕ → List Mark → Bool
is_due_by way p span = elim way [ always ↦ true | _ ↦ is_due p span ]

abbrev pub LooksElse : TryingWay → ℕ → List Mark → StepKind → Type 0
LooksElse way p span r = elim way [ by_looks ↦ is_due p span ≡ false → is_look r ≡ true | _ ↦ Unit {0} ]

-- by a step that is due, the call gets what it asks if that is open; the call's other steps are as its `TryingWay` says
abbrev pub GetsByWay : LockKind → ℕ → Asked → List Mark → Plain → Option Change → StepKind → Type 0
GetsByWay kind p what span s step r = (ask : Ask) → goes_of what (own p span) ≡ Some ask
    → let way = way_of kind what (own p span) in (is_due_by way p span ≡ true → is_open_to s p ask ≡ true → step ≡ Some (gets p ask)) × LooksElse way p span r

abbrev pub GetsWhenDue : {C V A : Type 0} → LockKind → ℕ → Outcome A V → Move C V → Option Asked → List Mark → Plain → Option Change → StepKind → Type 0
GetsWhenDue kind p outcome.GoingOn Step (Some what) span s step r = GetsByWay kind p what span s step r
GetsWhenDue kind p (outcome.Answered a b) Step (Some what) span s step r = GetsByWay kind p what span s step r
GetsWhenDue kind p _ _ _ span s step r = Unit {0}

-- Before its plain step, a try continues only by a step at which what it asks is open. A try on a queue reads two words.
-- So it may also continue by its first step, and by a step at which the served number equals the next number as it was
-- at an earlier step of the party.
abbrev pub MayTryOn : Ask → ℕ → List Mark → Plain → Type 0
MayTryOn to_take_and_enter p span s = (is_open_to s p to_take_and_enter ≡ true) ⊎ (own_count p span ≡ 0) ⊎ AnyOf (λ m. (m.party ≡ p) × (next_word m.before ≡ serving_word s)) span
MayTryOn ask p span s = is_open_to s p ask ≡ true

abbrev pub TriesOn : {C V A : Type 0} → ℕ → Outcome A V → Move C V → Option Asked → List Mark → Plain → Option Change → Type 0
TriesOn p outcome.GoingOn Step (Some what) span s None = (ask : Ask) → tries_of what ≡ Some ask → own p span ≡ [] → MayTryOn ask p span s
TriesOn p _ _ _ span s step = Unit {0}
