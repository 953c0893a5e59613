-- The limits of the steps that one call of a pass takes, while other threads take theirs.
use Rattle.std.specs.Prelude.{◌≡◌, ◌≢◌, ◌⊎◌, ℕ, ◌+◌, ◌<◌, ◌≤◌, suc, Option, List, [], ◌∷◌, ◌++◌, length}
use mathlib.Core.List.{IsPrefix}
use Rattle.spin_core.specs.Own.{Numbered, entries_by}
use Rattle.spin_core.specs.Passes.{IsCall, Made}
use Rattle.spin_step.specs.Calls.{AnyOf, FindsClosed, LockKind, Mark, limit}
use Rattle.spin_step.specs.declared.place.Hold.{Hold}
use Rattle.spin_step.specs.declared.schedule.Move.TheVariants.{Step}
use Rattle.spin_step.specs.Machines.{Machine}
use Rattle.spin_step.specs.Schedules.{Entry}
use Rattle.spin_step.specs.Plain.{to_take_ticket}
use Rattle.spin_world_core.specs.Runs.{opening, own, own_count, failures, changes, EndsWithin, ContinuesWithin}
use Rattle.spin_world_core.specs.Users.{seen_after}
use Rattle.spin_laws.specs.Moments.{OfPass}

-- the steps of all parties from the beginning of the last call of `party` on, in a world of `parties` parties
abbrev pub steps_since : {W V C L A : Type 0} → Machine W V C L A → ℕ → ℕ → List (Entry C V) → List Mark
steps_since m parties party history = (seen_after m (opening m parties) history).span party

-- After each step of the party in this span, P holds of the party and the span so far. A span has the latest step
-- first.
abbrev pub AfterEachStep : (ℕ → List Mark → Type 0) → ℕ → List Mark → Type 0
AfterEachStep P p [] = Unit {0}
AfterEachStep P p (step ∷ older) = (step.party ≡ p → P p (step ∷ older)) × AfterEachStep P p older

-- A party knew the history `old`. After that it has made exactly this call, within the call's limit. Now it knows the
-- history `new` and has this view.
pub record IsWithinLimit {W V C L A X : Type 0} (m : Machine W V C L A) (call : C) (view : Option (Numbered X)) (old new : List (Entry C V)) : Type 0 where
  pub pass : OfPass m view new
  -- the history before the step that answered the call, and after this step
  pub last : List (Entry C V)
  pub answered : List (Entry C V)
  pub answers : answered ≡ last ++ (pass.party, Step) ∷ []
  pub behind : IsPrefix old answered
  pub before : IsPrefix answered new
  -- after `old` the party has made one move that began the call, and the steps of the call
  pub more : List (Entry C V)
  pub grown : new ≡ old ++ more
  pub moves : length (entries_by pass.party more) ≡ suc (own_count pass.party (steps_since m pass.parties pass.party answered))
  -- The steps are within the model's limit for this call of a party that held `held` before it. After each earlier step
  -- the call could still keep this limit. So a call that waits has a ticket in time, or has asked to upgrade, or has
  -- registered.
  pub held : Option Hold
  pub so_far : AfterEachStep (ContinuesWithin (limit m.lock_kind (m.asks call held)) m.lock_kind) pass.party (steps_since m pass.parties pass.party last)
  pub in_time : EndsWithin (limit m.lock_kind (m.asks call held)) m.lock_kind pass.party (steps_since m pass.parties pass.party answered)
  -- the exchanges that the call repeats failed at most as often as others changed the first word
  pub retries : failures pass.party (steps_since m pass.parties pass.party answered) ≤ changes m.lock_kind pass.party (steps_since m pass.parties pass.party answered)

-- each call of each pass with views of the type `View` is within its limit
abbrev pub KeepsLimits : {W V C L A : Type 0} → Machine W V C L A → Type 0 → Type 0
KeepsLimits {V = V} {C = C} {A = A} m View =
    (call : C) (answer : A) (before now : Option (Numbered View)) (old new : List (Entry C V)) → Made m before old now new (IsCall call answer) → IsWithinLimit m call now old new

-- A party knew the history `old`. After that it has made one call, and now knows the history `new` and has this view.
-- After each step of the call but its last one, P holds of the party and the call's span so far.
pub record StepsOfCall {W V C L A X : Type 0} (m : Machine W V C L A) (view : Option (Numbered X)) (old new : List (Entry C V)) (P : ℕ → List Mark → Type 0) : Type 0 where
  pub pass : OfPass m view new
  -- the history before the last step of the call
  pub last : List (Entry C V)
  pub behind : IsPrefix old last
  pub before : IsPrefix (last ++ (pass.party, Step) ∷ []) new
  pub so : AfterEachStep P pass.party (steps_since m pass.parties pass.party last)

-- The party has a ticket, or has found none left, or has made fewer than n steps, and one more for each change of the
-- first word by others.
abbrev pub TakesTicketWithin : ℕ → LockKind → ℕ → List Mark → Type 0
TakesTicketWithin n kind p span = own p span ≡ [] → (own_count p span < n + changes kind p span) ⊎ AnyOf (FindsClosed p to_take_ticket) span

-- the party has made a plain step in its call
abbrev pub HasChanged : ℕ → List Mark → Type 0
HasChanged p span = own p span ≢ []
