-- A moment in the history of a lock on threads.
use Rattle.std.specs.Prelude.{◌≡◌, ℕ, Option, Some, None, List, [], ◌∷◌, ◌++◌, slice_get}
use mathlib.Core.List.{IsPrefix}
use Rattle.spin_step.specs.Plain.{Plain}
use Rattle.spin_core.specs.Own.{Numbered}
use Rattle.spin_core.specs.Passes.{HasNumber, IsCall, Made}
use Rattle.spin_core.specs.Run.{IsPlayed}
use Rattle.spin_step.specs.declared.place.Hold.{Hold}
use Rattle.spin_step.specs.declared.place.Seat.{Seat}
use Rattle.spin_step.specs.declared.place.Seat.TheVariants.{Calling}
use Rattle.spin_step.specs.declared.schedule.Move.TheVariants.{Step}
use Rattle.spin_step.specs.declared.schedule.Outcome.TheVariants.{Answered}
use Rattle.spin_step.specs.Machines.{Machine}
use Rattle.spin_step.specs.Schedules.{Entry, happens}
use Rattle.spin_world_core.specs.Runs.{opening}
use Rattle.spin_world_core.specs.Users.{seen_after}

-- a party with this seat is in this call
abbrev pub IsInCall : {C L : Type 0} → C → Option (Seat C L) → Type 0
IsInCall {L = L} call seat = (l : L) × (held : Option Hold) × (seat ≡ Some (Calling call l held))

-- A pass with this view is a party of a world. The world has the history `new`, and none of its moves is skipped.
pub record OfPass {W V C L A X : Type 0} (m : Machine W V C L A) (view : Option (Numbered X)) (new : List (Entry C V)) : Type 0 where
  pub party : ℕ
  pub is_number : HasNumber party view
  pub parties : ℕ
  pub played : IsPlayed m parties new

-- At some moment of a party's call the plain lock satisfied P. Before the call the party knew the history `old`. After
-- the call the party has this view and knows the history `new`.
pub record AtAMoment {W V C L A X : Type 0} (m : Machine W V C L A) (call : C) (view : Option (Numbered X)) (old new : List (Entry C V)) (P : Plain → Type 0) : Type 0 where
  pub pass : OfPass m view new
  -- the history at that moment
  pub moment : List (Entry C V)
  pub behind : IsPrefix old moment
  pub before : IsPrefix moment new
  -- the party was in this call, and the plain lock satisfied P
  pub in_call : IsInCall call (slice_get (seen_after m (opening m pass.parties) moment).state.seats pass.party)
  pub so : P (seen_after m (opening m pass.parties) moment).plain

-- `look` is a test or a count of the plain lock, and gives this answer
abbrev pub Was : {X : Type 0} → (Plain → X) → X → Plain → Type 0
Was look answer s = look s ≡ answer

-- Suppose that a pass with views of the type `View` has made exactly this call and got this answer. Then the plain
-- lock satisfied P at a moment of the call. This moment comes after the history that the pass knew before the call. It
-- is within the history that the pass knows after the call.
abbrev pub Found : {W V C L A : Type 0} → Machine W V C L A → Type 0 → C → A → (Plain → Type 0) → Type 0
Found {V = V} {C = C} m View call answer P =
    (before now : Option (Numbered View)) (old new : List (Entry C V)) → Made m before old now new (IsCall call answer) → AtAMoment m call now old new P

-- Just after the step that gave a party's call this answer, the plain lock satisfied P. Before the call the party knew
-- the history `old`. After the call the party has this view and knows the history `new`.
pub record AsAnswered {W V C L A X : Type 0} (m : Machine W V C L A) (call : C) (answer : A) (view : Option (Numbered X)) (old new : List (Entry C V)) (P : Plain → Type 0) : Type 0 where
  pub pass : OfPass m view new
  -- the history before the step that answered the call; the party was in this call then
  pub last : List (Entry C V)
  pub behind : IsPrefix old last
  pub before : IsPrefix (last ++ (pass.party, Step) ∷ []) new
  pub in_call : IsInCall call (slice_get (seen_after m (opening m pass.parties) last).state.seats pass.party)
  pub answers : (happens m (seen_after m (opening m pass.parties) last).state pass.party Step).outcome ≡ Answered answer None
  -- after that step the plain lock satisfied P
  pub so : P (seen_after m (opening m pass.parties) (last ++ (pass.party, Step) ∷ [])).plain
