-- What a transcript tells of the events of a schedule, and what `place` tells of a party in the plain lock.
use Rattle.spin_world_core.specs.Users.{seen_at}
use Rattle.spin_world_core.specs.Runs.{state_at}
use Rattle.spin_world_core.specs.Runs.{Schedule}
use Rattle.std.specs.Prelude.{◌≡◌, ℕ, ◌≤◌, ◌<◌, Bool, true, false, ◌&&◌, Option, Some, None, List, [], ◌∷◌, ◌++◌, length, ◌==◌, if◌then◌else◌}
use Rattle.std.specs.List.{list_any}
use Rattle.spin_step.specs.Plain.{Plain}
use Rattle.spin_step.specs.Parties.{entries, no_entries}
use Rattle.spin_step.specs.declared.place.Hold.{Hold}
use Rattle.spin_step.specs.declared.place.Place.{Place}
use Rattle.spin_step.specs.declared.place.Place.TheVariants as place
use Rattle.spin_step.specs.declared.schedule.Move.{Move}
use Rattle.spin_step.specs.declared.schedule.Move.TheVariants.{OwnerGet, OwnerSet}
use Rattle.spin_step.specs.declared.schedule.Outcome.{Outcome}
use Rattle.spin_step.specs.declared.schedule.Outcome.TheVariants as outcome
use Rattle.spin_step.specs.declared.schedule.Event.{Event}
use Rattle.spin_step.specs.Calls.{Mark}
use Rattle.spin_step.specs.Machines.{Machine}
use Rattle.spin_step.specs.Schedules.{State, is_begun}
use Rattle.spin_world_core.specs.Runs.{Seen, Scene, scene, opening, entries_of, entries_held, entries_so_far}

-- the scenes of a schedule, in order
abbrev pub scenes : {W V C L A : Type 0} → Machine W V C L A → Seen W V C L → Schedule C V → List (Scene W V C L A)
scenes m seen [] = []
scenes m seen (e ∷ es) = scene m seen e.0 e.1 ∷ scenes m (scene m seen e.0 e.1).after es

-- the outcome without the place where the call began
abbrev pub without_begin : {V A : Type 0} → Outcome A V → Outcome A V
without_begin o = elim o [ outcome.Answered a b ↦ outcome.Answered a None | other ↦ other ]

-- the event has the scene's party, its outcome (apart from where the call began), and the words after the scene
pub record TellsScene {W V C L A : Type 0} (s : Scene W V C L A) (e : Event W V A) : Type 0 where
  pub party : e.party ≡ s.party
  pub outcome : without_begin e.outcome ≡ s.outcome
  pub words : e.words ≡ s.after.state.words

-- each event tells the scene at its place, and there are as many events as scenes
abbrev pub EachTells : {W V C L A : Type 0} → List (Scene W V C L A) → List (Event W V A) → Type 0
EachTells [] [] = Unit {0}
EachTells (s ∷ ss) (e ∷ es) = TellsScene s e × EachTells ss es
EachTells _ _ = ⊥

-- for any schedule of any world that led to this state: the events tell the scenes of the new schedule, played from there
abbrev pub TellsAfterAnyPast : {W V C L A : Type 0} → Machine W V C L A → State W V C L → Schedule C V → List (Event W V A) → Type 0
TellsAfterAnyPast {V = V} {C = C} m s schedule events =
    (n : ℕ) (past : Schedule C V) → state_at m n past ≡ s → EachTells (scenes m (seen_at m n past) schedule) events

-- the stage of a party, as the outcomes of its moves tell it
pub data Stage : Type 0 where
  at_rest : Stage  -- in no call, and neither leaked nor gone
  in_call : Stage
  has_leaked : Stage
  is_gone : Stage

-- the party's stage after a move of its own
abbrev pub stage_by_own : {V A : Type 0} → Outcome A V → Stage → Stage
stage_by_own o old = elim o [ outcome.Begun ↦ in_call | outcome.Answered a b ↦ at_rest | outcome.Leaked ↦ has_leaked | _ ↦ old ]

-- the owner's moves turn leaked parties into gone ones
abbrev pub let_go_stage : Stage → Stage
let_go_stage stage = elim stage [ has_leaked ↦ is_gone | other ↦ other ]

abbrev pub stage_by_owner : {V C A : Type 0} → Outcome A V → Move C V → Stage → Stage
stage_by_owner outcome.Skipped move stage = stage
stage_by_owner _ OwnerGet stage = let_go_stage stage
stage_by_owner _ (OwnerSet v) stage = let_go_stage stage
stage_by_owner _ _ stage = stage

abbrev pub stage_at : {W V C L A : Type 0} → ℕ → Stage → List (Scene W V C L A) → Stage
stage_at p stage [] = stage
stage_at p stage (s ∷ ss) = stage_at p (stage_by_owner s.outcome s.move (if s.party == p then stage_by_own s.outcome stage else stage)) ss

-- the place is that of the party's stage, and the party's entries in the plain lock are those that the place implies
abbrev pub StandsInStage : Stage → Plain → ℕ → List Mark → Place → Type 0
StandsInStage at_rest s p span place.Idle = entries p s ≡ no_entries
StandsInStage at_rest s p span (place.Holding h) = entries p s ≡ entries_of p h
StandsInStage in_call s p span place.InCall = (held : Option Hold) × (entries p s ≡ entries_so_far p span (entries_held p held))
StandsInStage has_leaked s p span (place.Leaked h) = entries p s ≡ entries_of p h
StandsInStage is_gone s p span place.Gone = (h : Hold) × (entries p s ≡ entries_of p h)
StandsInStage _ s p span _ = ⊥

-- A world of n parties tells a place for each of them, and for no other. The place agrees with the party's stage.
abbrev pub PlaceSays : Stage → ℕ → Plain → ℕ → List Mark → Option Place → Type 0
PlaceSays stage n s p span None = (n ≤ p) × (entries p s ≡ no_entries)
PlaceSays stage n s p span (Some place) = (p < n) × StandsInStage stage s p span place

-- for any schedule of any world that led to this state, `PlaceSays` holds of the place that was told
abbrev pub SaysAfterAnyPast : {W V C L A : Type 0} → Machine W V C L A → State W V C L → ℕ → Option Place → Type 0
SaysAfterAnyPast {V = V} {C = C} m s p told = (n : ℕ) (past : Schedule C V) → state_at m n past ≡ s
    → let seen = seen_at m n past in PlaceSays (stage_at p at_rest (scenes m (opening m n) past)) n seen.plain p (seen.span p) told

-- the event begins a call of the party
abbrev pub begins_of : {W V A : Type 0} → ℕ → Event W V A → Bool
begins_of p e = (e.party == p) && is_begun e.outcome

-- the last event of the list that begins a call of the party is at this place
pub record IsLastOf {W V A : Type 0} (p : ℕ) (events : List (Event W V A)) (place : ℕ) : Type 0 where
  pub front : List (Event W V A)
  pub event : Event W V A
  pub back : List (Event W V A)
  pub is : events ≡ front ++ event ∷ back
  pub place_is : length front ≡ place
  pub begins : begins_of p event ≡ true
  pub none_later : list_any (begins_of p) back ≡ false

-- the place of the last event that begins a call of the party; `None` if no event does
abbrev pub IsLastBegin : {W V A : Type 0} → ℕ → List (Event W V A) → Option ℕ → Type 0
IsLastBegin p events None = list_any (begins_of p) events ≡ false
IsLastBegin p events (Some place) = IsLastOf p events place

-- each answer tells where in the transcript its call began, or `None` if the call began earlier
abbrev pub TellsBegins : {W V A : Type 0} → List (Event W V A) → Type 0
TellsBegins {W} {V} {A} events =
    (front : List (Event W V A)) (e : Event W V A) (back : List (Event W V A)) (a : A) (began : Option ℕ) → events ≡ front ++ e ∷ back → e.outcome ≡ outcome.Answered a began → IsLastBegin e.party front began
