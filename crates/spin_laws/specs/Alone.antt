-- Progress that every object makes: a waiting call whose request is open is answered, or its exchange fails spuriously,
-- or another party changes a word.
use Rattle.std.specs.Prelude.{◌≡◌, ℕ, ◌≤◌, ◌==◌, ◌&&◌, ◌||◌, Bool, true, false, not, Option, Some, List, [], ◌∷◌, ◌⊎◌, length, replicate, slice_get}
use Rattle.spin_step.specs.Machines.{Machine}
use Rattle.spin_step.specs.Schedules.{State, happens, after, at_first}
use Rattle.spin_step.specs.declared.place.Hold.{Hold}
use Rattle.spin_step.specs.declared.place.Seat.TheVariants.{Calling}
use Rattle.spin_step.specs.declared.schedule.Move.{Move}
use Rattle.spin_step.specs.declared.schedule.Move.TheVariants.{Step}
use Rattle.spin_world_core.specs.Joined.{joined}
use Rattle.spin_world_core.specs.Runs.{Schedule, opening, state_at}
use Rattle.spin_world_core.specs.Users.{IsCalling, seen_after, seen_at}
use Rattle.spin_world_core.specs.Undisturbed.{is_open_now, steps_alone}
use Rattle.spin_laws.specs.Rounds.{Test, occurs, MovesOn, refuses_weakly}
use Rattle.spin_laws.specs.Once.{answers}
use Rattle.spin_step.specs.declared.schedule.Outcome.TheVariants as outcome

abbrev pub same_numbers : List ℕ → List ℕ → Bool
same_numbers [] [] = true
same_numbers (x ∷ xs) (y ∷ ys) = (x == y) && same_numbers xs ys
same_numbers _ _ = false

-- an event of another party changes a word
abbrev pub disturbs : {W V C L A : Type 0} → Machine W V C L A → ℕ → State W V C L → List (ℕ × Move C V) → Bool
disturbs m p s [] = false
disturbs m p s (e ∷ es) =
    let next = (happens m s e.0 e.1).next in (not (e.0 == p) && not (same_numbers (m.numbers next.words) (m.numbers s.words))) || disturbs m p next es

-- the party's call is answered, or its exchange fails spuriously
abbrev pub ends_or_fails : {V C L A : Type 0} → ℕ → Test V C L A
ends_or_fails p q move o x = elim o [ outcome.Answered a b ↦ q == p | other ↦ refuses_weakly p q move other x ]

-- in each of these stretches of a schedule the party takes a step of its call, if it is in one
abbrev pub StepsInEach : {W V C L A : Type 0} → Machine W V C L A → ℕ → State W V C L → List (List (ℕ × Move C V)) → Type 0
StepsInEach m p s [] = Unit {0}
StepsInEach m p s (es ∷ rest) = MovesOn m s es p (slice_get s.seats p) × StepsInEach m p (after m s es) rest

-- Suppose that a party's call waits, and that what the call asks is open. Take as many stretches in which the party takes a step as
-- an undisturbed call takes steps (`steps_alone`), at least one. In them the call is answered, or another party changes a word, or the
-- call's own exchange fails spuriously.
abbrev pub AnsweredOrDisturbed : {W V C L A : Type 0} → Machine W V C L A → ℕ → List (ℕ × Move C V) → List (List (ℕ × Move C V)) → Type 0
AnsweredOrDisturbed {C = C} {L = L} m n past rounds =
    let seen = seen_after m (opening m n) past in
    let s = after m (at_first m n) past in
    (p : ℕ) (c : C) (l : L) (h : Option Hold) → slice_get s.seats p ≡ Some (Calling c l h) → is_open_now p (m.asks c h) (seen.span p) seen.plain ≡ true
    → StepsInEach m p s rounds → 1 ≤ length rounds → steps_alone (m.asks c h) ≤ length rounds
    → (occurs m (ends_or_fails p) s (joined rounds) ≡ true) ⊎ (disturbs m p s (joined rounds) ≡ true)

-- After the schedule a party is in a call that does not wait, or what the call asks is open. Then so many steps of the party alone
-- answer the call.
abbrev pub AnsweredAlone : {W V C L A : Type 0} → Machine W V C L A → ℕ → Schedule C V → Type 0
AnsweredAlone {C = C} {L = L} m n past =
    let seen = seen_at m n past in
    (p : ℕ) (c : C) (l : L) (h : Option Hold) → IsCalling m n past p c l h
    → ((m.asks c h).waits ≡ false) ⊎ (is_open_now p (m.asks c h) (seen.span p) seen.plain ≡ true)
    → (k : ℕ) × (occurs m (answers p) (state_at m n past) (replicate k (p, Step)) ≡ true)
