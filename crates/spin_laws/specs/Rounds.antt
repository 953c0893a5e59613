-- Rounds: stretches of a schedule in which every party that others may wait for moves on.
use Rattle.std.specs.Prelude.{◌≡◌, ◌≤◌, ℕ, zero, suc, ◌==◌, ◌&&◌, ◌||◌, Bool, true, false, Option, Some, List, [], ◌∷◌, length, slice_get}
use Rattle.std.specs.List.{list_any}
use Rattle.spin_step.specs.Plain.{Change, releases, serves, stops_starving}
use Rattle.spin_step.specs.Calls.{Asked, Said, granted, done, own_steps}
use Rattle.spin_step.specs.Machines.{Machine}
use Rattle.spin_step.specs.Schedules.{Entry, State, happens, after, at_first, may_read}
use Rattle.spin_step.specs.declared.place.Hold.{Hold}
use Rattle.spin_step.specs.declared.place.Seat.TheVariants.{Calling, Holding, Leaked, Gone}
use Rattle.spin_step.specs.declared.schedule.Move.{Move}
use Rattle.spin_step.specs.declared.schedule.Move.TheVariants.{Begin, Weak}
use Rattle.spin_step.specs.declared.place.Seat.{Seat}
use Rattle.spin_step.specs.declared.schedule.Outcome.{Outcome}
use Rattle.spin_world_core.specs.Joined.{joined}
use Rattle.spin_world_core.specs.Runs.{Seen, opening}
use Rattle.spin_world_core.specs.Users.{seen_after}
use Rattle.spin_step.specs.declared.schedule.Outcome.TheVariants as outcome

-- a test of an event: by its party, its move, its outcome, and the party's seat after it
abbrev pub Test : Type 0 → Type 0 → Type 0 → Type 0 → Type 0
Test V C L A = ℕ → Move C V → Outcome A V → Option (Seat C L) → Bool

-- some event of these entries passes the test
abbrev pub occurs : {W V C L A : Type 0} → Machine W V C L A → Test V C L A → State W V C L → List (ℕ × Move C V) → Bool
occurs m test s [] = false
occurs m test s (e ∷ es) = let h = happens m s e.0 e.1 in test e.0 e.1 h.outcome (slice_get h.next.seats e.0) || occurs m test h.next es

-- a step of a call
abbrev pub is_call_step : {V A : Type 0} → Outcome A V → Bool
is_call_step o = elim o [ outcome.GoingOn ↦ true | outcome.Answered a b ↦ true | _ ↦ false ]

-- a plain step by which a party gives up what it has in the lock
abbrev pub is_giving_up : Change → Bool
is_giving_up change = elim change [ releases p kind ↦ true | serves p ↦ true | stops_starving p ↦ true | _ ↦ false ]

-- the call is a release: its answer `done` implies a plain step that passes `is_giving_up`
abbrev pub is_release : Asked → Bool
is_release what = list_any (list_any is_giving_up) (own_steps (what.answers done) 0)

-- the event begins a call that releases what the party holds
abbrev pub begins_release : {W V C L A : Type 0} → Machine W V C L A → Hold → Move C V → Outcome A V → Bool
begins_release m h (Begin c) outcome.Begun = is_release (m.asks c (Some h))
begins_release m h _ _ = false

-- others may wait for this event of a party with this seat: it is a step of the party's call, or begins the party's release
abbrev pub is_awaited : {W V C L A : Type 0} → Machine W V C L A → Option (Seat C L) → Move C V → Outcome A V → Bool
is_awaited m (Some (Calling c l h)) move o = is_call_step o
is_awaited m (Some (Holding h)) move o = begins_release m h move o
is_awaited m _ move o = false

-- The party makes an awaited event among these entries. A starver that does not hold the lock need not make one. A party
-- that has leaked the lock never does.
abbrev pub MovesOn : {W V C L A : Type 0} → Machine W V C L A → State W V C L → List (ℕ × Move C V) → ℕ → Option (Seat C L) → Type 0
MovesOn m s es p (Some (Calling c l h)) = occurs m (λ q move o x. (q == p) && is_awaited m (Some (Calling c l h)) move o) s es ≡ true
MovesOn m s es p (Some (Holding h)) = may_read h ≡ true → occurs m (λ q move o x. (q == p) && is_awaited m (Some (Holding h)) move o) s es ≡ true
MovesOn m s es p (Some (Leaked h)) = may_read h ≡ false
MovesOn m s es p (Some (Gone h)) = may_read h ≡ false
MovesOn m s es p _ = Unit {0}

-- a round from this state: each party in a call takes a step, each party that holds the lock begins to release it, and
-- no party has leaked the lock
abbrev pub IsRound : {W V C L A : Type 0} → Machine W V C L A → State W V C L → List (ℕ × Move C V) → Type 0
IsRound m s es = (p : ℕ) → MovesOn m s es p (slice_get s.seats p)

-- each stretch of the list is a round, from the state after the stretches before it
abbrev pub AreRounds : {W V C L A : Type 0} → Machine W V C L A → State W V C L → List (List (ℕ × Move C V)) → Type 0
AreRounds m s [] = Unit {0}
AreRounds m s (round ∷ rounds) = IsRound m s round × AreRounds m (after m s round) rounds

abbrev pub says_granted : Said → Bool
says_granted said = elim said [ granted ↦ true | _ ↦ false ]

-- the party's call is granted what it asks
abbrev pub grants_party : {W V C L A : Type 0} → Machine W V C L A → ℕ → Test V C L A
grants_party m p q move (outcome.Answered a b) x = (q == p) && says_granted (m.says a)
grants_party m p q move _ x = false

-- some party's call is granted what it asks
abbrev pub grants_any : {W V C L A : Type 0} → Machine W V C L A → Test V C L A
grants_any m q move o x = elim o [ outcome.Answered a b ↦ says_granted (m.says a) | _ ↦ false ]

-- the party's exchange fails spuriously
abbrev pub refuses_weakly : {V C L A : Type 0} → ℕ → Test V C L A
refuses_weakly p q move o x = elim move [ Weak ↦ (q == p) && is_call_step o | _ ↦ false ]

-- Endless schedules

-- the n entries of the schedule from the place `start` on
abbrev pub stretch : {X : Type 0} → (ℕ → X) → ℕ → ℕ → List X
stretch schedule start zero = []
stretch schedule start (suc n) = schedule start ∷ stretch schedule (suc start) n

-- The schedule is fair. From each place on, each party in a call takes a step of this call at some time. Each party that
-- holds the lock begins to release it at some time, and no party has leaked the lock.
abbrev pub IsFairSchedule : {W V C L A : Type 0} → Machine W V C L A → State W V C L → (ℕ → ℕ × Move C V) → Type 0
IsFairSchedule m s schedule =
    (place p : ℕ) → let there = after m s (stretch schedule 0 place) in (n : ℕ) × MovesOn m there (stretch schedule place n) p (slice_get there.seats p)

-- Promises to a party in a call

-- Q says for which states, parties, calls and holds before the call a promise is made. This one is for calls that wait.
abbrev pub IsWaiting : {W V C L A : Type 0} → Machine W V C L A → Seen W V C L → ℕ → C → Option Hold → Type 0
IsWaiting m seen p c h = (m.asks c h).waits ≡ true

-- in as many rounds after the schedule `past` of n parties, some event passes the test of a party in such a call
abbrev pub InRounds : {W V C L A : Type 0} → Machine W V C L A → (Seen W V C L → ℕ → C → Option Hold → Type 0) → ℕ
    → (ℕ → Test V C L A) → ℕ → List (Entry C V) → List (List (Entry C V)) → Type 0
InRounds {C = C} {L = L} m Q bound test n past rounds =
    let s = after m (at_first m n) past in
    (p : ℕ) (c : C) (l : L) (h : Option Hold) → slice_get s.seats p ≡ Some (Calling c l h)
    → Q (seen_after m (opening m n) past) p c h
    → AreRounds m s rounds → bound ≤ length rounds → occurs m (test p) s (joined rounds) ≡ true

-- in each endless fair schedule after `past`, some event passes the test of a party in such a call
abbrev pub AtLast : {W V C L A : Type 0} → Machine W V C L A → (Seen W V C L → ℕ → C → Option Hold → Type 0)
    → (ℕ → Test V C L A) → ℕ → List (Entry C V) → (ℕ → Entry C V) → Type 0
AtLast {C = C} {L = L} m Q test n past schedule =
    let s = after m (at_first m n) past in
    (p : ℕ) (c : C) (l : L) (h : Option Hold) → slice_get s.seats p ≡ Some (Calling c l h)
    → Q (seen_after m (opening m n) past) p c h
    → IsFairSchedule m s schedule → (place : ℕ) × (occurs m (test p) s (stretch schedule 0 place) ≡ true)

-- the event passes one of these tests
abbrev pub either : {V C L A : Type 0} → Test V C L A → Test V C L A → Test V C L A
either one other q move o x = one q move o x || other q move o x
