-- Several locks of the explorer's kinds, in the order of their ranks, each after a schedule of the same parties.
use Rattle.std.specs.Prelude.{◌≡◌, ℕ, ◌<◌, ◌≤◌, true, false, Option, Some, List}
use Rattle.spin_step.specs.Plain.{Plain, fresh, ticket_limit}
use Rattle.spin_step.specs.Machines.{Machine}
use Rattle.spin_step.specs.declared.place.Hold.{Hold}
use Rattle.spin_step.specs.declared.schedule.Move.{Move}
use Rattle.spin_step.specs.FlagCalls.{flag_machine}
use Rattle.spin_step.specs.TicketCalls.{ticket_machine}
use Rattle.spin_step_more.specs.FairCalls.{fair_machine}
use Rattle.spin_step_more.specs.RwCalls.{rw_machine}
use Rattle.spin_step.specs.OnceCalls.{once_machine}
use Rattle.spin_world_core.specs.Runs.{Schedule}
use Rattle.spin_world_core.specs.Undisturbed.{is_open_now}
use Rattle.spin_world_core.specs.Users.{seen_at, IsCalling}
use Rattle.spin_explore.specs.declared.kinds.AnyCall.{AnyCall}
use Rattle.spin_explore.specs.declared.kinds.AnyLock.{AnyLock}
use Rattle.spin_explore.specs.declared.kinds.AnyLock.TheVariants as any
use Rattle.spin_explore.specs.Kinds.{narrowed, flag_call, ticket_call, fair_call, rw_call, once_call}
use Rattle.spin_laws.specs.KeptOut.{is_wait}
use Rattle.spin_laws.specs.Several.{has_something}

-- After the schedule the party is in a call that waits, and what the call asks is closed. `Fine` says which states and calls are meant.
abbrev pub WaitsInVain : {W V C L A : Type 0} → Machine W V C L A → (Plain → C → Type 0) → ℕ → Schedule C V → ℕ → Type 0
WaitsInVain {C = C} {L = L} m Fine n past p =
    let seen = seen_at m n past in
    (c : C) × (l : L) × (h : Option Hold) × IsCalling m n past p c l h × Fine seen.plain c
    × ((m.asks c h).waits ≡ true) × (is_open_now p (m.asks c h) (seen.span p) seen.plain ≡ false)

abbrev pub Moves : Type 0
Moves = List (ℕ × Move AnyCall ℕ)

-- n parties have made these moves on a lock that nobody had used
module _ (n : ℕ) where
  -- the plain lock then; a barrier has none
  abbrev pub plain_after : AnyLock → Moves → Plain
  plain_after (any.Flag x) past = (seen_at (flag_machine x.object.value) n (narrowed flag_call past)).plain
  plain_after (any.Ticket x) past = (seen_at (ticket_machine x.object.value x.object.first) n (narrowed ticket_call past)).plain
  plain_after (any.Fair x) past = (seen_at (fair_machine x.object.value x.object.cap x.object.patience) n (narrowed fair_call past)).plain
  plain_after (any.Rw x) past = (seen_at (rw_machine x.object.value x.object.cap) n (narrowed rw_call past)).plain
  plain_after (any.Once x) past = (seen_at (once_machine x.object.value) n (narrowed once_call past)).plain
  plain_after (any.Barrier x) past = fresh 0 0 0

  -- The party waits for the lock in vain. Not meant are a lock without a ticket that is left, a lock whose cap is 0, a `wait` of a `Once`,
  -- and barriers.
  abbrev pub IsKeptOutOf : AnyLock → Moves → ℕ → Type 0
  IsKeptOutOf (any.Flag x) past p = WaitsInVain (flag_machine x.object.value) (λ s c. Unit {0}) n (narrowed flag_call past) p
  IsKeptOutOf (any.Ticket x) past p = WaitsInVain (ticket_machine x.object.value x.object.first) (λ s c. s.next < ticket_limit) n (narrowed ticket_call past) p
  IsKeptOutOf (any.Fair x) past p = WaitsInVain (fair_machine x.object.value x.object.cap x.object.patience) (λ s c. Unit {0}) n (narrowed fair_call past) p
  IsKeptOutOf (any.Rw x) past p = WaitsInVain (rw_machine x.object.value x.object.cap) (λ s c. 1 ≤ s.cap) n (narrowed rw_call past) p
  IsKeptOutOf (any.Once x) past p = WaitsInVain (once_machine x.object.value) (λ s c. is_wait c ≡ false) n (narrowed once_call past) p
  IsKeptOutOf (any.Barrier x) past p = ⊥

  module _ (lock : ℕ → AnyLock) (past : ℕ → Moves) where
    -- `at` says of each party at which rank it is kept out, if it is
    abbrev pub TellsWho : ℕ → (ℕ → Option ℕ) → Type 0
    TellsWho ranks at =
        ((p k : ℕ) → at p ≡ Some k → (k < ranks) × IsKeptOutOf (lock k) (past k) p)
        × ((p k : ℕ) → IsKeptOutOf (lock k) (past k) p → at p ≡ Some k)

    -- a party that is kept out has nothing in a lock that ranks higher
    abbrev pub UseInOrder : (ℕ → Option ℕ) → Type 0
    UseInOrder at = (p k j : ℕ) → at p ≡ Some k → k < j → has_something (plain_after (lock j) (past j)) p ≡ false

    -- while a party is kept out, a party that has something in this lock, or in one that ranks higher, is kept out of no lock
    abbrev pub IsFreeOfDeadlock : (ℕ → Option ℕ) → Type 0
    IsFreeOfDeadlock at =
        (p k : ℕ) → at p ≡ Some k
        → (q j : ℕ) × (k ≤ j) × (has_something (plain_after (lock j) (past j)) q ≡ true) × ((i : ℕ) → IsKeptOutOf (lock i) (past i) q → ⊥)
