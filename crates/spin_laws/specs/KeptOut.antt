-- In a world: a party that waits in a call whose request is closed asks something of the plain lock that is closed.
use Rattle.std.specs.Prelude.{◌≡◌, ℕ, true, false, Option}
use Rattle.spin_step.specs.Plain.{Plain, Ask, is_open_to}
use Rattle.spin_step.specs.Machines.{Machine}
use Rattle.spin_step.specs.declared.place.Hold.{Hold}
use Rattle.spin_step.specs.declared.once_calls.OnceCall.{OnceCall}
use Rattle.spin_step.specs.declared.once_calls.OnceCall.TheVariants.{Wait}
use Rattle.std.specs.Prelude.{Bool}
use Rattle.spin_world_core.specs.Runs.{Schedule}
use Rattle.spin_world_core.specs.Undisturbed.{is_open_now}
use Rattle.spin_world_core.specs.Users.{seen_at, IsCalling}
use Rattle.spin_laws.specs.Several.{HasItsOwn}

-- After the schedule `past` of n parties: what a waiting call of the party p asks is closed, and in the lock the party has only what this
-- call has there. `Fine` says of which states and calls this holds.
abbrev pub AsksWhatIsClosed : {W V C L A : Type 0} → Machine W V C L A → (Plain → C → Type 0) → ℕ → Schedule C V → Type 0
AsksWhatIsClosed {C = C} {L = L} m Fine n past =
    let seen = seen_at m n past in
    (p : ℕ) (c : C) (l : L) (h : Option Hold) → IsCalling m n past p c l h → Fine seen.plain c
    → (m.asks c h).waits ≡ true → is_open_now p (m.asks c h) (seen.span p) seen.plain ≡ false
    → (ask : Ask) × HasItsOwn seen.plain p ask × (is_open_to seen.plain p ask ≡ false)

-- the call waits until some other call makes the value
abbrev pub is_wait : {V : Type 0} → OnceCall V → Bool
is_wait Wait = true
is_wait _ = false
