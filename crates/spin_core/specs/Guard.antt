-- The value of a guard, the guard with another value, and the value that a hold keeps.
use Rattle.std.specs.Prelude.{◌≡◌, ◌≤◌, Option, Some, length}
use Rattle.spin_core.specs.Cell.{Use, writes}
use Rattle.spin_step.specs.Schedules.{Entry}
use Rattle.spin_core.specs.Own.{Numbered}
use Rattle.spin_core.specs.Spots.{Spot}
use Rattle.spin_core.specs.Values.{IsLast}
use Rattle.spin_core.specs.declared.cell.WritePermit.{WritePermit}
use Rattle.spin_core.specs.declared.tie.Opening.{Opening}
use Rattle.spin_core.specs.declared.guard.Guard.{Guard as AGuard}
use Rattle.spin_core.specs.declared.guard.Held.{Held}
use Rattle.spin_core.specs.declared.guard.Uses.{Ghosts}
use Rattle.spin_core.specs.declared.trace.Watch.{Watch}

-- the guard of a party whose right to write is a permit
abbrev pub Guard : (T V E P R K S : Type 0) → Type 0
Guard T V E P R K S = AGuard (WritePermit T V P K S) E R T

-- the guard with another right to write
abbrev pub over : {W E R V : Type 0} → AGuard W E R V → W → AGuard W E R V
over it writer = record { writer = writer; seen = it.seen; strategy = it.strategy }

module _ {T V E P R K S : Type 0} where
  abbrev pub guard_value : Guard T V E P R K S → T
  guard_value it = it.writer.value

  -- the view of the guard's party
  abbrev pub guard_view : Guard T V E P R K S → V
  guard_view it = it.writer.view

  abbrev pub guard_key : Guard T V E P R K S → K
  guard_key it = it.writer.key

  -- what the guard's party knows of the lock's history
  abbrev pub guard_seen : Guard T V E P R K S → Watch E
  guard_seen it = it.seen

  -- the guard's party holds the lock: it uses the value as a writer
  abbrev pub IsHolder : (V → Use) → Guard T V E P R K S → Type 0
  IsHolder use_of_view it = use_of_view it.writer.view ≡ writes

  -- the value that the hold keeps
  abbrev pub held_value : {uses : Ghosts P V} → Held T V E P R K S uses → Option T
  held_value it = it.permit.value

  -- the view of the hold's party
  abbrev pub held_view : {uses : Ghosts P V} → Held T V E P R K S uses → Option V
  held_view it = it.permit.view

  abbrev pub held_key : {uses : Ghosts P V} → Held T V E P R K S uses → K
  held_key it = it.permit.key

  abbrev pub held_seen : {uses : Ghosts P V} → Held T V E P R K S uses → Watch E
  held_seen it = it.seen

module _ {T X E P R S : Type 0} where
  -- the spot of the guard's party
  abbrev pub guard_spot : Guard T (Numbered X) E P R (Opening T) S → Spot (Opening T) X E
  guard_spot guard = (guard_key guard, Some (guard_view guard), guard_seen guard)

  -- the guard knows the history of its lock, at least up to the last step of its party
  abbrev pub Holds : Guard T (Numbered X) E P R (Opening T) S → Type 0
  Holds guard = ((guard_key guard).name ≡ (guard_seen guard).name) × ((guard_view guard).2 ≤ length (guard_seen guard).entries)

-- when the guard was granted, its lock had this value
abbrev pub HasFound : {T X C P R S : Type 0} → T → Guard T (Numbered X) (Entry C T) P R (Opening T) S → Type 0
HasFound x guard = IsLast (guard_key guard) (guard_seen guard).entries x
