-- The value of a guard, and what the party of a guard knows of the history.
use Rattle.std.specs.Prelude.{Option, Some}
use Rattle.spin_core.specs.Guard.{Guard, guard_spot, guard_value}
use Rattle.spin_core.specs.Guard as core
use Rattle.spin_core.specs.Own.{Numbered}
use Rattle.spin_core.specs.declared.tie.Opening.{Opening}
use Rattle.spin_session.specs.Turns.{SeatSpot, spot_of}
use Rattle.spin_step.specs.Schedules.{Entry}
use Rattle.spin_step.specs.declared.place.Seat.{Seat}
use Rattle.spin_step_more.specs.declared.rw_calls.RwCall.{RwCall}
use Rattle.spin_step_more.specs.declared.rw_calls.RwPoint.{RwPoint}
use Rattle.spin_rwlock.specs.declared.rwlock.reader.SharedGuard.{SharedGuard}
use Rattle.spin_rwlock.specs.declared.rwlock.rule.Kind.{Ghosts}
use Rattle.spin_rwlock.specs.declared.rwlock.reader.ReadHeld.{ReadHeld}
use Rattle.spin_rwlock.specs.declared.rwlock.writer.WriteGuard.{WriteGuard}
use Rattle.spin_rwlock.specs.declared.rwlock.writer.WriteHeld.{WriteHeld}

abbrev pub RwSpot : Type 0 → Type 0
RwSpot T = SeatSpot T RwCall RwPoint

module _ {T R : Type 0} where
  module _ {K : Type 0} {kind : Ghosts K} where
    -- the value that a guard shows; it is never `None`
    abbrev pub shared_value : SharedGuard T K R kind → Option T
    shared_value it = it.session.permit.value

    -- the spot of a guard's party
    abbrev pub shared_spot : SharedGuard T K R kind → RwSpot T
    shared_spot it = spot_of it.session

  -- the value of a hold; nobody writes it while the hold lives
  abbrev pub read_held_value : ReadHeld T R → Option T
  read_held_value it = it.session.permit.value

  -- the value that the hold's release leaves
  abbrev pub write_held_value : WriteHeld T R → Option T
  write_held_value it = Some (guard_value it.guard)

  -- the spot of a hold's party
  abbrev pub read_held_spot : ReadHeld T R → RwSpot T
  read_held_spot it = spot_of it.session

  abbrev pub write_held_spot : WriteHeld T R → RwSpot T
  write_held_spot it = guard_spot it.guard

-- the writer's guard, over a guard of a lock under any rule
abbrev pub RwLockWriteGuard : (T R P S : Type 0) → Type 0
RwLockWriteGuard T R P S = WriteGuard (Guard T (Numbered (Seat RwCall RwPoint)) (Entry RwCall T) P R (Opening T) S)

module _ {T R P S : Type 0} where
  abbrev pub write_value : RwLockWriteGuard T R P S → T
  write_value it = guard_value it.guard

  abbrev pub write_spot : RwLockWriteGuard T R P S → RwSpot T
  write_spot it = guard_spot it.guard

  -- the guard knows the history of its lock, at least up to the last step of its party
  abbrev pub KnowsItsSteps : RwLockWriteGuard T R P S → Type 0
  KnowsItsSteps it = core.Holds it.guard

  -- when the guard was granted, its lock had this value
  abbrev pub HasFound : T → RwLockWriteGuard T R P S → Type 0
  HasFound x it = core.HasFound x it.guard
