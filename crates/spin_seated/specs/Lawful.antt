-- What a history of a mutex tells its users.
use Rattle.std.specs.Prelude.{◌≡◌, ℕ, Bool, true, false, List, map, Option, Some, None}
use Rattle.spin_seated.specs.declared.history.Entry.{Entry}
use Rattle.spin_seated.specs.declared.lock.Opening.{Opening}
use Rattle.spin_seated.specs.declared.mutex.Call.{Call}
use Rattle.spin_seated.specs.declared.mutex.Call.TheVariants.{TryLock, IsLocked, Read, Write, Unlock}
use Rattle.spin_seated.specs.declared.lock.Answer.{Answer}
use Rattle.spin_seated.specs.declared.lock.Answer.TheVariants.{Truth, Value}
use Rattle.spin_seated.specs.Histories.{state}
use Rattle.spin_seated.specs.Locked.{hold_after}
use Rattle.spin_seated.specs.Mutex.{mutex}

abbrev pub History : Type 0
History = List (Entry Call Answer)

-- the passes that hold the lock after these calls
abbrev pub holders_after : Opening → History → List ℕ
holders_after k log = map (λ h. h.party) (state mutex k log).lock.holders

-- a pass holds the lock from a `try_lock` that succeeds until it unlocks
abbrev pub holds_then : Call → Answer → Bool → Bool
holds_then TryLock (Truth true) held = true
holds_then Unlock a held = false
holds_then c a held = held

-- what a pass holds after these calls, which are its own
abbrev pub holds_by : History → Bool
holds_by own = hold_after holds_then false own

-- which calls a pass may make while it holds the lock, and while it does not
abbrev pub MayCall : Call → Bool → Type 0
MayCall TryLock held = Unit {0}
MayCall IsLocked held = Unit {0}
MayCall c held = held ≡ true

-- the value that a call writes, if it writes
abbrev pub written : Call → Option ℕ
written (Write w) = Some w
written _ = None

-- the value that a call reads, if it reads
abbrev pub read_by : Call → Answer → Option ℕ
read_by Read (Value v) = Some v
read_by _ _ = None
