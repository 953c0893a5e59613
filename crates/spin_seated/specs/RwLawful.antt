-- What a history of a read-write lock tells its users.
use Rattle.std.specs.Prelude.{◌≡◌, ℕ, true, List, [], ◌∷◌, Option, Some, None}
use Rattle.spin_step.specs.Plain.{reading, writing, Holder, holder}
use Rattle.spin_seated.specs.declared.history.Entry.{Entry}
use Rattle.spin_seated.specs.declared.lock.Opening.{Opening}
use Rattle.spin_seated.specs.declared.lock.Answer.{Answer}
use Rattle.spin_seated.specs.declared.lock.Answer.TheVariants.{Truth, Value}
use Rattle.spin_seated.specs.declared.rwlock.Call.{Call}
use Rattle.spin_seated.specs.declared.rwlock.Call.TheVariants.{TryRead, TryWrite, Read, Write, UnlockRead, UnlockWrite, Downgrade}
use Rattle.spin_seated.specs.declared.rwlock.SeatedHold.{SeatedHold}
use Rattle.spin_seated.specs.declared.rwlock.SeatedHold.TheVariants as hold
use Rattle.spin_seated.specs.Histories.{state}
use Rattle.spin_seated.specs.Locked.{hold_after, all_written, all_read}
use Rattle.spin_seated.specs.Rw.{rw}

abbrev pub History : Type 0
History = List (Entry Call Answer)

-- the holders of the lock after these calls
abbrev pub holders_after : Opening → History → List Holder
holders_after k log = (state rw k log).lock.holders

-- A pass holds the lock from a try that succeeds until it unlocks. After a downgrade it holds as a reader.
abbrev pub holds_then : Call → Answer → Option SeatedHold → Option SeatedHold
holds_then TryRead (Truth true) held = Some hold.Read
holds_then TryWrite (Truth true) held = Some hold.Write
holds_then UnlockRead a held = None
holds_then UnlockWrite a held = None
holds_then Downgrade a held = Some hold.Read
holds_then c a held = held

-- what a pass holds after these calls, which are its own
abbrev pub holds_by : History → Option SeatedHold
holds_by own = hold_after holds_then None own

-- the plain lock's holders that stand for a pass which holds this
abbrev pub place_of : ℕ → Option SeatedHold → List Holder
place_of p None = []
place_of p (Some hold.Read) = holder p reading ∷ []
place_of p (Some hold.Write) = holder p writing ∷ []

-- which calls a pass may make while it holds nothing, reads, or writes
abbrev pub MayCall : Call → Option SeatedHold → Type 0
MayCall TryRead held = held ≡ None
MayCall TryWrite held = held ≡ None
MayCall Read held = held ≡ None → ⊥
MayCall UnlockRead held = held ≡ Some hold.Read
MayCall (Write v) held = held ≡ Some hold.Write
MayCall UnlockWrite held = held ≡ Some hold.Write
MayCall Downgrade held = held ≡ Some hold.Write
MayCall c held = Unit {0}

-- the value that a call writes
abbrev pub written : Call → Option ℕ
written (Write w) = Some w
written _ = None

-- the value that a call reads
abbrev pub read_by : Call → Answer → Option ℕ
read_by Read (Value v) = Some v
read_by _ _ = None

-- all values written, and all values read, in the order of the history
abbrev pub values_written : History → List ℕ
values_written log = all_written written log

abbrev pub values_read : History → List ℕ
values_read log = all_read read_by log
