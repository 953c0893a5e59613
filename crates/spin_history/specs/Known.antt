-- The entries of a log, and those that its snapshots know.
use Rattle.std.specs.Prelude.{◌≡◌, Bool, MatchBool, List}
use mathlib.Core.List.{IsPrefix}
use Rattle.spin_history.specs.Entries.{ReadsIn, WritesIn, UpdatesIn}
use Rattle.spin_history.specs.declared.history.Log.{Log}
use Rattle.spin_history.specs.declared.history.Snapshot.{Snapshot}
use Rattle.spin_history.specs.declared.history.ClosedLog.{ClosedLog}

module _ {T H : Type 0} where
  abbrev pub log_entries : Log T H → List T
  log_entries log = log.entries

  abbrev pub known_to : Snapshot T H → List T
  known_to seen = seen.entries

  abbrev pub closed_entries : ClosedLog T H → List T
  closed_entries log = log.entries

  -- a snapshot that knew a part of these entries knows all of them
  abbrev pub IsUpdated : Snapshot T H → Snapshot T H → List T → Type 0
  IsUpdated old new entries = IsPrefix old.entries entries × (new.entries ≡ entries)

  -- a caller reads this value, in the order le
  abbrev pub Finds : (T → T → Type 0) → T → Snapshot T H → Snapshot T H → Type 0
  Finds le value old new = ReadsIn le old.entries value new.entries

  -- a caller reads a value of which `by` gives this answer
  abbrev pub Inspects : {A : Type 0} → (T → T → Type 0) → (T → A → Type 0) → A → Snapshot T H → Snapshot T H → Type 0
  Inspects le by answer old new = (value : T) × (by value answer × Finds le value old new)

  -- a caller finds a value, of which `by` makes another and gives this answer
  abbrev pub Changes : {A : Type 0} → (T → T → Type 0) → (T → A → T → Type 0) → A → Snapshot T H → Snapshot T H → Type 0
  Changes le by answer old new = (before after : T) × (by before answer after × UpdatesIn le old.entries before after new.entries)

  abbrev pub ChangesBy : (T → T → Type 0) → (T → T → Type 0) → Snapshot T H → Snapshot T H → Type 0
  ChangesBy le by old new = (before after : T) × (by before after × UpdatesIn le old.entries before after new.entries)

  -- a caller that wrote this value, or learnt nothing
  abbrev pub MayWrite : (T → T → Type 0) → Bool → T → Snapshot T H → Snapshot T H → Type 0
  MayWrite le wrote value old new = MatchBool wrote (WritesIn le old.entries value new.entries) (new.entries ≡ old.entries)
