-- What the logs of a channel say of its messages.
use Rattle.std.specs.Prelude.{◌≡◌, Bool, true, false, List, [], Option, None, Some}
use mathlib.Core.List.{IsPrefix}
use Rattle.spin_history.specs.Entries.{WritesOne}
use Rattle.spin_history.specs.declared.history.Log.{Log}
use Rattle.spin_history.specs.declared.history.ClosedLog.{ClosedLog}
use Rattle.spin_channel.specs.declared.kept.Seen.{Seen}
use Rattle.spin_channel.specs.declared.kept.Logs.{Logs}

module _ {T S : Type 0} where
  abbrev pub entries_in : Option (Log T S) → Option (List T)
  entries_in None = None
  entries_in (Some log) = Some log.entries

  abbrev pub closed_in : Option (ClosedLog T S) → Option (List T)
  closed_in None = None
  closed_in (Some log) = Some log.entries

module _ {T S R : Type 0} where
  -- all that was sent, if the channel keeps it: of a closed channel the closed log has it
  abbrev pub all_sent : Option (Logs T S R) → Bool → Option (List T)
  all_sent None _ = None
  all_sent (Some logs) false = entries_in logs.sent
  all_sent (Some logs) true = closed_in logs.closed

  -- all that was taken
  abbrev pub all_taken : Option (Logs T S R) → List T
  all_taken None = []
  all_taken (Some logs) = logs.taken.entries

  abbrev pub KnowsNothing : Seen T S R → Type 0
  KnowsNothing seen = (seen.sent.entries ≡ []) × (seen.taken.entries ≡ [])

  -- A receiver learns all that was sent. Of a closed channel it also learns that this is all.
  abbrev pub Shows : Bool → List T → Seen T S R → Seen T S R → Type 0
  Shows false all seen seen' = IsPrefix seen.sent.entries all × (seen'.sent.entries ≡ all)
  Shows true all seen seen' = IsPrefix seen.sent.entries all × ((seen'.sent.entries ≡ all) × (closed_in seen'.closed ≡ Some all))

  -- A receiver takes this message: the next after those that it knows to be taken, and perhaps others. All that was taken
  -- begins what was sent.
  abbrev pub Takes : Seen T S R → T → Seen T S R → Type 0
  Takes seen message seen' =
      WritesOne seen.taken.entries message seen'.taken.entries
      × (IsPrefix seen.sent.entries seen'.sent.entries × IsPrefix seen'.taken.entries seen'.sent.entries)

  -- A receiver finds the channel closed and empty: all that was sent was taken, and no thread can send any more.
  abbrev pub TookAll : Seen T S R → Seen T S R → Type 0
  TookAll seen seen' =
      (IsPrefix seen.taken.entries seen'.taken.entries × IsPrefix seen.sent.entries seen'.sent.entries)
      × ((seen'.taken.entries ≡ seen'.sent.entries) × (closed_in seen'.closed ≡ Some seen'.sent.entries))
