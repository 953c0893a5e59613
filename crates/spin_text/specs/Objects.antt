-- The objects that a text can describe. Each has its calls, its header, and the limits of the header's numbers.
use Rattle.std.specs.Prelude.{ℕ, ◌≤◌, ◌<◌, ◌^◌, Bool, true, nat_lt, List, [], ◌∷◌, codes, decimal}
use Rattle.spin_step_more.specs.Readers.{reader_limit}
use Rattle.spin_step_more.specs.Starvers.{most_starvers}
use Rattle.spin_step.specs.declared.flag_calls.FlagCall.{FlagCall}
use Rattle.spin_step.specs.declared.flag_calls.FlagCall.TheVariants as flag
use Rattle.spin_step_more.specs.declared.fair_calls.FairCall.{FairCall}
use Rattle.spin_step_more.specs.declared.fair_calls.FairCall.TheVariants as fair
use Rattle.spin_step_more.specs.declared.rw_calls.RwCall.{RwCall}
use Rattle.spin_step_more.specs.declared.rw_calls.RwCall.TheVariants as rw
use Rattle.spin_step.specs.declared.ticket_calls.TicketCall.{TicketCall}
use Rattle.spin_step.specs.declared.ticket_calls.TicketCall.TheVariants as ticket
use Rattle.spin_world.specs.declared.barrier.BarrierCall.{BarrierCall}
use Rattle.spin_world.specs.declared.barrier.BarrierCall.TheVariants as barrier
use Rattle.spin_step.specs.declared.once_calls.OnceCall.{OnceCall}
use Rattle.spin_step.specs.declared.once_calls.OnceCall.TheVariants as once
use Rattle.spin_text.specs.declared.header.Header.{Header}
use Rattle.spin_text.specs.declared.header.Header.TheVariants.{Flag, Ticket, Rw, Fair, Barrier, Once}
use Rattle.spin_text.specs.Spelling.{Calls}

-- calls in whose words there is no number
abbrev pub without_numbers : {C : Type 0} → (C → List (List ℕ)) → Calls C
without_numbers words = record { words = words; fits = λ c. true }

-- The words of each object's calls.

abbrev pub flag_call_words : FlagCall → List (List ℕ)
flag_call_words flag.Lock = codes "lock" ∷ []
flag_call_words flag.TryLock = codes "try_lock" ∷ []
flag_call_words flag.TryLockWeak = codes "try_lock_weak" ∷ []
flag_call_words flag.IsLocked = codes "is_locked" ∷ []
flag_call_words flag.Release = codes "release" ∷ []

abbrev pub ticket_call_words : TicketCall → List (List ℕ)
ticket_call_words ticket.Lock = codes "lock" ∷ []
ticket_call_words ticket.TryLock = codes "try_lock" ∷ []
ticket_call_words ticket.IsLocked = codes "is_locked" ∷ []
ticket_call_words ticket.Release = codes "release" ∷ []

abbrev pub rw_call_words : RwCall → List (List ℕ)
rw_call_words rw.TryRead = codes "try_read" ∷ []
rw_call_words rw.Read = codes "read" ∷ []
rw_call_words rw.TryUpgradeableRead = codes "try_upgradeable_read" ∷ []
rw_call_words rw.UpgradeableRead = codes "upgradeable_read" ∷ []
rw_call_words rw.TryWrite = codes "try_write" ∷ []
rw_call_words rw.TryWriteWeak = codes "try_write_weak" ∷ []
rw_call_words rw.Write = codes "write" ∷ []
rw_call_words rw.ReaderCount = codes "reader_count" ∷ []
rw_call_words rw.WriterCount = codes "writer_count" ∷ []
rw_call_words rw.IsLocked = codes "is_locked" ∷ []
rw_call_words rw.TryUpgrade = codes "try_upgrade" ∷ []
rw_call_words rw.TryUpgradeWeak = codes "try_upgrade_weak" ∷ []
rw_call_words rw.Upgrade = codes "upgrade" ∷ []
rw_call_words rw.Downgrade = codes "downgrade" ∷ []
rw_call_words rw.DowngradeToUpgradeable = codes "downgrade_to_upgradeable" ∷ []
rw_call_words rw.Release = codes "release" ∷ []

abbrev pub fair_call_words : FairCall → List (List ℕ)
fair_call_words fair.Lock = codes "lock" ∷ []
fair_call_words fair.TryLock = codes "try_lock" ∷ []
fair_call_words fair.TryLockStarver = codes "try_lock_starver" ∷ []
fair_call_words fair.IsLocked = codes "is_locked" ∷ []
fair_call_words fair.Starve = codes "starve" ∷ []
fair_call_words fair.StarverTryLockFair = codes "starver_try_lock_fair" ∷ []
fair_call_words fair.StarverTryLock = codes "starver_try_lock" ∷ []
fair_call_words fair.StarverLock = codes "starver_lock" ∷ []
fair_call_words fair.StarverDrop = codes "starver_drop" ∷ []
fair_call_words fair.Release = codes "release" ∷ []

abbrev pub barrier_call_words : BarrierCall → List (List ℕ)
barrier_call_words barrier.Wait = codes "wait" ∷ []

abbrev pub once_call_words : OnceCall ℕ → List (List ℕ)
once_call_words (once.CallOnce v) = codes "call_once" ∷ decimal v ∷ []
once_call_words (once.TryCallOnceOk v) = codes "try_call_once" ∷ codes "ok" ∷ decimal v ∷ []
once_call_words once.TryCallOnceErr = codes "try_call_once" ∷ codes "err" ∷ []
once_call_words (once.InitFromRef v) = codes "init_from_ref" ∷ decimal v ∷ []
once_call_words once.Wait = codes "wait" ∷ []
once_call_words once.Poll = codes "poll" ∷ []
once_call_words once.Get = codes "get" ∷ []
once_call_words once.IsCompleted = codes "is_completed" ∷ []

abbrev pub once_call_fits : OnceCall ℕ → Bool
once_call_fits (once.CallOnce v) = nat_lt v (2 ^ 64)
once_call_fits (once.TryCallOnceOk v) = nat_lt v (2 ^ 64)
once_call_fits (once.InitFromRef v) = nat_lt v (2 ^ 64)
once_call_fits _ = true

abbrev pub once_spelling : Calls (OnceCall ℕ)
once_spelling = record { words = once_call_words; fits = once_call_fits }

-- The first line of a text.

abbrev pub header_words : Header → List (List ℕ)
header_words (Flag value parties) = codes "flag" ∷ decimal value ∷ decimal parties ∷ []
header_words (Ticket value first parties) = codes "ticket" ∷ decimal value ∷ decimal first ∷ decimal parties ∷ []
header_words (Rw value cap parties) = codes "rw" ∷ decimal value ∷ decimal cap ∷ decimal parties ∷ []
header_words (Fair value cap spins parties) = codes "fair" ∷ decimal value ∷ decimal cap ∷ decimal spins ∷ decimal parties ∷ []
header_words (Barrier n parties) = codes "barrier" ∷ decimal n ∷ decimal parties ∷ []
header_words (Once parties) = codes "once" ∷ decimal parties ∷ []

abbrev pub IsWithin : ℕ → ℕ → ℕ → Type 0
IsWithin least most n = (least ≤ n) × (n ≤ most)

-- there are 1 to 1000 parties
abbrev pub PartiesFit : ℕ → Type 0
PartiesFit parties = IsWithin 1 1000 parties

abbrev pub HeaderFits : Header → Type 0
HeaderFits (Flag value parties) = (value < 2 ^ 64) × PartiesFit parties
HeaderFits (Ticket value first parties) = (value < 2 ^ 64) × (first < 2 ^ 64) × PartiesFit parties
HeaderFits (Rw value cap parties) = (value < 2 ^ 64) × IsWithin 1 reader_limit cap × PartiesFit parties
HeaderFits (Fair value cap spins parties) = (value < 2 ^ 64) × IsWithin 1 most_starvers cap × IsWithin 0 1024 spins × PartiesFit parties
HeaderFits (Barrier n parties) = (n < 2 ^ 64) × PartiesFit parties
HeaderFits (Once parties) = PartiesFit parties

-- What a header fixes for the lines after it, and for their world.

abbrev pub CallUnder : Header → Type 0
CallUnder (Flag value parties) = FlagCall
CallUnder (Ticket value first parties) = TicketCall
CallUnder (Rw value cap parties) = RwCall
CallUnder (Fair value cap spins parties) = FairCall
CallUnder (Barrier n parties) = BarrierCall
CallUnder (Once parties) = OnceCall ℕ

abbrev pub calls_of : (h : Header) → Calls (CallUnder h)
calls_of (Flag value parties) = without_numbers flag_call_words
calls_of (Ticket value first parties) = without_numbers ticket_call_words
calls_of (Rw value cap parties) = without_numbers rw_call_words
calls_of (Fair value cap spins parties) = without_numbers fair_call_words
calls_of (Barrier n parties) = without_numbers barrier_call_words
calls_of (Once parties) = once_spelling
