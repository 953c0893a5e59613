-- What a read-write lock is: its first state, how many parties it admits, and what each of its calls promises. The
-- promise of a call also says what its party holds when the call begins.
use Rattle.spin_world_core.specs.Kinds.{IsLock, Asks}
use Rattle.std.specs.Prelude.{◌≡◌, ℕ, true, Option, Some, None, [], ◌∷◌, min}
use Rattle.spin_step.specs.Plain.{reading, upgradable, to_read, to_read_upgradable, to_write, to_upgrade, fresh}
use Rattle.spin_step_more.specs.Readers.{reader_limit}
use Rattle.spin_step.specs.declared.place.Hold.{Hold}
use Rattle.spin_step.specs.declared.place.Hold.TheVariants as hold
use Rattle.spin_step.specs.declared.answer.Answer.{Answer}
use Rattle.spin_step_more.specs.declared.rw_calls.RwCall.{RwCall}
use Rattle.spin_step_more.specs.declared.rw_calls.RwCall.TheVariants.{TryRead, Read, TryUpgradeableRead, UpgradeableRead, TryWrite, TryWriteWeak, Write, ReaderCount, WriterCount, IsLocked, TryUpgrade, TryUpgradeWeak, Upgrade, Downgrade, DowngradeToUpgradeable, Release}
use Rattle.spin_step_more.specs.declared.rw_calls.RwPoint.{RwPoint}
use Rattle.spin_step.specs.Calls.{says_of}
use Rattle.spin_step.specs.Asks.{counts_readers, counts_writers, gives_back, is_above_read, is_held_some, is_write, looks, looks_and_tries, spins_to_write, tries, tries_weakly, turns_to, waits, waits_to_upgrade}
use Rattle.spin_step_more.specs.RwKind.{rw}
use Rattle.spin_step.specs.Machines.{Machine, opening_plain}
use Rattle.spin_world_core.specs.Kinds.{BeginAt, AnswersIn}

abbrev pub RwMachine : Type 0 → Type 0
RwMachine V = Machine ℕ V RwCall RwPoint (Answer V)

pub record IsRwMachine {V : Type 0} (given : V) (cap : ℕ) (m : RwMachine V) : Type 0 where
  pub is_lock : IsLock rw 0 (λ w. w ∷ []) (Some given) true m
  pub open is_lock use *
  -- at first nobody holds; as many parties may hold as the cap says, but no more than the reader limit
  pub plain : opening_plain m ≡ fresh (min cap reader_limit) 0 0
  pub try_read : Asks m TryRead (looks_and_tries to_read)
  pub read : Asks m Read (waits to_read)
  pub try_upgradeable_read : Asks m TryUpgradeableRead (looks_and_tries to_read_upgradable)
  pub upgradeable_read : Asks m UpgradeableRead (waits to_read_upgradable)
  pub try_write : Asks m TryWrite (tries to_write)
  pub try_write_weak : Asks m TryWriteWeak (tries_weakly to_write)
  pub write : Asks m Write spins_to_write
  pub reader_count : Asks m ReaderCount counts_readers
  pub writer_count : Asks m WriterCount counts_writers
  pub is_locked : Asks m IsLocked looks
  pub try_upgrade : Asks m TryUpgrade (tries to_upgrade)
  pub try_upgrade_weak : Asks m TryUpgradeWeak (tries_weakly to_upgrade)
  pub upgrade : Asks m Upgrade waits_to_upgrade
  pub downgrade : (h : Option Hold) → m.asks Downgrade h ≡ turns_to is_above_read h reading
  pub downgrade_to_upgradeable : (h : Option Hold) → m.asks DowngradeToUpgradeable h ≡ turns_to is_write h upgradable
  pub release : (h : Option Hold) → m.asks Release h ≡ gives_back is_held_some h
  pub reads : BeginAt m ((TryRead, None) ∷ (Read, None) ∷ (TryUpgradeableRead, None) ∷ (UpgradeableRead, None) ∷ [])
  pub writes : BeginAt m ((TryWrite, None) ∷ (TryWriteWeak, None) ∷ (Write, None) ∷ (ReaderCount, None) ∷ (WriterCount, None) ∷ (IsLocked, None) ∷ [])
  pub upgrades : BeginAt m ((TryUpgrade, Some hold.Upgradable) ∷ (TryUpgradeWeak, Some hold.Upgradable) ∷ (Upgrade, Some hold.Upgradable) ∷ [])
  pub downgrades : BeginAt m ((Downgrade, Some hold.Upgradable) ∷ (Downgrade, Some hold.Write) ∷ (DowngradeToUpgradeable, Some hold.Write) ∷ [])
  -- every holder may release
  pub releases : BeginAt m ((Release, Some hold.Read) ∷ (Release, Some hold.Upgradable) ∷ (Release, Some hold.Write) ∷ [])
  pub reads_soon : AnswersIn m 2 Read × AnswersIn m 2 UpgradeableRead
  pub writes_soon : AnswersIn m 2 Upgrade × AnswersIn m 1 Write
