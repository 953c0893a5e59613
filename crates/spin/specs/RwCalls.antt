-- The calls of an `RwLock`.
pub use Rattle.spin_step_more.specs.declared.rw_calls.RwCall.TheVariants.{Read, TryRead, UpgradeableRead, TryUpgradeableRead, Write, TryWrite, Upgrade, TryUpgrade, Downgrade, DowngradeToUpgradeable, ReaderCount, WriterCount, IsLocked, Release}
