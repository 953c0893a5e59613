-- The calls of a `FairMutex`.
pub use Rattle.spin_step_more.specs.declared.fair_calls.FairCall.TheVariants.{Lock, TryLock, TryLockStarver, Starve, StarverLock, StarverTryLock, StarverTryLockFair, StarverDrop, IsLocked, Release}
