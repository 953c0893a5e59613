-- The texts that `{:?}` writes for the locks.
pub use Rattle.spin_core.specs.Texts.{lock_text}
pub use Rattle.spin_fair.specs.Texts.{fair_text}
pub use Rattle.spin_rwlock.specs.Texts.{rw_text}
pub use Rattle.spin_once.specs.Texts.{once_text}
