-- The calls of a `Once` and of a `LazyLock`.
pub use Rattle.spin_step.specs.declared.once_calls.OnceCall.TheVariants.{CallOnce, TryCallOnceOk, Wait, Poll, Get, IsCompleted}
