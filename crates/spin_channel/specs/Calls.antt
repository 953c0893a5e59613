-- What a failed receive tells.
use Rattle.std.specs.Prelude.{◌≡◌}
use Rattle.spin_channel.specs.declared.err.TryRecvError.{TryRecvError}
use Rattle.spin_channel.specs.declared.err.TryRecvError.TheVariants as try
use Rattle.spin_channel.specs.declared.err.RecvTimeoutError.{RecvTimeoutError}
use Rattle.spin_channel.specs.declared.err.RecvTimeoutError.TheVariants as timed
use Rattle.spin_channel.specs.declared.kept.Seen.{Seen}
use Rattle.spin_channel.specs.Kept.{TookAll}

module _ {T S R : Type 0} where
  -- the queue is empty, or the channel has ended
  abbrev pub EndsTry : TryRecvError → Seen T S R → Seen T S R → Type 0
  EndsTry try.Empty seen seen' = seen' ≡ seen
  EndsTry try.Disconnected seen seen' = TookAll seen seen'

  -- the time is up, or the channel has ended
  abbrev pub EndsWait : RecvTimeoutError → Seen T S R → Seen T S R → Type 0
  EndsWait timed.Timeout seen seen' = seen' ≡ seen
  EndsWait timed.Disconnected seen seen' = TookAll seen seen'
