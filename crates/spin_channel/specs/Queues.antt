-- When the queue of a channel lets a message in or out.
use Rattle.std.specs.Prelude.{◌≡◌, Bool, true, false, not, ◌||◌, ◌==◌, nat_le, ℕ, [], Option, None, Some, ⊤}
use Rattle.std.specs.VecDeque.{deque_len}
use Rattle.spin_channel.specs.declared.err.TrySendError.{TrySendError}
use Rattle.spin_channel.specs.declared.err.TrySendError.TheVariants as send
use Rattle.spin_channel.specs.declared.err.TryRecvError.{TryRecvError}
use Rattle.spin_channel.specs.declared.err.TryRecvError.TheVariants as take
use Rattle.spin_channel.specs.declared.kept.Kept.{Ghosts}
use Rattle.spin_channel.specs.declared.queue.Queue.{Queue}
use Rattle.spin_channel.specs.declared.queue.Side.{Side}
use Rattle.spin_channel.specs.declared.queue.Side.TheVariants as side

-- so many messages fill a channel of this capacity
abbrev pub fills : Option ℕ → ℕ → Bool
fills None _ = false
fills (Some most) n = nat_le most n

module _ {T S R : Type 0} {kept : Ghosts S} where
  abbrev pub is_full : Queue T S R kept → Bool
  is_full queue = fills queue.capacity (deque_len queue.waiting)

  -- an end of this side need not wait
  abbrev pub lets : Queue T S R kept → Side → Bool
  lets queue side.Sends = (queue.receivers == 0) || not (is_full queue)
  lets queue side.Receives = queue.closed || not (deque_len queue.waiting == 0)

  -- why this queue does not let a message in
  abbrev pub Refuses : Queue T S R kept → TrySendError T → Type 0
  Refuses queue (send.Full _) = lets queue side.Sends ≡ false
  Refuses queue (send.Disconnected _) = ((queue.receivers == 0) || queue.closed) ≡ true
  Refuses queue (send.OutOfMemory _) = ⊤

  -- why this queue lets no message out
  abbrev pub Lacks : Queue T S R kept → TryRecvError → Type 0
  Lacks queue take.Empty = lets queue side.Receives ≡ false
  Lacks queue take.Disconnected = (queue.closed ≡ true) × (queue.waiting.items ≡ [])
