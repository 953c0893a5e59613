-- How many messages a drain has left.
use Rattle.std.specs.Prelude.{ℕ}
use Rattle.std.specs.VecDeque.{deque_len}
use Rattle.spin_channel.specs.declared.iter.Drain.{Drain}

abbrev pub left_in : {T : Type 0} → Drain T → ℕ
left_in drain = deque_len drain.messages
