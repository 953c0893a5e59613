-- The message that an error of a send brings back.
use Rattle.spin_channel.specs.declared.err.SendError.{SendError}
use Rattle.spin_channel.specs.declared.err.SendError.TheVariants as send
use Rattle.spin_channel.specs.declared.err.TrySendError.{TrySendError}
use Rattle.spin_channel.specs.declared.err.TrySendError.TheVariants as try
use Rattle.spin_channel.specs.declared.err.SendTimeoutError.{SendTimeoutError}
use Rattle.spin_channel.specs.declared.err.SendTimeoutError.TheVariants as timed

abbrev pub send_message : {T : Type 0} → SendError T → T
send_message (send.Disconnected message) = message
send_message (send.OutOfMemory message) = message

abbrev pub try_send_message : {T : Type 0} → TrySendError T → T
try_send_message (try.Full message) = message
try_send_message (try.Disconnected message) = message
try_send_message (try.OutOfMemory message) = message

abbrev pub send_timeout_message : {T : Type 0} → SendTimeoutError T → T
send_timeout_message (timed.Timeout message) = message
send_timeout_message (timed.Disconnected message) = message
send_timeout_message (timed.OutOfMemory message) = message
