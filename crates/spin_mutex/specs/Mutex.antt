-- What was fixed when a `Mutex` was made. The other words of its contracts are those of the lock in it.
use Rattle.spin_core.specs.declared.tie.Opening.{Opening}
use Rattle.spin_mutex.specs.TicketPasses as ticket
pub use Rattle.spin_mutex.specs.TicketPasses.{Ends, FoundBy, Grants, IsLocked, Lock, OneCall, Settles, TryLock, known, new_in, OpensAt, OpensWith}
use Rattle.spin_mutex.specs.declared.mutex.Mutex.{Mutex}

abbrev pub opening : {T R : Type 0} → Mutex T R → Opening T
opening mutex = ticket.opening mutex.inner
