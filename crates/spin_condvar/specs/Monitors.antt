-- A monitor's guard, with another guard of the lock in it.
use Rattle.spin_condvar.specs.declared.monitor.Followed.{Followed}

module _ {G B : Type 0} where
  abbrev pub around : Followed G B → G → Followed G B
  around it guard = record { guard = guard; bell = it.bell }
