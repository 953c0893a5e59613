-- What a wait does to its party, and whether its time was over.
use Rattle.std.specs.Prelude.{Bool}
use Rattle.spin_condvar.specs.declared.time.WaitTimeoutResult.{WaitTimeoutResult}

-- The party of the guard has released the lock, has acquired it again by the pass that it then had, and has made no other call.
abbrev pub Waited : {G P : Type 0} → (G → P → Type 0) → (P → G → Type 0) → G → G → Type 0
Waited {P = P} unlocks grants before now = (pass : P) × unlocks before pass × grants pass now

-- `r.timed_out()`
abbrev pub has_timed_out : WaitTimeoutResult → Bool
has_timed_out r = r.timed_out
