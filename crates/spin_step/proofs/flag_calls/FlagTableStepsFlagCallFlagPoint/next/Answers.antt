-- A try that finds the flag set is refused.
use Rattle.std.proofs.Common.{arith, ne_eqb}
use Rattle.spin_step.proofs.flag_calls.FlagTableStepsFlagCallFlagPoint.next.Goals as goal

pub returns-in-TryLock-2 : goal.returns-in-TryLock-2
returns-in-TryLock-2 g c value = grind (arith, c.in-TryLock-2.is, ne_eqb c.args.found 0 c.if-found-eq0-2.false)

pub returns-in-TryLockWeak-2 : goal.returns-in-TryLockWeak-2
returns-in-TryLockWeak-2 g c value = grind (arith, c.in-TryLockWeak-2.is, ne_eqb c.args.found 0 c.if-found-eq0-3.false)
