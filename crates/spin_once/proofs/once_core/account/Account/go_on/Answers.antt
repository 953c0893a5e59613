use Rattle.std.proofs.Common.{refl, arith}
use Rattle.spin_once.proofs.Accounts.{stays_at, joins}
use Rattle.spin_once.proofs.once_core.account.Account.go_on.Goals as goal

pub loop-init : goal.loop-init
loop-init g c = let a = c.args in (tt, tt, c.requires.quiet, stays_at a.call a.point a.self c.requires.at c.requires.quiet)

pub loop-preserved : goal.loop-preserved
loop-preserved g c = (tt, tt, grind (arith, c.in-Continue), joins (rw c.in-Continue.is at c.step-next.ensures.made) c.loop.invariant.3)

pub returns-in-Answers : goal.returns-in-Answers
returns-in-Answers g c = let s = c.step-next.ensures in record { made = joins s.made c.loop.invariant.3; stops = ((c.loop.at, s.goes.0, s.goes.1), rw c.in-Answers.is refl) }

pub returns-in-Continue-Run : goal.returns-in-Continue-Run
returns-in-Continue-Run g c = let s = c.step-next.ensures in record { made = joins s.made c.loop.invariant.3; stops = ((c.loop.at, s.goes.0, s.goes.1), grind (arith, c.in-Continue-Run)) }
