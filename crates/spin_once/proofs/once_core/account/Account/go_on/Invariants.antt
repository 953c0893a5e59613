use Rattle.std.proofs.Common.{◌≡◌, false}
use Rattle.spin_step.specs.declared.stepped.Next.TheVariants.{Continue}
use Rattle.spin_once.specs.Accounts.{MadeSteps}
use Rattle.spin_once.specs.Once.{is_run}
use Rattle.spin_once.proofs.once_core.account.Account.go_on.Given as goal

-- the party is still in the call
abbrev pub invariant-loop : goal.invariant-loop
invariant-loop g l = (goal.iterator-loop g).can_next l.iterator' × (goal.iterator-loop g).is_finite l.iterator' × (is_run l.at ≡ false) × MadeSteps l.fn.call (Continue l.at) l.fn.self l.account
