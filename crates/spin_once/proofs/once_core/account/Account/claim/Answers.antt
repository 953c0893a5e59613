use Rattle.std.proofs.Common.{inl, ap}
use Rattle.spin_step.specs.declared.once_calls.OncePoint.TheVariants.{TryBegin}
use Rattle.spin_session.specs.Turns.{has_begun}
use Rattle.spin_once.proofs.Accounts.{gets}
use Rattle.spin_once.proofs.once_core.account.Account.claim.Goals as goal

pub returns-in-Answers : goal.returns-in-Answers
returns-in-Answers g c =
    let s = c.step-next.ensures in let made = gets s.made c.requires.closure (TryBegin, s.goes.0, s.goes.1) c.in-Answers.is in
    record { claims = λ p on. made.comes p (inl (on, ap has_begun c.requires.wants)); runs = tt }

pub invariant_of-result : goal.invariant_of-result
invariant_of-result g c = let s = c.step-next.ensures in record { reads = (gets s.made c.requires.closure (TryBegin, s.goes.0, s.goes.1) c.in-Answers.is).view }
