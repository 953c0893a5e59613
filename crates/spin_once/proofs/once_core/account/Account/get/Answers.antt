use Rattle.std.proofs.Common.{arith, refl, inr}
use Rattle.spin_once.specs.Accounts.{here}
use Rattle.spin_once.proofs.once_core.account.Account.get.Goals as goal

pub answer-requires-clause-told : goal.answer-requires-clause-told
answer-requires-clause-told g c = let (n, is) = c.step-next.ensures.goes in grind (arith, is)

pub returns : goal.returns
returns g c = let p = here c.args.self in c.answer.ensures p (c.step-next.ensures.made.comes p (inr (refl, c.requires)))
