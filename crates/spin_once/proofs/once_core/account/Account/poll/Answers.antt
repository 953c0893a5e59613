use Rattle.std.proofs.Common.{refl, inr}
use Rattle.spin_once.specs.Accounts.{here}
use Rattle.spin_once.proofs.Accounts.{joins}
use Rattle.spin_once.proofs.once_core.account.Account.poll.Goals as goal

pub returns-in-Answers : goal.returns-in-Answers
returns-in-Answers g c = let p = here c.args.self in c.answer.ensures p (c.step-next.ensures.made.comes p (inr (refl, c.requires)))

pub returns-in-Continue : goal.returns-in-Continue
returns-in-Continue g c =
    let p = here c.args.self in c.answer-in-Continue.ensures p ((joins c.go_on-next.ensures.made (rw c.in-Continue.is at c.step-next.ensures.made)).comes p (inr (refl, c.requires)))
