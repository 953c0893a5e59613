use Rattle.std.proofs.Common.{refl, inr, sym, ap, ◌∙◌, subst}
use Rattle.spin_step.specs.declared.once_calls.OncePoint.TheVariants.{Look}
use Rattle.spin_step.specs.declared.stepped.Next.TheVariants.{Continue}
use Rattle.spin_once.specs.Accounts.{MadeSteps, here}
use Rattle.spin_once.proofs.Accounts.{gets}
use Rattle.spin_once.proofs.Moves.{looks}
use Rattle.spin_once.proofs.once_core.account.Account.come.Goals as goal

pub returns-in-Answers : goal.returns-in-Answers
returns-in-Answers g c = let s = c.step-next.ensures in (gets s.made c.requires.closure (Look, s.goes.0, s.goes.1) c.in-Answers.is).comes (here c.args.self) (inr (refl, c.requires.out))

pub returns-in-Continue : goal.returns-in-Continue
returns-in-Continue g c =
    let s = c.step-next.ensures in let next = c.in-Continue.is ∙ ap (λ l. Continue l) (looks c.args.call c.requires.closure _ s.goes.0 (sym c.in-Continue.is ∙ s.goes.1)) in
    let made = subst (λ n. MadeSteps c.args.call n c.args.self c.step-next.result.1) next s.made in (made.comes (here c.args.self) (inr (refl, c.requires.out)), made.view)

pub invariant_of-result : goal.invariant_of-result
invariant_of-result g c = let s = c.step-next.ensures in record { reads = (gets s.made c.requires.closure (Look, s.goes.0, s.goes.1) c.in-Answers.is).view }
