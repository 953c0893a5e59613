use Rattle.std.proofs.Common.{refl, inr}
use Rattle.spin_step.specs.declared.once_calls.OncePoint.TheVariants.{Look}
use Rattle.spin_once.specs.Accounts.{here}
use Rattle.spin_once.proofs.Accounts.{joins, waited}
use Rattle.spin_once.proofs.once_core.account.Account.wait.Goals as goal
use Rattle.spin_once.proofs.once_core.account.Account.wait.Goals.{in-Answers, in-Continue}

pub returns : goal.returns
returns g c =
    let s = c.step-next.ensures in let p = here c.args.self in let under = inr (refl, c.requires) in
    elim c.match-next.branch [
      | in-Answers w ↦ rw w.result-is ((waited s.made refl ((Look, s.goes.0, s.goes.1), rw w.in-Answers.is refl)).comes p under)
      | in-Continue w ↦ rw w.result-is (let f = w.go_on-account.ensures in (joins (waited f.made refl f.stops) (rw w.in-Continue.is at s.made)).comes p under)
    ]

pub invariant_of-result : goal.invariant_of-result
invariant_of-result g c =
    let s = c.step-next.ensures in
    elim c.match-next.branch [
      | in-Answers w ↦ rw w.result-is record { reads = (waited s.made refl ((Look, s.goes.0, s.goes.1), rw w.in-Answers.is refl)).view }
      | in-Continue w ↦ rw w.result-is record { reads = (let f = w.go_on-account.ensures in waited f.made refl f.stops).view }
    ]
