use Rattle.std.proofs.Common.{ap, sym, ◌∙◌}
use Rattle.spin_seated.specs.Histories.{holds}
use Rattle.spin_seated.proofs.Histories.{after_meet}
use Rattle.spin_seated.proofs.lock.SeatedLock.meet.Goals as goal

pub invariant_of-a : goal.invariant_of-a
invariant_of-a g c = c.a.invariant ∙ sym (after_meet g.C.Calls.machine c.laws.ensures.tracked _ _ _ c.meet_at.ensures.first)

pub invariant_of-b : goal.invariant_of-b
invariant_of-b g c = c.b.invariant ∙ sym (after_meet g.C.Calls.machine c.laws.ensures.tracked _ _ _ c.meet_at.ensures.second)

pub returns-clause-first_holds : goal.returns-clause-first_holds
returns-clause-first_holds g c = after_meet g.C.Calls.machine c.laws.ensures.tracked _ _ _ c.meet_at.ensures.first ∙ ap (λ v. holds g.C.Calls.machine v.known) c.a.view_is

pub returns-clause-second_holds : goal.returns-clause-second_holds
returns-clause-second_holds g c = after_meet g.C.Calls.machine c.laws.ensures.tracked _ _ _ c.meet_at.ensures.second ∙ ap (λ v. holds g.C.Calls.machine v.known) c.b.view_is
