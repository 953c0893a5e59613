use Rattle.std.proofs.Common.{ap, subst}
use Rattle.spin_barrier.specs.Gathered.{Waited}
use Rattle.spin_barrier.proofs.Gathered.{a_group, by_leads, waited_leading, waited_following}
use Rattle.std.specs.Prelude.{length, ◌+◌}
use Rattle.spin_barrier.proofs.roll.calls.Barrier+R+Roll+N+L+H+V+G.wait.Goals as goal

waits : goal.returns-clause-waited
waits g c = let n = g.N.Groups.group in let before = c.replace-before.result in let waits = c.wait_with-now.ensures in
    let there = waits.0 in let came = waits.1.0 in let led = c.wait_with-now.result.0.leads in let now = c.wait_with-now.result.1 in
    subst (λ known. Waited n known.arrivals.entries known.told led now.arrivals.entries) c.replace-before.ensures.value
    (by_leads led
    (λ yes same. waited_leading n before.arrivals.entries before.told led there.arrivals.entries now.arrivals.entries came.0.0 came.0.1 yes (ap (λ s. s.arrivals.entries) same))
    (λ no left. waited_following n before.arrivals.entries before.told led there.arrivals.entries now.arrivals.entries came.0.0 came.0.1 left.0 left.1)
    waits.1.1)

pub returns-clause-waited : goal.returns-clause-waited
returns-clause-waited g c = waits g c

pub returns-clause-group : goal.returns-clause-group
returns-clause-group g c = let found = waits g c in
    a_group g.N.Groups.group (length found.0 + 1) (length c.wait_with-now.result.1.arrivals.entries) found.2.1.1.1
