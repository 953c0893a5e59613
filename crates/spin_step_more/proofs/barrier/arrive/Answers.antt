use Rattle.std.proofs.Common.{arith}
use Rattle.spin_step_more.proofs.Barriers.{barrier_arrive-words}
use Rattle.spin_step_more.proofs.barrier.arrive.Goals as goal

pub returns-then-count-n-clause-plain : goal.returns-then-count-n-clause-plain
returns-then-count-n-clause-plain c s party is = let after = (barrier_arrive-words s _ _ _ is).words in grind arith

pub returns-then-count-n-clause-leads : goal.returns-then-count-n-clause-leads
returns-then-count-n-clause-leads c s is = let leads = (barrier_arrive-words s _ _ _ is).leads in grind arith

pub returns-else-count-n-clause-plain : goal.returns-else-count-n-clause-plain
returns-else-count-n-clause-plain c s party is = let after = (barrier_arrive-words s _ _ _ is).words in grind arith
