use Rattle.std.proofs.Common.{refl}
use Rattle.spin_tests.proofs.wrong.barrier.a_leader_is_told_as_it_arrives.Goals as goal

pub returns : goal.returns
returns c = λ groups. cc ((groups.leads_group 0).1 (refl, refl))
