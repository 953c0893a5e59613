use Rattle.std.proofs.Common.{None, refl}
use Rattle.spin_world.specs.declared.barrier.BarrierCall.TheVariants.{Wait}
use Rattle.spin_world.specs.declared.barrier.BarrierPoint.TheVariants.{Leave}
use Rattle.spin_tests.proofs.wrong.barrier.a_follower_leaves_after_later_groups.Goals as goal

pub returns : goal.returns
returns c = λ leave. cc ((leave 0 Wait (Leave 0) None refl refl).1 refl)
