use Rattle.std.specs.Prelude.{None}
use Rattle.std.proofs.Common.{refl}
use Rattle.spin_world.specs.declared.barrier.BarrierCall.TheVariants.{Wait}
use Rattle.spin_world.specs.declared.barrier.BarrierPoint.TheVariants.{Leave}
use Rattle.spin_tests.proofs.wrong.barrier.a_follower_leaves_beside_newcomers.Goals as goal

pub returns : goal.returns
returns c = λ leave. cc ((leave 0 Wait (Leave 0) None refl refl).1 refl)
