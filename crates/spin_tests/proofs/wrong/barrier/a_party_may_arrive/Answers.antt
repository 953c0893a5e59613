use Rattle.std.proofs.lemmas.Bool.{false≢true}
use Rattle.std.specs.Prelude.{None}
use Rattle.spin_world.specs.declared.barrier.BarrierCall.TheVariants.{Wait}
use Rattle.spin_tests.proofs.wrong.barrier.a_party_may_arrive.Goals as goal

pub returns : goal.returns
returns c = λ steps. false≢true (steps.begins Wait None)
