use Rattle.std.proofs.Common.{None, ap, ⊎_elim}
use Rattle.std.proofs.lemmas.Bool.{true≢false}
use Rattle.spin_step.specs.Plain.{is_empty}
use Rattle.spin_step.specs.Calls.{Asked, own_steps, leads}
use Rattle.spin_world.specs.declared.barrier.BarrierCall.TheVariants.{Wait}
use Rattle.spin_tests.proofs.wrong.barrier.a_wait_asks_for_its_group.Goals as goal

pub returns : goal.returns
returns c = λ steps. ⊎_elim (λ same. true≢false (ap (λ (what : Asked). is_empty (own_steps (what.answers leads) 0)) same)) (λ none. none) (steps.calls Wait None).1
