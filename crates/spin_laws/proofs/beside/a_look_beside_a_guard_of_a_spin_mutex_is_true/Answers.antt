use Rattle.std.proofs.Common.{true, refl, arith}
use Rattle.spin_flag.specs.Flag.{flag_tables}
use Rattle.spin_step.specs.declared.flag_calls.FlagCall.TheVariants.{IsLocked}
use Rattle.spin_world.proofs.FlagOwed.{flag_facts}
use Rattle.spin_laws.proofs.Holding.{looks_so}
use Rattle.spin_laws.proofs.beside.a_look_beside_a_guard_of_a_spin_mutex_is_true.Goals as goal

pub returns : goal.returns
returns g c = looks_so flag_tables (λ o. flag_facts o.value) (λ call. true) IsLocked (λ o call is w v l h after row next. grind (arith, row, next)) (λ o held h. refl)
