use Rattle.std.proofs.Common.{true, refl, arith}
use Rattle.spin_fair.specs.Fair.{fair_tables, patience}
use Rattle.spin_step_more.specs.Starvers.{most_starvers}
use Rattle.spin_step_more.specs.declared.fair_calls.FairCall.TheVariants.{IsLocked}
use Rattle.spin_world.proofs.FairOwed.{fair_facts}
use Rattle.spin_laws.specs.Beside.{is_lock}
use Rattle.spin_laws.proofs.Holding.{looks_so}
use Rattle.spin_laws.proofs.beside.a_look_beside_a_guard_of_a_fair_mutex_is_true.Goals as goal

pub returns : goal.returns
returns g c = looks_so fair_tables (λ o. fair_facts o.value most_starvers patience) is_lock IsLocked (λ o call is w v l h after row next. grind (arith, row, is, next)) (λ o held h. refl)
