use Rattle.std.proofs.Common.{true, refl, arith}
use Rattle.spin_rwlock.specs.Rw.{rw_tables}
use Rattle.spin_step_more.specs.Readers.{reader_limit}
use Rattle.spin_step_more.specs.declared.rw_calls.RwCall.TheVariants.{IsLocked}
use Rattle.spin_world.proofs.RwOwed.{rw_facts}
use Rattle.spin_laws.proofs.Holding.{looks_so}
use Rattle.spin_laws.proofs.beside.a_look_beside_a_guard_of_a_rwlock_is_true.Goals as goal

pub returns : goal.returns
returns g c = looks_so rw_tables (λ o. rw_facts o.value reader_limit) (λ call. true) IsLocked (λ o call is w v l h after row next. grind (arith, row, next)) (λ o held h. refl)
