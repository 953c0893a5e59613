use Rattle.std.proofs.Common.{true, refl, arith}
use Rattle.spin_rwlock.specs.Rw.{rw_tables}
use Rattle.spin_step_more.specs.Readers.{reader_limit}
use Rattle.spin_step_more.specs.declared.rw_calls.RwCall.TheVariants.{Release}
use Rattle.spin_world.proofs.RwOwed.{rw_facts}
use Rattle.spin_laws.specs.Beside.{is_exclusive}
use Rattle.spin_laws.proofs.Behind.{writes_behind}
use Rattle.spin_laws.proofs.beside.a_writer_of_a_rwlock_comes_after_the_readers_before_it.Goals as goal

pub returns : goal.returns
returns g c = writes_behind rw_tables (λ o. rw_facts o.value reader_limit) (λ call. true) is_exclusive Release (λ o call is w v l h after row next. grind (arith, row, next)) (λ o call is w v l h after row next. grind (arith, row, is, next))
    (λ o p l h kind. grind (arith, kind))
