use Rattle.std.proofs.Common.{refl, ◌==◌}
use Rattle.std.proofs.lemmas.Bool.{eqb-true}
use Rattle.spin_step.specs.Calls.{readers, writers}
use Rattle.spin_step_more.specs.Readers.{reader_limit}
use Rattle.spin_world.proofs.RwOwed.{rw_facts}
use Rattle.spin_laws.proofs.Moments.{found}
use Rattle.spin_laws.proofs.answers.a_count_of_a_rwlock_was_so_at_a_moment.Goals as goal

pub returns-clause-readers : goal.returns-clause-readers
returns-clause-readers g c = λ opening count.
    found (rw_facts opening reader_limit) (λ p s. readers s == count) (λ h. refl) (λ p l h seen call is. eqb-true (readers seen.plain) count is)

pub returns-clause-writers : goal.returns-clause-writers
returns-clause-writers g c = λ opening count.
    found (rw_facts opening reader_limit) (λ p s. writers s == count) (λ h. refl) (λ p l h seen call is. eqb-true (writers seen.plain) count is)
