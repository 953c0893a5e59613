use Rattle.spin_step_more.specs.Readers.{reader_limit}
use Rattle.spin_world.proofs.RwOwed.{rw_facts}
use Rattle.spin_laws.proofs.Counts.{keeps_limits}
use Rattle.spin_laws.proofs.limits.a_call_of_a_rwlock_keeps_its_limit.Goals as goal

pub returns : goal.returns
returns g c = λ opening. keeps_limits (rw_facts opening reader_limit)
