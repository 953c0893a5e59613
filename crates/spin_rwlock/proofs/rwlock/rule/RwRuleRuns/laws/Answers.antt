use Rattle.spin_step_more.specs.Readers.{reader_limit}
use Rattle.spin_step_more.specs.RwCalls.{rw_table}
use Rattle.spin_session.proofs.Executing.{executes}
use Rattle.spin_rwlock.specs.Rw.{rw_meaning}
use Rattle.spin_rwlock.proofs.RwRefines.{rw_refines}
use Rattle.spin_rwlock.proofs.rwlock.rule.RwRuleRuns.laws.Goals as goal

pub returns : goal.returns
returns g c = executes (λ value. rw_table value reader_limit) rw_meaning rw_refines
