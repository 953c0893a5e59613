-- The type of a read-write lock, and of its entries, as walks name them.
use denote.Builtin.{unit}
use denote.RattleType.{RattleType}
use Rattle.spin_core.proofs.tie.Laws.{numbered, opened, traced_over}
use Rattle.spin_session.specs.Ending as ending
use Rattle.spin_step.specs.contracts.place.Seat as seat
use Rattle.spin_step_more.specs.contracts.rw_calls.RwCall as call
use Rattle.spin_step_more.specs.contracts.rw_calls.RwPoint as point
use Rattle.spin_rwlock.specs.contracts.rwlock.RwLock as lock
use Rattle.spin_rwlock.specs.contracts.rwlock.rule.RwRule as rule
use Rattle.spin_rwlock.specs.contracts.rwlock.rule.RwRuleRuleParty.TheImpl.{ghosts}

abbrev pub Locked : (T S : RattleType) → RattleType
Locked T S = lock.the_row T S (numbered (seat.the_row call.the_row point.the_row)) (rule.the_row T) (opened T) (traced_over call.the_row T unit) (ghosts T)

abbrev pub entry : RattleType → RattleType
entry = ending.entry call.the_row
