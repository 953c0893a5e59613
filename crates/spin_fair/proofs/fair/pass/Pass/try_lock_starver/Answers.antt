use Rattle.spin_session.specs.Turns.{spot_of}
use Rattle.spin_step_more.specs.declared.fair_calls.FairCall.TheVariants.{TryLockStarver}
use Rattle.spin_fair.proofs.FairRefines.{came, is_starved}
use Rattle.spin_fair.proofs.fair.pass.Pass.try_lock_starver.Goals as goal

pub guarded-requires-clause-writes : goal.guarded-requires-clause-writes
guarded-requires-clause-writes g c =
    let f = c.in_three-answer in came (spot_of c.self.inside.session) (spot_of f.result.2) f.result.0 f.result.1 f.ensures.ended c.in-Granted.is f.ensures.knows

pub returns-in-Granted-clause-granted : goal.returns-in-Granted-clause-granted
returns-in-Granted-clause-granted g c =
    rw (← c.self.view_is) (c.guarded.ensures.grants TryLockStarver (spot_of c.self.inside.session) (rw c.in-Granted.is at c.in_three-answer.ensures.ended.0))

pub returns-in-Locked-clause-refused : goal.returns-in-Locked-clause-refused
returns-in-Locked-clause-refused g c = rw (← c.self.view_is) (rw c.in-Locked.is at c.in_three-answer.ensures.ended.0)

pub returns-in_default-clause-refused : goal.returns-in_default-clause-refused
returns-in_default-clause-refused g c =
    let f = c.in_three-answer in let d = c.in_default in
    rw (← c.self.view_is) (rw (is_starved (spot_of c.self.inside.session) (spot_of f.result.2) f.result.0 f.result.1 f.ensures.ended d.not-Granted d.not-Locked) at f.ensures.ended.0)
