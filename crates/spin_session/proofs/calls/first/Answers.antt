use Rattle.spin_session.specs.Turns.{spot_of}
use Rattle.spin_session.proofs.calls.first.Goals as goal

pub returns-clause-comes : goal.returns-clause-comes
returns-clause-comes g c = c.step-next.ensures.comes (spot_of c.args.session) c.point_of-point.ensures.under
