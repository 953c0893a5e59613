use Rattle.spin_session.specs.Turns.{spot_of}
use Rattle.spin_session_more.proofs.leaps.begin_ahead.Goals as goal

pub returns-clause-comes : goal.returns-clause-comes
returns-clause-comes g c = let p = spot_of c.args.session in c.further-2.ensures.comes p (c.further.ensures.comes p c.first_ahead-made.ensures.comes)

pub returns-clause-sees : goal.returns-clause-sees
returns-clause-sees g c = let v = c.args.session.permit.value in c.further-2.ensures.sees v (c.further.ensures.sees v c.first_ahead-made.ensures.sees)
