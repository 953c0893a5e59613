use Rattle.std.proofs.Common.{refl}
use denote.Param.{param}
use Rattle.spin_core.specs.contracts.cell.stable.Stable as stable
use Rattle.spin_once.specs.contracts.once_core.rule.Stage as stage
use Rattle.spin_once.specs.Made.{stays_done, made_of}
use Rattle.spin_once.proofs.once_core.rule.Stage.made.Goals as goal

pub returns : goal.returns
returns g c = ((refl, λ w. (stable.the_type (stage.the_row (param 0 g.row.T) (param 1 g.row.S)) stays_done).to_one _ (made_of w) (rw c.in-Done.is refl)), record { writes_back = tt })
