use Rattle.spin_once.proofs.Kept.{ends_with}
use Rattle.spin_once.proofs.once_core.OnceCore.into_history.Goals as goal

pub returns : goal.returns
returns g c = let p = c.into_parts-slot in rw c.into_value.ensures (ends_with g.S.Seed.makes c.args.self.cell p.result.0 p.result.2 p.result.1.value p.ensures)
