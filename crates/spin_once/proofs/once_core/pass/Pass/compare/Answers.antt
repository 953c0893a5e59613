use Rattle.std.proofs.Common.{ap, sym, ◌∙◌}
use Rattle.spin_once.specs.Accounts.{Place}
use Rattle.spin_once.proofs.once_core.pass.Pass.compare.Goals as goal

pub compare-requires : goal.compare-requires
compare-requires g c = let name = λ (p : Place g.row.T.Denot g.row.S.Denot). p.2.name in ap name c.self.view_is ∙ c.requires ∙ sym (ap name c.other.view_is)
