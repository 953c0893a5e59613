use Rattle.std.proofs.Common.{sym, ap, ◌∙◌}
use Rattle.spin_fair.proofs.fair.FairMutex.unlock.Goals as goal

pub returns : goal.returns
returns g c =
    let w = c.into_parts-writer.ensures in
    rw (← w.0, ← w.1) (c.give.ensures.releases (ap (λ p. p.key.name) w.0 ∙ c.requires.0 ∙ ap (λ s. s.name) (sym w.1)) (rw (w.0, w.1) c.requires.1))
