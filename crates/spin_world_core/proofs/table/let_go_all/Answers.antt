use Rattle.std.proofs.Common.{set, ap, ◌∙◌}
use Rattle.std.proofs.lemmas.List.Edits.{map_over_more}
use Rattle.spin_step.specs.Schedules.{seen_by_owner}
use Rattle.spin_world_core.proofs.table.let_go_all.Goals as goal

pub loop-i-preserved : goal.loop-i-preserved
loop-i-preserved g c =
    ap (set c.loop-i.seats c.loop-i.i) c.without_leak.ensures
    ∙ map_over_more seen_by_owner _ _ c.loop-i.i _ c.loop-i-test.true c.loop-i.invariant c.index-seats-i.is
