use Rattle.std.proofs.Common.{None, get_or, arith}
use Rattle.std.proofs.lemmas.List.{get_or_default}
use Rattle.std.proofs.lemmas.List.Edits.{map_over_more}
use Rattle.spin_world_core.proofs.telling.forget_begins.Goals as goal

pub loop-i-preserved : goal.loop-i-preserved
loop-i-preserved c =
    map_over_more (λ b. None) _ _ c.loop-i.i (get_or c.loop-i.begins c.loop-i.i None) c.loop-i-test.true c.loop-i.invariant
    (get_or_default c.loop-i.begins c.loop-i.i None _ (omega (arith, c.loop-i-test.true, c.loop-i.auto.begins)))
