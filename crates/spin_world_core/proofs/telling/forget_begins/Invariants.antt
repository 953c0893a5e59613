use Rattle.std.proofs.Common.{◌≡◌, None, map, ◌++◌, take, drop}
use Rattle.spin_world_core.proofs.telling.forget_begins.Given as goal

abbrev pub invariant-loop-i : goal.invariant-loop-i
invariant-loop-i l = l.begins ≡ map (λ b. None) (take l.i l.initial.begins) ++ drop l.i l.initial.begins
