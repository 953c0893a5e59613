use Rattle.std.proofs.Common.{◌≡◌, map, ◌++◌, take, drop}
use Rattle.spin_step.specs.Schedules.{seen_by_owner}
use Rattle.spin_world_core.proofs.table.let_go_all.Given as goal

abbrev pub invariant-loop-i : goal.invariant-loop-i
invariant-loop-i g l = l.seats ≡ map seen_by_owner (take l.i l.initial.seats) ++ drop l.i l.initial.seats
