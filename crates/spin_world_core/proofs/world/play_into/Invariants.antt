use Rattle.std.proofs.Common.{◌≡◌, ◌≤◌, take, length, vec_len, vec_capacity}
use Rattle.spin_world_core.proofs.Playing.{Played}
use Rattle.spin_world_core.proofs.world.play_into.Given as goal

abbrev pub invariant-loop-place : goal.invariant-loop-place
invariant-loop-place g l =
    Played (g.O.Object.machine l.object) l.initial.table l.table l.begins l.events.items (take l.place l.schedule)
    × (vec_len l.events ≡ l.place) × (length l.schedule ≤ vec_capacity l.events)
