use Rattle.std.proofs.Common.{◌+◌, rules, ap, ◌∙◌, arith}
use Rattle.spin_world_core.proofs.Playing.{forgotten, played_next}
use Rattle.spin_world_core.proofs.world.play_into.Goals as goal

pub loop-place-preserved : goal.loop-place-preserved
loop-place-preserved g c = (
  played_next (g.O.Object.machine c.args.object.now) c.args.table.now c.loop-place.table c.act.new.self c.loop-place.begins c.with_begin-outcome.new.begins c.loop-place.events.items c.push_reserved.new.self.items
      c.args.schedule.now c.loop-place.place c.index-schedule-place.result c.act.result c.with_begin-outcome.result c.table.inside.words
      c.loop-place.invariant.0 c.loop-place-test.true c.index-schedule-place.is c.act.ensures (ap (λ s. s.words) c.table.view_is) c.with_begin-outcome.ensures.outcome c.with_begin-outcome.ensures.begins c.push_reserved.ensures.items,
  c.push_reserved.ensures.len ∙ ap (λ n. n + 1) c.loop-place.invariant.1,
  omega (arith, c.push_reserved.ensures.capacity, c.loop-place.invariant.2),
)

pub loop-place-init : goal.loop-place-init
loop-place-init g c = (
  rw c.requires.empty (forgotten (g.O.Object.machine c.args.object.now) c.args.table.now c.args.begins.now c.forget_begins.new.begins c.forget_begins.ensures c.requires.parties),
  search rules,
  c.requires.room,
)
