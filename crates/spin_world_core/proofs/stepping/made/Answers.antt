-- Each operation is that of the table.
use Rattle.std.proofs.Common.{◌≡◌, arith}
use Rattle.spin_step.specs.Acts.{filled}
use Rattle.spin_step.specs.Operations.{performed}
use Rattle.spin_world_core.proofs.Made.{puts, after_small}
use Rattle.spin_world_core.proofs.stepping.made.Goals.{in-Store, in-Add, in-Subtract, in-SetLowestBit, in-Exchange}
use Rattle.spin_world_core.proofs.stepping.made.Goals as goal

pub returns : goal.returns
returns g c value =
    let a = c.args in let o = c.operation in let n = c.number-found in
    let small = after_small g.row.V.Denot g.S.Words.Words.memory g.S.Words.Words.places g.S.Words.Words.limit (g.S.Steps.table a.steps.now value) a.call a.point a.holds a.words (o.ensures.works value) (c.requires value)
    c.place-place.result n.result (c.place-place.ensures value) n.ensures.number n.ensures.small o.result (o.ensures.operation value) (filled g.S.Steps.given c.next-next.result) (c.next-next.ensures value) in
    let number : c.match-operation.number ≡ performed o.result n.result = elim c.match-operation.branch [
      | in-Exchange w ↦ grind (arith, w)
      | in-Store w ↦ grind (arith, w)
      | in-Add w ↦ grind (arith, w, small)
      | in-Subtract w ↦ grind (arith, w)
      | in-SetLowestBit w ↦ grind (arith, w)
    ] in
    puts g.row.V.Denot g.S.Words.Words.memory g.S.Words.Words.places g.S.Words.Words.limit (g.S.Steps.table a.steps.now value) a.call a.point a.holds a.words (o.ensures.works value) (c.requires value)
    c.place-place.result n.result (c.place-place.ensures value) n.ensures.number n.ensures.small o.result (o.ensures.operation value) (filled g.S.Steps.given c.next-next.result) (c.next-next.ensures value)
    c.match-operation.number c.put.result number c.put.ensures
