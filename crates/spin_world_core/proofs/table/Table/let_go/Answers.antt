use Rattle.std.proofs.Common.{arith}
use Rattle.spin_world_core.proofs.Sharing.{let_go_is, shares_seen, leaked_seen, let_go_none}
use Rattle.spin_world_core.proofs.table.Table.let_go.Goals as goal

pub invariant_of-self : goal.invariant_of-self
invariant_of-self g c = grind (arith, let_go_is, shares_seen, leaked_seen)

pub returns-else-self-gt0 : goal.returns-else-self-gt0
returns-else-self-gt0 g c = let_go_none _ c.args.self.now c.self.view_is (omega (arith, c.self.invariant.1, c.if-self-gt0.false))
