use Rattle.std.proofs.Common.{◌≡◌, subst}
use Rattle.spin_order.specs.declared.order.Order.{Order as AnOrder}
use Rattle.spin_order.proofs.ranked.Ranked.call_once.Goals as goal

pub returns-clause-gives : goal.returns-clause-gives
returns-clause-gives g c = subst (λ rank. g.L.Fill.gives c.args.self.now.lock (λ value. (o : AnOrder g.row.W.Denot) × (o.top ≡ rank) × g.F.FnOnce.post c.args.f (o, tt) value) c.fill-value.result.now) c.rank-rank.ensures c.fill-value.ensures
