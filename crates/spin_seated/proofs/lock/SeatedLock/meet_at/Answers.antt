use Rattle.std.proofs.Common.{sym, ◌∙◌, ◌++◌, arith}
use Rattle.atomic_table.specs.Table.{step}
use mathlib.Core.Option.{none}
use Rattle.spin_seated.proofs.Keeping.{joins, shows, splits}
use Rattle.spin_seated.proofs.Passes.{its_table, its_view}
use Rattle.spin_seated.proofs.lock.SeatedLock.meet_at.Goals as goal

pub join_seat-requires : goal.join_seat-requires
join_seat-requires g c = grind (arith, its_table, its_view, joins)

pub load-requires : goal.load-requires
load-requires g c =
    let t = c.args.self.now.table.shared in let a = c.in-Some-seat.seat in let b = c.in-Some.other in let there = sym c.take.ensures.value ∙ c.in-Some.is in
    let at_a = its_view g.C.Calls.machine c.a.inside.seat a c.args.a.now c.in-Some-seat.is c.a.invariant c.a.view_is in let at_b = its_view g.C.Calls.machine c.b.inside.seat b c.args.b.now there c.b.invariant c.b.view_is in (
      c.join_seat.ensures.0 ∙ (its_table g.C.Calls.machine c.a.inside.seat a c.args.a.now c.in-Some-seat.is c.a.invariant c.a.view_is ∙ c.requires.first.0),
      omega (arith, c.args.self.now.two_words),
      shows g.C.Calls.machine t.key t.table_id.slots c.join_seat.new.seat.id c.join_seat.new.seat.me c.args.b.now.known c.args.a.now.known 0 (step t.table_id.slots 0 0 0 none)
          (c.join_seat.ensures.2 ∙ (λ i. ((at_b i).0 ++ (at_a i).0, (at_a i).1))) c.requires.second.1 c.requires.first.1,
    )

pub split_seat-requires : goal.split_seat-requires
split_seat-requires g c = grind (arith, its_table, splits)
