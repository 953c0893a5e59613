use Rattle.std.proofs.Common.{◌∙◌, sym}
use Rattle.spin_barrier.proofs.Gathered.{none_held}
use Rattle.spin_barrier.proofs.pool.Barrier+R+Pool+N.pool.Goals as goal

pub invariant_of-new : goal.invariant_of-new
invariant_of-new g c = let new = c.new.result in let none = c.empty.result in
    record { agrees = (c.new.ensures.n ∙ sym c.requires, none_held c.args.n new.count new.generation g.N.Pooled.each none.parts none.amount (c.new.ensures.plain 0 0) c.empty.ensures.parts c.empty.ensures.amount) }
