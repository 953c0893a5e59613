use Rattle.std.specs.Prelude.{length}
use Rattle.spin_barrier.proofs.Gathered.{longer, within_more}
use Rattle.spin_barrier.proofs.roll.Known.learn.Goals as goal

pub invariant_of-self : goal.invariant_of-self
invariant_of-self g c = let me = c.args.self.now in let told = c.merge.new.self.entries in
    record { heard = within_more (λ one. length one.entries) me.arrivals.entries (length me.told.entries) (length told) me.heard (longer me.told.entries told c.merge.ensures.0) }

pub returns-clause-count : goal.returns-clause-count
returns-clause-count g c = longer c.args.seen.now.entries c.merge.new.self.entries c.merge.ensures.1
