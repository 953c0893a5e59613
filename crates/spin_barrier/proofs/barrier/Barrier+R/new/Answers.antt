use Rattle.spin_barrier.proofs.barrier.Barrier+R.new.Goals as goal

pub returns : goal.returns
returns g c = (_, c.new-2.ensures.opens, c.new.ensures.n, c.new.ensures.plain 0 0)
