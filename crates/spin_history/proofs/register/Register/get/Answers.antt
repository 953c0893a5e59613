use Rattle.spin_history.proofs.Entries.{later}
use Rattle.spin_history.proofs.register.Register.get.Goals as goal

pub returns-clause-grown : goal.returns-clause-grown
returns-clause-grown g c = let o = g.P.Preorder in let me = c.args.self.now in
    later o.le o.reflexive o.transitive c.args.seen.now.entries me.log.entries me.value c.observe.ensures.0 me.ordered me.latest
