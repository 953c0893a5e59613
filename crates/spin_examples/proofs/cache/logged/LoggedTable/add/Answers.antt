use Rattle.std.proofs.Common.{sym, ap, ◌∙◌}
use Rattle.std.specs.HashMap.{get}
use Rattle.spin_examples.specs.Logged.{answer_in}
use Rattle.spin_examples.proofs.Logged.{tells_more}
use Rattle.spin_examples.proofs.cache.logged.LoggedTable.add.Goals as goal

pub invariant_of-self-2 : goal.invariant_of-self-2
invariant_of-self-2 g c =
    let eq = g.C.Key.PartialEq.eq in
    let table = c.args.self.now in
    record {
      told = λ q. tells_more g.met.C.Key.Eq.laws (get eq c.reserve.new.self.map) (get eq c.add.new.self.map) table.log.entries c.args.key c.args.value
          (λ k. c.reserve.ensures.kept k ∙ table.told k) c.requires.fresh c.in_ok-add.ensures.exact.0 q
          ∙ ap (λ entries. answer_in eq entries q) (sym c.append.ensures);
    }
