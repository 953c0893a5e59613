use Rattle.std.proofs.Common.{refl, sym, subst}
use Rattle.spin_history.specs.Entries.{InOrder}
use Rattle.spin_history.proofs.Entries.{later, goes_on, at_or_after}
use Rattle.spin_history.proofs.register.Register.change.Goals as goal

pub invariant_of-self-clause-ordered : goal.invariant_of-self-clause-ordered
invariant_of-self-clause-ordered g c = let o = g.P.Preorder in let me = c.args.self.now in let new = c.by-answer.new.arg2 in
    subst (InOrder o.le) (sym c.append.ensures) (goes_on o.le o.reflexive o.transitive me.log.entries me.value new me.ordered me.latest (c.requires.grows me.value new c.by-answer.result (record { shown = _; shows = refl; left = _; met = c.by-answer.ensures; leaves = refl })))

pub returns-clause-grown : goal.returns-clause-grown
returns-clause-grown g c = let o = g.P.Preorder in let me = c.args.self.now in let new = c.by-answer.new.arg2 in let seen = c.args.seen.now.entries in
    at_or_after o.le o.reflexive o.transitive seen me.value new (later o.le o.reflexive o.transitive seen me.log.entries me.value c.observe.ensures.0 me.ordered me.latest) (c.requires.grows me.value new c.by-answer.result (record { shown = _; shows = refl; left = _; met = c.by-answer.ensures; leaves = refl }))
