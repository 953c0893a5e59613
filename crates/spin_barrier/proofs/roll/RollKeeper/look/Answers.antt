use Rattle.std.proofs.Common.{◌∙◌, ap, sym, subst}
use Rattle.std.specs.Prelude.{length}
use mathlib.Core.List.{IsPrefix}
use Rattle.spin_barrier.specs.Gathered.{AllWithin}
use Rattle.spin_barrier.proofs.Gathered.{leaves, longer, within_more}
use Rattle.spin_barrier.proofs.roll.RollKeeper.look.Goals as goal

pub invariant_of-result : goal.invariant_of-result
invariant_of-result g c = let me = c.args.self.now in let heard = c.merge.new.self.entries in
    record {
      heard = subst (λ z. AllWithin (λ one. length one.entries) z (length heard)) (sym c.observe.ensures.1)
          (within_more (λ one. length one.entries) me.log.entries (length me.told.entries) (length heard) me.heard (longer me.told.entries heard c.merge.ensures.1));
    }

pub returns : goal.returns
returns g c = let me = c.args.self.now in let state = c.args._state in let seen = c.args.seen.now in let all = c.observe.new.snapshot.entries in
    let known = subst (λ z. IsPrefix seen.arrivals.entries z) (sym c.observe.ensures.1) (subst (λ z. IsPrefix z me.log.entries) c.copy-arrivals.ensures c.observe.ensures.0) in
    record {
      left = (
        leaves g.N.Groups.group me.came.total state.n (length seen.arrivals.entries) (length all) state.count state.generation c.args._generation
            c.requires.agrees (ap length c.observe.ensures.1 ∙ me.listed) (longer seen.arrivals.entries all known) c.requires.follows.1 c.requires.follows.0 c.requires.full,
        known,
        subst (λ z. IsPrefix z c.merge.new.self.entries) c.copy-told.ensures c.merge.ensures.0,
      );
    }
