-- the journal with its new entry gives the new balances; their sum is unchanged
use Rattle.std.proofs.Common.{◌∙◌, ap, sym, Some, sum}
use Rattle.std.proofs.lemmas.List.{with_items_is}
use Rattle.spin_examples.proofs.Transfers.{replays_more, keeps_total}
use Rattle.spin_examples.specs.Ledger.{after, can_make, replayed}
use Rattle.spin_examples.proofs.ledger.Accounts.transfer.Goals as goal

pub invariant_of-self-2 : goal.invariant_of-self-2
invariant_of-self-2 g c =
    let possible = ap (can_make c.args.transfer) (sym c.deref.ensures.value) ∙ c.in_ok-may_make.ensures.possible in
    let made = with_items_is c.args.self.now.balances c.make.new.balances (c.make.auto.balances ∙ c.deref_mut.ensures.len)
    ∙ c.make.ensures.after ∙ ap (after c.args.transfer) c.deref_mut.ensures.value in
    record {
      replays = ap (replayed g.O.Opening.balances) c.in-Ok.ensures.items
          ∙ replays_more c.args.transfer c.args.self.now.journal.items g.O.Opening.balances c.args.self.now.balances.items c.args.self.now.replays possible
          ∙ ap (λ xs. Some xs) (sym made);
      exact = ap sum made ∙ keeps_total c.args.transfer c.args.self.now.balances.items possible ∙ c.args.self.now.exact;
      fits = c.args.self.now.fits;
    }
