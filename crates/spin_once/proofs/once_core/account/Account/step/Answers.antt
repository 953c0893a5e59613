use mathlib.Core.Logic.{inr}
use Rattle.spin_core.specs.Own.{what}
use Rattle.spin_core.specs.Passes.{IsOneStep}
use Rattle.spin_session.specs.Turns.{has_begun, outcome_of}
use Rattle.spin_once.specs.Once.{next_at, turn, view_of}
use Rattle.spin_once.proofs.Accounts as accounts
use Rattle.spin_once.proofs.Kept.{turns}
use Rattle.spin_once.proofs.Moves.{next_is}
use Rattle.spin_once.proofs.once_core.account.Account.step.Goals as goal

pub operate-found-requires-clause-knows : goal.operate-found-requires-clause-knows
operate-found-requires-clause-knows g c = let me = c.args.self in inr (accounts.may_know g.S.Seed.makes me.party.key me.seen me.named)

pub operate-found-requires-clause-keeps : goal.operate-found-requires-clause-keeps
operate-found-requires-clause-keeps g c =
    let a = c.args in let it = a.self.party in
    rw (c.operation-operation.ensures.operation tt) (turns g.S.Seed.makes it.key a.call a.point it.view it.value c.requires.at c.requires.quiet)

pub invariant_of-result : goal.invariant_of-result
invariant_of-result g c =
    let a = c.args in let me = a.self in
    accounts.keeps g.S.Seed.makes (λ view. turn (has_begun (what view)) a.call a.point) me.knows me.named c.operate-found.ensures
    (λ n. view_of a.call (next_at a.call a.point n)) (λ n. IsOneStep (has_begun (what me.party.view)) a.call (outcome_of (next_at a.call a.point n))) (λ own outs n v said. said) (λ same. me.finds)

pub returns : goal.returns
returns g c =
    let a = c.args in let f = c.operate-found in let is = next_is a.call a.point f.result.0 c.next.result (c.next.ensures tt) in
    record { made = accounts.made_steps g.S.Seed.makes a.self _ a.call a.point f.result.0 c.next.result c.requires.at c.requires.quiet is f.ensures; goes = (f.result.0, is) }
