use Rattle.std.proofs.Common.{true, None, sym, ap, ◌∙◌, subst}
use mathlib.Core.Logic.{inr}
use Rattle.spin_core.specs.Passes.{IsOneStep}
use Rattle.spin_step.specs.declared.answer.Answer.TheVariants.{Value}
use Rattle.spin_step.specs.declared.schedule.Outcome.TheVariants.{Answered}
use Rattle.spin_once.proofs.Moves.{gives_by}
use Rattle.spin_core.specs.Own.{what}
use Rattle.spin_core.specs.Spots.{spot}
use Rattle.spin_step.specs.declared.once_calls.OnceCall.TheVariants.{CallOnce}
use Rattle.spin_once.specs.Accounts.{Entered}
use Rattle.spin_once.specs.Once.{reader}
use Rattle.spin_once.proofs.Accounts.{completes, keeps, may_know, stops_writing, took}
use Rattle.spin_once.proofs.Kept.{ends, running_call}
use Rattle.spin_once.proofs.once_core.init_permit.InitPermit.complete.Goals as goal

pub operate-party-requires-clause-knows : goal.operate-party-requires-clause-knows
operate-party-requires-clause-knows g c =
    let me = c.args.self.account in let it = c.put-party in inr (may_know g.S.Seed.makes it.result.key me.seen (ap (λ k. k.opening.name) it.ensures.same.0 ∙ me.named))

pub operate-party-requires-clause-keeps : goal.operate-party-requires-clause-keeps
operate-party-requires-clause-keeps g c =
    let me = c.args.self in let it = c.put-party in let p = it.result in let (call, may, is) = running_call (what me.account.party.view) me.runs in
    rw (it.ensures.value, c.operation-store.ensures.operation tt)
    (ends g.S.Seed.makes p.key call may p.view (ap what it.ensures.same.1 ∙ is) c.args.value (rw it.ensures.same.0 c.requires))

pub returns-clause-since : goal.returns-clause-since
returns-clause-since g c call p is on =
    let me = c.args.self.account in let so = c.put-party.ensures.same in
    completes p (spot c.put-party.result me.seen) (spot c.operate-party.result.1 c.operate-party.result.2) call (subst (λ z. Entered call p z) (λ i. (sym so.0 i, sym so.1 i, me.seen)) on)
    (took g.S.Seed.makes (λ view. gives_by) (rw so.1 me.knows) (rw so.0 me.named) c.operate-party.ensures (λ n. reader) (λ n. IsOneStep true call (Answered (Value tt) None)) (λ own outs n v said. said)).0

pub invariant_of-result-2 : goal.invariant_of-result-2
invariant_of-result-2 g c =
    let me = c.args.self.account in let so = c.put-party.ensures.same in
    record { reads = (took g.S.Seed.makes (λ view. gives_by) (rw so.1 me.knows) (rw so.0 me.named) c.operate-party.ensures (λ n. reader) (λ n. IsOneStep true (CallOnce tt) (Answered (Value tt) None)) (λ own outs n v said. said)).1 }

pub invariant_of-result : goal.invariant_of-result
invariant_of-result g c =
    let me = c.args.self.account in let it = c.put-party in let so = it.ensures.same in let (call, may, is) = running_call (what me.party.view) c.args.self.runs in
    let course = IsOneStep true (CallOnce tt) (Answered (Value tt) None) in
    keeps g.S.Seed.makes (λ view. gives_by) (rw so.1 me.knows) (rw so.0 me.named) c.operate-party.ensures (λ n. reader) (λ n. course) (λ own outs n v said. said)
    (λ on. absurd (stops_writing it.result.view c.operate-party.result.1.view call (ap what so.1 ∙ is) (inr (took g.S.Seed.makes (λ view. gives_by) (rw so.1 me.knows) (rw so.0 me.named) c.operate-party.ensures (λ n. reader) (λ n. course) (λ own outs n v said. said)).1) on))
