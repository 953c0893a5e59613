use Rattle.std.proofs.Common.{ap}
use mathlib.Core.Logic.{inl, inr}
use Rattle.spin_core.specs.Spots.{spot}
use Rattle.spin_step.specs.declared.once_calls.OnceCall.TheVariants.{TryCallOnceOk}
use Rattle.spin_step.specs.declared.place.Seat.TheVariants.{Idle}
use Rattle.spin_session.specs.Turns.{has_begun}
use Rattle.spin_once.specs.Accounts.{here}
use Rattle.spin_once.specs.Once.{IsFailure, fails_by}
use Rattle.spin_once.proofs.Accounts.{may_know, took, fails, keeps, stops_writing}
use Rattle.spin_once.proofs.Kept.{gives_up}
use Rattle.spin_once.proofs.once_core.init_permit.InitPermit.fail.Goals as goal

pub store-party-requires : goal.store-party-requires
store-party-requires g c =
    let me = c.args.self.account in let makes = g.S.Seed.makes in let key = me.party.key in
    (inr (may_know makes key me.seen me.named), rw (c.requires.seed, c.fail.ensures.exact) (gives_up makes key me.party.view c.requires.may))

pub returns : goal.returns
returns g c =
    let me = c.args.self.account in let s = c.store-party in
    let so = took g.S.Seed.makes (λ view. fails_by) me.knows me.named s.ensures (λ n. Idle) (λ n. IsFailure) (λ own outs n v said. said) in
    record { since = λ p on. fails p (here me) (spot s.result.0 s.result.1) on so.0; out = ap has_begun so.1 }

pub invariant_of-result : goal.invariant_of-result
invariant_of-result g c =
    let me = c.args.self.account in let s = c.store-party in let makes = g.S.Seed.makes in
    keeps makes (λ view. fails_by) me.knows me.named s.ensures (λ n. Idle) (λ n. IsFailure) (λ own outs n v said. said)
    (λ on. absurd (stops_writing me.party.view s.result.0.view (TryCallOnceOk tt) c.requires.may (inl (took makes (λ view. fails_by) me.knows me.named s.ensures (λ n. Idle) (λ n. IsFailure) (λ own outs n v said. said)).1) on))
