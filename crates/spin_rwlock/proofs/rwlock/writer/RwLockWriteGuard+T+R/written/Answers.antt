use Rattle.std.proofs.Common.{◌≡◌, Some, ap, ◌∙◌, sym, subst}
use Rattle.std.specs.Option.{IfSome}
use Rattle.spin_core.specs.Guard.{guard_spot, guard_value}
use Rattle.spin_core.specs.Values.{IsLast}
use Rattle.spin_step.specs.declared.answer.Answer.TheVariants.{Granted}
use Rattle.spin_step.specs.declared.place.Hold.TheVariants.{Write}
use Rattle.spin_session.specs.Turns.{StandsAt, spot_of}
use Rattle.spin_rwlock.specs.RwPasses.{Calls}
use Rattle.spin_rwlock.proofs.rwlock.writer.RwLockWriteGuard+T+R.written.Goals as goal

pub returns-clause-grants : goal.returns-clause-grants
returns-clause-grants g c last call before calls =
    let w = c.into_writer.ensures in let n = c.new.ensures in let guard = c.new.result in let from = c.args.session in
    let same : guard_spot guard ≡ spot_of from = λ i. ((ap (λ p. p.key) n.0 ∙ w.key) i, (ap (λ p. Some p.view) n.0 ∙ w.same.0) i, n.1 i) in
    let there = subst (StandsAt (Some Write)) (sym same) c.requires in (
      (there.0, there.1),
      subst (λ z. IsLast z.0 z.2.entries (guard_value guard)) (sym same)
          (subst (λ o. IfSome o (IsLast from.permit.key from.seen.entries)) (sym (ap (λ p. Some p.value) n.0 ∙ w.same.1)) last),
      subst (Calls call Granted before) (sym same) calls,
    )
