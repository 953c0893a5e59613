use Rattle.std.proofs.Common.{◌≡◌, ◌≤◌, Some, length, ap, ◌∙◌, sym, subst}
use Rattle.spin_session.specs.Turns.{spot_of}
use Rattle.spin_rwlock.specs.RwPasses.{Wrote}
use Rattle.spin_core.specs.Values.{IsLast}
use Rattle.spin_rwlock.proofs.rwlock.writer.RwLockWriteGuard+T+R.leave.Goals as goal

pub returns-clause-made : goal.returns-clause-made
returns-clause-made g c holds =
    let w = c.into_parts-writer.ensures in let (writer, seen) = c.into_parts-writer.result in let k = c.watch_of-known in let now = spot_of c.give.result in
    let named : writer.key.name ≡ seen.name = ap (λ p. p.key.name) w.0 ∙ holds.0 ∙ ap (λ s. s.name) (sym w.1) in
    let upto : writer.view.2 ≤ length seen.entries = rw (w.0, w.1) holds.1 in
    let knows : k.result ≡ seen = λ i. record { marker = record {}; name = (k.ensures.0 ∙ named) i; entries = k.ensures.1 (sym named) i } in
    let within = subst (λ s. writer.view.2 ≤ length s.entries) (sym knows) upto in
    rw (← w.0, ← w.1) (subst (λ s. Wrote c.args.call writer.value (writer.key, Some writer.view, s) now × IsLast writer.key now.2.entries writer.value) knows
    (c.give.ensures.releases (sym k.ensures.0) within))
