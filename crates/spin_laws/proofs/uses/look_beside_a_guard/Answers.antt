use Rattle.std.proofs.Common.{refl, sym, ap, ◌∙◌}
use Rattle.spin_flag.specs.Passes.{Lock, guard_spot, new_in, opening}
use Rattle.spin_laws.proofs.uses.look_beside_a_guard.Goals as goal

pub returns : goal.returns
returns g c =
    let law = c.a_look_beside_a_guard_of_a_spin_mutex_is_true.ensures in let grant = c.lock-guard.ensures in let begins = c.after-looker.ensures in let later = c.after-later.ensures.learns in
    law c.is_locked-held.result.0 Lock (new_in (opening c.args.lock.now)) (guard_spot c.lock-guard.result) c.after-looker.result c.is_locked-held.result.1 (guard_spot c.after-later.result) refl grant.3 grant.1.1
    (begins.0 ∙ ap (λ p. p.0) c.pass.ensures.new ∙ sym grant.3.2) begins.3.1 c.is_locked-held.ensures later.3.1 (later.0, later.1, later.3.0) (c.unlock.ensures.0.0.0, c.unlock.ensures.0.0.1)
