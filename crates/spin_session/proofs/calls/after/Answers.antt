use Rattle.std.proofs.Common.{◌∙◌, sym, arith}
use Rattle.std.proofs.lemmas.List.{length-append}
use Rattle.spin_session.proofs.calls.after.Goals as goal

pub returns-clause-stands : goal.returns-clause-stands
returns-clause-stands g c h stands =
    let seen = c.later-known.ensures in let (more, longer) = seen.1.0 in
    (stands.0 ∙ sym seen.0, rw (← longer, length-append) (omega (arith, stands.1)), stands.2)
