use Rattle.std.proofs.Common.{sym, subst}
use denote.Builtin.{unit}
use denote.Param.{param}
use Rattle.spin_step.specs.contracts.once_calls.OnceCall as call
use Rattle.spin_core.proofs.tie.Sends.{entry_over, sends_word_less}
use Rattle.spin_once.proofs.Known.{known}
use Rattle.spin_once.proofs.Kept.{starts_made}
use Rattle.spin_once.proofs.once_core.OnceCore.initialized.Goals as goal

pub new-cell-requires-clause-known : goal.new-cell-requires-clause-known
new-cell-requires-clause-known g c = let shared = known (param 0 g.row.T) (param 1 g.row.S) in (λ may. shared, (λ v e. shared), sends_word_less (entry_over (call.the_row unit) (param 0 g.row.T)))

pub new-cell-requires-clause-rule : goal.new-cell-requires-clause-rule
new-cell-requires-clause-rule g c = let o = c.of-2 in starts_made g.S.Seed.makes (record { seed = c.of.result; opening = o.result }) c.new-trace.result (sym o.ensures.0) c.new-trace.ensures.0 c.args.value o.ensures.1
    (subst (λ seed. g.S.Seed.makes seed c.args.value) (sym c.of.ensures) c.requires)
