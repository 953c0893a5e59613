use Rattle.std.proofs.Common.{sym}
use denote.Builtin.{unit}
use denote.Param.{param}
use Rattle.spin_step.specs.contracts.once_calls.OnceCall as call
use Rattle.spin_core.proofs.tie.Sends.{entry_over, sends_word_less}
use Rattle.spin_once.proofs.Known.{known}
use Rattle.spin_once.proofs.Kept.{starts}
use Rattle.spin_once.proofs.once_core.OnceCore.new.Goals as goal

pub new-cell-requires-clause-known : goal.new-cell-requires-clause-known
new-cell-requires-clause-known g c = let shared = known (param 0 g.row.T) (param 1 g.row.S) in (λ may. shared, (λ v e. shared), sends_word_less (entry_over (call.the_row unit) (param 0 g.row.T)))

pub new-cell-requires-clause-rule : goal.new-cell-requires-clause-rule
new-cell-requires-clause-rule g c = let o = c.of in starts g.S.Seed.makes (record { seed = c.of-known.result; opening = o.result }) c.new-trace.result (sym o.ensures.0) c.new-trace.ensures.0 c.args.seed o.ensures.1 (sym c.of-known.ensures)
