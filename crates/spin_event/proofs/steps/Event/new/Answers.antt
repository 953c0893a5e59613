use Rattle.std.proofs.Common.{sym}
use Rattle.spin_core.proofs.tie.Sends.{entry, sends_word}
use Rattle.spin_event.specs.contracts.calls.EventCall as call
use Rattle.spin_event.proofs.Threads.{opens}
use Rattle.spin_event.proofs.steps.Event.new.Goals as goal

pub new-cell-requires-clause-known : goal.new-cell-requires-clause-known
new-cell-requires-clause-known c = ((λ shared common. absurd shared), (λ v reads common. absurd (cc (reads))), sends_word (entry call.the_row))

pub new-cell-requires-clause-rule : goal.new-cell-requires-clause-rule
new-cell-requires-clause-rule c = let o = c.of-opening in let t = c.new-trace in opens o.result t.result (sym o.ensures.0) t.ensures.0 t.ensures.1
