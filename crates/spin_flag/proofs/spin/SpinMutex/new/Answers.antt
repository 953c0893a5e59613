use Rattle.std.proofs.Common.{[], refl, sym}
use denote.Param.{param}
use Rattle.spin_step.specs.contracts.flag_calls.FlagCall as call
use Rattle.spin_core.proofs.tie.Sends.{entry_over, sends_word_less}
use Rattle.spin_core.proofs.tie.Values.{opens_last}
use Rattle.spin_flag.proofs.FlagRefines.{starts, never_reads}
use Rattle.spin_flag.proofs.spin.SpinMutex.new.Goals as goal

pub new-cell-requires-clause-known : goal.new-cell-requires-clause-known
new-cell-requires-clause-known g c = (λ no. absurd no, (λ v e. absurd (never_reads v.0 e)), sends_word_less (entry_over call.the_row (param 0 g.row.T)))

pub new-cell-requires-clause-rule : goal.new-cell-requires-clause-rule
new-cell-requires-clause-rule g c = let o = c.of-opening in let t = c.new-trace in ([], refl, starts o.result t.result (sym o.ensures.0) t.ensures.0, (opens_last o.result t.result.entries c.args.value t.ensures.0 o.ensures.1, tt))
