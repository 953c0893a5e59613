use Rattle.std.proofs.Common.{[], refl, sym}
use denote.Param.{param}
use Rattle.spin_step_more.specs.contracts.rw_calls.RwCall as call
use Rattle.spin_core.specs.CellMemory.{Common}
use Rattle.spin_core.proofs.tie.Sends.{entry_over, first_field, sends_word_less}
use Rattle.spin_core.proofs.tie.Values.{opens_last}
use Rattle.spin_rwlock.specs.contracts.rwlock.rule.RwRule.{the_row}
use Rattle.spin_rwlock.proofs.RwRefines.{starts}
use Rattle.spin_rwlock.proofs.rwlock.RwLock+T+R.new.Goals as goal

pub new-cell-requires-clause-known : goal.new-cell-requires-clause-known
new-cell-requires-clause-known g c =
    let known : Common (the_row g.row.T) → Common g.row.T = λ may. first_field g.row.T (λ x b o κ. (may (record { never = x }) b o κ).0.0) in
    (λ u. known, λ v u. known, sends_word_less (entry_over call.the_row (param 0 g.row.T)))

pub new-cell-requires-clause-rule : goal.new-cell-requires-clause-rule
new-cell-requires-clause-rule g c =
    let o = c.of-opening in
    let t = c.new-trace in
    ([], refl, starts o.result t.result (sym o.ensures.0) t.ensures.0, (opens_last o.result t.result.entries c.args.value t.ensures.0 o.ensures.1, tt))
