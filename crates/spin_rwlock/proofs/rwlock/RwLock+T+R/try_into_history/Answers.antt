use Rattle.std.proofs.Common.{sym, ◌∙◌}
use Rattle.spin_session.specs.Meaning.{just_one}
use Rattle.spin_session.proofs.Ending.{settles}
use Rattle.spin_rwlock.specs.Rw.{rw_meaning, rw_tables}
use Rattle.spin_rwlock.proofs.RwRefines.{quiet}
use Rattle.spin_rwlock.proofs.rwlock.RwLock+T+R.try_into_history.Goals as goal

pub returns-then-writers-eq0-clause-settled : goal.returns-then-writers-eq0-clause-settled
returns-then-writers-eq0-clause-settled g c = let parts = c.into_parts-word in let end = parts.result in
    settles rw_tables rw_meaning just_one c.args.self.cell end.0 end.1 end.2 (quiet end.0 (sym c.writers.ensures.exact ∙ c.if-writers-eq0.true)) parts.ensures

pub returns-else-writers-eq0-clause-held : goal.returns-else-writers-eq0-clause-held
returns-else-writers-eq0-clause-held g c = let parts = c.into_parts-word in (parts.result.0, parts.ensures)
