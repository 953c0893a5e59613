use Rattle.spin_event.proofs.Refuted.{mark_loses, blind_loses, early_loses, silent_loses}
use Rattle.spin_event.proofs.laws.wrong_events_lose_a_wake_up.Goals as goal

pub returns-clause-mark : goal.returns-clause-mark
returns-clause-mark c = mark_loses

pub returns-clause-blind : goal.returns-clause-blind
returns-clause-blind c = blind_loses

pub returns-clause-early : goal.returns-clause-early
returns-clause-early c = early_loses

pub returns-clause-silent : goal.returns-clause-silent
returns-clause-silent c = silent_loses
