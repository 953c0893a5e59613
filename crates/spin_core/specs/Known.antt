-- What stays known once a watch has ended.
use base.Fml.{Fml, fex}
use denote.RattleType.{RattleType}
use Rattle.spin_core.specs.Logs.{known_owns}
use Rattle.spin_core.specs.declared.trace.Watch.{Watch}

-- what some watch knew, of which this holds
abbrev pub known : (E : RattleType) → (Watch E.Denot → Type 0) → Fml
known E Holds = fex ((seen : Watch E.Denot) × Holds seen) (λ it. known_owns E.coded.code it.0.name it.0.entries)
