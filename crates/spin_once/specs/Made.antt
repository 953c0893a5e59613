-- A value that was made, which its owner may change.
use Rattle.std.specs.Prelude.{refl}
use denote.RattleType.{RattleType}
use Rattle.spin_core.specs.declared.cell.stable.Stabilizes.{Ghosts}
use Rattle.spin_core.specs.declared.cell.stable.Stable.{Stable}
use Rattle.spin_core.specs.contracts.cell.stable.Stable as stable
use Rattle.spin_once.specs.declared.once_core.rule.Stage.{Stage}
use Rattle.spin_once.specs.declared.once_core.rule.Stage.TheVariants.{Done}
use Rattle.spin_once.specs.contracts.once_core.rule.Stage as stage
use Rattle.spin_once.specs.Once.{is_done}

module _ {T S : Type 0} where
  abbrev pub stays_done : Ghosts (Stage T S)
  stays_done = record { stable = is_done }

  abbrev pub made_of : T → Stable (Stage T S) stays_done
  made_of value = record { value = Done value; stable = refl }

abbrev pub made_row : RattleType → RattleType → RattleType
made_row T S = stable.the_row (stage.the_row T S) stays_done
