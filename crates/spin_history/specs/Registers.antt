-- The value of a register, and all that was written to it.
use Rattle.std.specs.Prelude.{List}
use Rattle.spin_history.specs.Entries.{Updates}
use Rattle.spin_history.specs.declared.history.Snapshot.{Snapshot}
use Rattle.spin_history.specs.declared.growing.Preorder.{Ghosts}
use Rattle.spin_history.specs.declared.register.Register.{Register}

module _ {T H P : Type 0} {order : Ghosts P T} where
  abbrev pub inside : Register T H P order → T
  inside register = register.value

  abbrev pub writes_of : Register T H P order → List T
  writes_of register = register.log.entries

  -- a caller finds the value of the register and leaves another
  abbrev pub Overwrites : Snapshot T H → Register T H P order → Register T H P order → Snapshot T H → Type 0
  Overwrites seen register register' seen' = Updates seen.entries register.value register'.value seen'.entries
