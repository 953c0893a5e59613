-- The guard of a part, with another guard in it.
use Rattle.spin_parts.specs.declared.Mapped.{Mapped}

module _ {G P : Type 0} where
  abbrev pub over : Mapped G P → G → Mapped G P
  over it guard = record { guard = guard; part = it.part }
