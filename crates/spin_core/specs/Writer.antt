-- A write permit with another value.
use Rattle.spin_core.specs.declared.cell.WritePermit.{WritePermit}

module _ {T V P K S : Type 0} where
  abbrev pub writer_of : WritePermit T V P K S → T → WritePermit T V P K S
  writer_of it w = record { cell = it.cell; marker = it.marker; key = it.key; view = it.view; value = w }
