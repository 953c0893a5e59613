-- When the value in a cell is stable.
use Rattle.std.specs.Prelude.{◌≡◌, ℕ, Bool, true, List}
use Rattle.spin_core.specs.Cell.{Ways, Starts}
use Rattle.spin_core.specs.declared.cell.stable.MaybeStable.{MaybeStable}

abbrev pub maybe_stable : {X : Type 0} → X → MaybeStable X
maybe_stable x = record { value = x }

module _ {X V S : Type 0} (holds : ℕ → S → List V → Type 0) (ways : Ways (MaybeStable X) V S) where
  -- this value may lie in a cell with these words
  abbrev pub Lies : ℕ → S → X → Type 0
  Lies n m x = Starts holds ways n m (maybe_stable x)

  -- while the first word is n the value is stable, and any other stable value may replace it
  abbrev pub StableAt : (X → Bool) → ℕ → Type 0
  StableAt stable n = (m : S) (x : X) → Lies n m x → (stable x ≡ true) × ((y : X) → stable y ≡ true → Lies n m y)
