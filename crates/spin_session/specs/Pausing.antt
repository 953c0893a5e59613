-- Between which steps a call pauses.
use Rattle.std.specs.Prelude.{◌≡◌, ◌<◌, ℕ, Bool, true, false, Option}
use Rattle.spin_step.specs.Acts.{Table, next_of, operation_by}
use Rattle.spin_step.specs.declared.place.Hold.{Hold}
use Rattle.spin_step.specs.declared.stepped.Next.TheVariants.{Continue}
use Rattle.spin_step.specs.declared.table.Operation.{Operation}
use Rattle.spin_step.specs.declared.table.Operation.TheVariants.{Load}

abbrev pub is_load : Operation → Bool
is_load operation = elim operation [ Load ↦ true | _ ↦ false ]

-- The call waits, and goes on from one look to another. Before the second it gives at least one of these hints.
abbrev pub PausesBetweenLooks : {W V C L A : Type 0} → Table W V C L A → C → L → L → Option Hold → ℕ → ℕ → Type 0
PausesBetweenLooks t call from to holds found hints =
    (t.asks call holds).waits ≡ true → next_of t call from holds found ≡ Continue to → is_load (operation_by (t.act call from holds)) ≡ true → is_load (operation_by (t.act call to holds)) ≡ true → 0 < hints
