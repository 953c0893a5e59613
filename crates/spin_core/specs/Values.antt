-- The values in a trace that is a schedule of a model: which was written last, and when this is the cell's value.
use Rattle.std.specs.Prelude.{◌≡◌, true, false, Option, List}
use Rattle.std.specs.Option.{IfSome}
use Rattle.std.specs.List.{fold}
use Rattle.spin_step.specs.declared.schedule.Move.{Move}
use Rattle.spin_step.specs.declared.schedule.Move.TheVariants.{Write}
use Rattle.spin_step.specs.Schedules.{Entry}
use Rattle.spin_core.specs.Cell.{Use, writes, Knowledge, knows}
use Rattle.spin_core.specs.declared.tie.Opening.{Opening}
use Rattle.spin_core.specs.declared.trace.Trace.{Trace}

module _ {C V : Type 0} where
  -- the value after a move, if it was v before
  abbrev pub written : Move C V → V → V
  written move v = elim move [ Write x ↦ x | _ ↦ v ]

  -- the value after these moves of one party, if it was v before
  abbrev pub left : List (Move C V) → V → V
  left own v = fold (λ v move. written move v) v own

  -- the value that these entries write last, or v if none writes
  abbrev pub latest : V → List (Entry C V) → V
  latest v es = fold (λ v e. written e.1 v) v es

  -- The value is the one written last, or the opening value if nothing was written. This holds until the owner
  -- borrows the value.
  abbrev pub IsLast : Opening V → List (Entry C V) → V → Type 0
  IsLast opening entries x = opening.told ≡ true → latest opening.value entries ≡ x

  -- the fact known of a value that nobody writes: the value is the last one of the trace
  abbrev pub last_value : {S : Type 0} → Opening V → Knowledge (Trace (Entry C V) S) V
  last_value opening = knows (λ t x. IsLast opening t.entries x)

  -- What a step's moves write, given the party's use before the step, its use after the step, and the value shown to
  -- it. A party that stops writing writes the value shown, if there is one. Nothing is said of a party that goes on
  -- writing. Any other party writes nothing.
  abbrev pub Leaves : Use → Use → Option V → List (Move C V) → Type 0
  Leaves writes writes shown own = Unit {0}
  Leaves writes _ shown own = IfSome shown (λ x. (v : V) → left own v ≡ x)
  Leaves _ _ shown own = (v : V) → left own v ≡ v

-- the opening after the owner has borrowed the value: the trace no longer tells the value
abbrev pub untold : {V : Type 0} → Opening V → Opening V
untold opening = record { marker = opening.marker; name = opening.name; value = opening.value; told = false; start = opening.start }
