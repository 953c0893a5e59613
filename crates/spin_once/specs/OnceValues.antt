-- The value in the history of a cell whose value is made once. A call whose closure gave a value ends with a write of that value in the
-- history. In the model the same call ends with a step.
use Rattle.std.specs.Prelude.{◌≡◌, ◌≢◌, ◌≤◌, ℕ, Bool, true, false, Option, Some, None, is_some, List, [], ◌∷◌, ◌++◌, map, length}
use Rattle.std.specs.List.{flat_map}
use Rattle.spin_core.specs.Cell.{Use, off}
use Rattle.spin_core.specs.Own.{entries_by}
use Rattle.spin_core.specs.Stable.{maybe_stable}
use Rattle.spin_core.specs.Values.{untold}
use Rattle.spin_core.specs.declared.cell.stable.MaybeStable.{MaybeStable}
use Rattle.spin_core.specs.declared.tie.Opening.{Opening}
use Rattle.spin_core.specs.declared.trace.Trace.{Trace}
use Rattle.spin_core.specs.declared.trace.Watch.{Watch}
use Rattle.spin_step.specs.declared.once_calls.OnceCall.{OnceCall}
use Rattle.spin_step.specs.declared.schedule.Move.{Move}
use Rattle.spin_step.specs.declared.schedule.Move.TheVariants.{Begin, Step, Weak, Read, Write, Leak, OwnerGet, OwnerSet}
use Rattle.spin_step.specs.Schedules.{Entry}
use Rattle.spin_once.specs.declared.once_core.rule.Key.{Key}
use Rattle.spin_once.specs.declared.once_core.rule.Stage.{Stage}
use Rattle.spin_once.specs.declared.once_core.rule.Stage.TheVariants.{Done}

-- an entry of the history
abbrev pub Valued : Type 0 → Type 0
Valued T = Entry (OnceCall (Unit {0})) T

-- an entry of the model's schedule
abbrev pub Made : Type 0
Made = Entry (OnceCall (Unit {0})) (Unit {0})

module _ {T : Type 0} where
  -- the model's move for a move of the history: a write becomes a step
  abbrev pub bare_move : Move (OnceCall (Unit {0})) T → Move (OnceCall (Unit {0})) (Unit {0})
  bare_move (Begin c) = Begin c
  bare_move Step = Step
  bare_move Weak = Weak
  bare_move Read = Read
  bare_move (Write v) = Step
  bare_move Leak = Leak
  bare_move OwnerGet = OwnerGet
  bare_move (OwnerSet v) = OwnerSet tt

  -- the model's schedule for a history
  abbrev pub bare : List (Valued T) → List Made
  bare es = map (λ e. (e.0, bare_move e.1)) es

  abbrev pub bare_trace : {S : Type 0} → Trace (Valued T) S → Trace Made S
  bare_trace t = record { word = t.word; marker = record {}; name = t.name; entries = bare t.entries }

  abbrev pub bare_watch : Watch (Valued T) → Watch Made
  bare_watch w = record { marker = record {}; name = w.name; entries = bare w.entries }

  -- the value, if any, that a move writes
  abbrev pub value_of : Move (OnceCall (Unit {0})) T → List T
  value_of (Write v) = v ∷ []
  value_of _ = []

  -- the values that these entries write
  abbrev pub values : List (Valued T) → List T
  values es = flat_map (λ e. value_of e.1) es

  -- the values that the party with this number writes by these entries
  abbrev pub values_by : ℕ → List (Valued T) → List T
  values_by p es = values (entries_by p es)

  -- Which values a history may have if the word is `n`. There is none unless the word is 2 (complete), and there is never a second one.
  abbrev pub AtMostOne : ℕ → List T → Type 0
  AtMostOne n vs = (n ≢ 2 → vs ≡ []) × (length vs ≤ 1)

-- whether a party with this use uses the content at all
abbrev pub uses : Use → Bool
uses off = false
uses _ = true

-- the content of the cell
abbrev pub Content : Type 0 → Type 0 → Type 0
Content T S = MaybeStable (Stage T S)

module _ {T S : Type 0} where
  -- the value, if any, that lies in the cell
  abbrev pub lies_in : Stage T S → List T
  lies_in (Done v) = v ∷ []
  lies_in _ = []

  -- the value, if any, that is this content
  abbrev pub value_in : Stage T S → Option T
  value_in (Done v) = Some v
  value_in _ = None

  -- whether this content, with which the cell opened, is a value
  abbrev pub given_of : Stage T S → Option (Unit {0})
  given_of (Done v) = Some tt
  given_of _ = None

  -- the values of a cell: the one with which it opened, if any, and those that this history writes
  abbrev pub made : Stage T S → List (Valued T) → List T
  made first es = lies_in first ++ values es

  -- the lock opens with these values, at most one, and its history tells the value that it has
  abbrev pub OpensWithValues : List T → Key T S → Type 0
  OpensWithValues vs key = (lies_in key.opening.value ≡ vs) × (key.opening.told ≡ true)

  -- A value that lies in the cell is the only one of these values. Nothing is said once the owner has borrowed the value (`told` is false).
  abbrev pub IsMade : Bool → List T → Stage T S → Type 0
  IsMade told vs (Done v) = told ≡ true → vs ≡ v ∷ []
  IsMade told vs _ = Unit {0}

  -- The value `v` is the only one of a cell with this opening and this history. This holds until the owner borrows the value.
  abbrev pub IsValue : Opening (Stage T S) → List (Valued T) → T → Type 0
  IsValue opening es v = opening.told ≡ true → made opening.value es ≡ v ∷ []

  -- A party that uses the content sees it. If it sees a value, this value is the only one of the cell.
  abbrev pub Sees : Opening (Stage T S) → List (Valued T) → Use → Option (MaybeStable (Stage T S)) → Type 0
  Sees opening es u shown = uses u ≡ true → (is_some shown ≡ true) × ((v : T) → shown ≡ Some (maybe_stable (Done v)) → IsValue opening es v)

  -- the key of the cell once its owner has borrowed the value
  abbrev pub lent_key : Key T S → Key T S
  lent_key key = record { seed = key.seed; opening = untold key.opening }
