-- The kind of a step of a call.
use Rattle.std.specs.Prelude.{Bool, true, false}

pub data StepKind : Type 0 where
  plain : StepKind  -- a step of no other kind
  again : StepKind  -- an exchange of the shape `retry` (`Act`), which the call may repeat if it fails
  look : StepKind  -- a load of the shape `load_if` or `enter` (`Act`), in a call that may wait
  weak : StepKind  -- a weak exchange that fails, whatever the word is; only the move `Weak` makes it

abbrev pub is_again : StepKind → Bool
is_again step_kind = elim step_kind [ again ↦ true | _ ↦ false ]

abbrev pub is_look : StepKind → Bool
is_look step_kind = elim step_kind [ look ↦ true | _ ↦ false ]

abbrev pub is_weak : StepKind → Bool
is_weak step_kind = elim step_kind [ weak ↦ true | _ ↦ false ]

-- the kind of a step that the move `Step` makes; such a step never fails spuriously
abbrev pub by_step : StepKind → StepKind
by_step step_kind = elim step_kind [ weak ↦ plain | other ↦ other ]
