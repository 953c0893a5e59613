-- An object as the world sees it: where its calls begin, what their steps do, and what calls and steps are in the plain lock.
use Rattle.std.specs.Prelude.{ℕ, Bool, List, Option, is_some, ◌&&◌, if◌then◌else◌}
use Rattle.spin_step.specs.Plain.{Plain, nothing, complete, Change, fresh}
use Rattle.spin_step.specs.declared.place.Hold.{Hold}
use Rattle.spin_step.specs.declared.stepped.Next.{Next}
use Rattle.spin_step.specs.declared.stepped.Stepped.{Stepped}
use Rattle.spin_step.specs.StepKinds.{StepKind}
use Rattle.spin_step.specs.Calls.{Asked, LockKind, Said}

-- The parameters are the types of its words, its value, its calls, their points, and their answers.
pub record Machine (W V C L A : Type 0) : Type 0 where
  -- the steps
  pub words : W  -- the words before any step
  pub value : Option V  -- the value before any step
  pub owned : Bool  -- an owner may use the value
  pub begin : C → Option Hold → Option L  -- the point at which a call begins, if a party that holds this may begin it
  pub refuse : C → L → Option Hold → Option (Next L A)  -- how the call goes on after a spurious failure, if its next step is a weak exchange
  pub can : W → C → L → Option Hold → Bool  -- the next step is possible
  pub step : W → Option V → C → L → Option Hold → Stepped W V L A
  -- what calls and steps are in the plain lock
  pub lock_kind : LockKind
  pub cap : ℕ
  pub group : ℕ
  pub first : ℕ
  pub numbers : W → List ℕ
  pub asks : C → Option Hold → Asked
  pub says : A → Said
  pub change : ℕ → W → C → L → Option Hold → Option Change  -- the plain step that the next step of this party makes
  pub step_kind : C → L → Option Hold → StepKind  -- the kind of the next step
  pub brings : C → Option V  -- the value that the call's own closure gives
  pub gives : A → Option V  -- the value that an answer gives

-- The plain lock before any step. Where closures make the value, a lock that opens with a value has the phase `complete`.
abbrev pub opening_plain : {W V C L A : Type 0} → Machine W V C L A → Plain
opening_plain m = record (fresh m.cap m.group m.first) {
  phase = if m.lock_kind.makes_value && is_some m.value then complete else nothing;
}
