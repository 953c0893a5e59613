-- What a `Once` is: its first state, what each of its calls promises, and which value the closure of a call makes. The
-- promise of a call also says what its party holds when the call begins.
use Rattle.spin_step.specs.declared.place.Hold.{Hold}
use Rattle.std.specs.Prelude.{◌≡◌, ℕ, true, Option, Some, None, [], ◌∷◌}
use Rattle.spin_step.specs.Plain.{nothing, complete}
use Rattle.spin_step.specs.declared.answer.Answer.{Answer}
use Rattle.spin_step.specs.declared.once_calls.OnceCall.{OnceCall}
use Rattle.spin_step.specs.declared.once_calls.OnceCall.TheVariants.{CallOnce, TryCallOnceOk, TryCallOnceErr, InitFromRef, Wait, Poll, Get, IsCompleted}
use Rattle.spin_step.specs.Calls.{Asked, says_of}
use Rattle.spin_step.specs.Asks.{fails_to_initialize, initializes, looks_complete, looks_for_value, polls, waits_for_value}
use Rattle.spin_step.specs.OnceKind.{once}
use Rattle.spin_step.specs.Machines.{opening_plain}
use Rattle.spin_step.specs.Acts.{gives_of}
use Rattle.spin_world_core.specs.Kinds.{IsLock, BeginAt}
use Rattle.spin_step.specs.OnceCalls.{OnceMachine}

-- the call promises this, and its closure makes this value, if any
abbrev pub Takes : {V : Type 0} → OnceMachine V → OnceCall V → Asked → Option V → Type 0
Takes m c what value = (h : Option Hold) → (m.asks c h ≡ what) × (m.brings c ≡ value)

-- `m` is the machine of a `Once` that opens with the value `given`, or opens empty
pub record IsOnceMachine {V : Type 0} (given : Option V) (m : OnceMachine V) : Type 0 where
  pub is_lock : IsLock once (elim given [ None ↦ 0 | Some v ↦ 2 ]) (λ w. w ∷ []) given true m
  pub open is_lock use *
  pub phase : (opening_plain m).phase ≡ elim given [ None ↦ nothing | Some v ↦ complete ]
  -- no party may hold a `Once`
  pub cap : m.cap ≡ 0
  pub call_once : (v : V) → Takes m (CallOnce v) initializes (Some v)
  pub try_call_once_ok : (v : V) → Takes m (TryCallOnceOk v) initializes (Some v)
  pub try_call_once_err : Takes m TryCallOnceErr fails_to_initialize None
  pub init_from_ref : (v : V) → Takes m (InitFromRef v) initializes (Some v)
  pub wait : Takes m Wait waits_for_value None
  pub poll : Takes m Poll polls None
  pub get : Takes m Get looks_for_value None
  pub is_completed : Takes m IsCompleted looks_complete None
  -- only the answer `Value` gives a value
  pub gives : (a : Answer V) → m.gives a ≡ gives_of a
  pub closures : (v : V) → BeginAt m ((CallOnce v, None) ∷ (TryCallOnceOk v, None) ∷ (TryCallOnceErr, None) ∷ (InitFromRef v, None) ∷ [])
  pub calls : BeginAt m ((Wait, None) ∷ (Poll, None) ∷ (Get, None) ∷ (IsCompleted, None) ∷ [])
