-- What a barrier is: its first state, the size of its groups, and what its call promises. The promise of the call also
-- says what its party holds when the call begins.
use Rattle.std.specs.Prelude.{◌≡◌, ℕ, false, Option, None, [], ◌∷◌}
use Rattle.spin_step.specs.declared.place.Hold.{Hold}
use Rattle.spin_step.specs.declared.answer.Answer.{Answer}
use Rattle.spin_world.specs.declared.barrier.BarrierWords.{BarrierWords}
use Rattle.spin_world.specs.declared.barrier.BarrierCall.TheVariants.{Wait}
use Rattle.spin_step.specs.Calls.{says_of}
use Rattle.spin_step.specs.Asks.{meets}
use Rattle.spin_world.specs.BarrierKind.{barrier}
use Rattle.spin_world.specs.BarrierTable.{BarrierMachine}
use Rattle.spin_world_core.specs.Kinds.{IsLock, BeginAt}

-- `m` is the machine of a barrier with groups of n
pub record IsBarrierMachine (n : ℕ) (m : BarrierMachine) : Type 0 where
  -- nobody has arrived, and no group is full yet
  pub is_lock : IsLock barrier (record { count = 0; generation = 0 }) (λ w. w.count ∷ w.generation ∷ []) None false m
  pub open is_lock use *
  pub group : m.group ≡ n
  -- no party may hold a barrier
  pub cap : m.cap ≡ 0
  pub wait : (h : Option Hold) → m.asks Wait h ≡ meets
  pub calls : BeginAt m ((Wait, None) ∷ [])
