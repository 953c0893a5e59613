-- One arrival at a barrier, and one `wait`, as a keeper tells them.
use Rattle.std.specs.Prelude.{◌≡◌, Bool, MatchBool}
use Rattle.spin_step.specs.Barriers.{arrived}
use Rattle.spin_step_more.specs.declared.barrier.State.{State}
use Rattle.spin_barrier.specs.declared.barrier.BarrierWaitResult.{BarrierWaitResult}

-- the thread of this result leads its group
abbrev pub leads_group : BarrierWaitResult → Bool
leads_group result = result.leads

-- the state before and after one arrival, which leads its group or does not
abbrev pub IsArrival : State → Bool → State → Type 0
IsArrival before leads after = (after.n ≡ before.n) × (((after.count, after.generation), leads) ≡ arrived before.n before.count before.generation)

-- A party arrives, which `came` tells. If it leads, it leaves at once. Else it leaves later, which `left` tells.
abbrev pub WaitsForGroup : {Own Seen : Type 0} → (Own → Seen → Bool → Own → Seen → Type 0) → (Seen → Seen → Type 0) → Own → Seen → BarrierWaitResult × Seen → Own → Type 0
WaitsForGroup {Own} {Seen} came left own seen result own' =
    (there : Seen) × (came own seen (leads_group result.0) own' there × MatchBool (leads_group result.0) (result.1 ≡ there) (left there result.1))
