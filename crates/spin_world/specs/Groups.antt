-- What users of a barrier may rely on: exactly the last arrival of each group leads, and a follower leaves once its
-- group is full, as far as its generation tells.
use Rattle.spin_world_core.specs.Users.{IsCalling}
use Rattle.spin_world_core.specs.Runs.{state_at}
use Rattle.spin_world_core.specs.Users.{seen_at}
use Rattle.std.specs.Prelude.{◌≡◌, ℕ, ◌+◌, ◌/◌, ◌%◌, ◌^◌, ◌↔◌, Bool, true, Option, None, List, [], ◌∷◌, max}
use Rattle.spin_step.specs.Plain.{arrives}
use Rattle.spin_step.specs.Barriers.{may_leave_at}
use Rattle.spin_step.specs.Asks.{is_arrival}
use Rattle.spin_step.specs.declared.answer.Answer.TheVariants.{Leader, Follower}
use Rattle.spin_step.specs.declared.place.Hold.{Hold}
use Rattle.spin_step.specs.declared.schedule.Move.{Move}
use Rattle.spin_step.specs.declared.schedule.Move.TheVariants.{Step}
use Rattle.spin_step.specs.declared.schedule.Outcome.TheVariants.{Answered}
use Rattle.spin_world.specs.declared.barrier.BarrierCall.{BarrierCall}
use Rattle.spin_world.specs.declared.barrier.BarrierPoint.{BarrierPoint}
use Rattle.spin_world_core.specs.Runs.{scene, opening, own}
use Rattle.spin_world_core.specs.Undisturbed.{arrivals_after}
use Rattle.spin_world_core.specs.Users.{outcome_after, passes, steps_made}
use Rattle.spin_world.specs.BarrierTable.{BarrierMachine}

abbrev pub BarrierSchedule : Type 0
BarrierSchedule = List (ℕ × Move BarrierCall ℕ)

-- how many arrivals a schedule makes
abbrev pub arrivals : BarrierMachine → ℕ → BarrierSchedule → ℕ
arrivals m parties past = steps_made is_arrival m (opening m parties) past

-- the party's next step is an arrival
abbrev pub arrives_next : BarrierMachine → ℕ → BarrierSchedule → ℕ → Bool
arrives_next m parties past p = passes is_arrival (scene m (seen_at m parties past) p Step).change

-- After the schedule `past` of a barrier with groups of n: the count is the number of arrivals in the present group, and
-- the generation is the number of full groups, modulo 2^64. A step answers `Leader` exactly if it is the last arrival of
-- a group.
pub record InGroups (m : BarrierMachine) (n parties : ℕ) (past : BarrierSchedule) : Type 0 where
  pub count : (state_at m parties past).words.count ≡ arrivals m parties past % max n 1
  pub generation : (state_at m parties past).words.generation ≡ (arrivals m parties past / max n 1) % 2 ^ 64
  pub leads_group : (p : ℕ) → (outcome_after m parties past p Step ≡ Answered Leader None) ↔ ((arrives_next m parties past p ≡ true) × ((arrivals m parties past + 1) % max n 1 ≡ 0))

-- The next step of a party that has arrived answers `Follower` exactly if the party's group is full, as far as its generation tells.
abbrev pub FollowersLeave : BarrierMachine → ℕ → BarrierSchedule → Type 0
FollowersLeave m parties past = let seen = seen_at m parties past in
    (p : ℕ) (c : BarrierCall) (l : BarrierPoint) (h : Option Hold) → IsCalling m parties past p c l h → own p (seen.span p) ≡ arrives p ∷ []
    → (outcome_after m parties past p Step ≡ Answered Follower None) ↔ (may_leave_at seen.plain (arrivals_after p (seen.span p)) ≡ true)
