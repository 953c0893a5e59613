-- Proofs of what users of a barrier may rely on.
use Rattle.spin_world_core.proofs.Every.{outcome-seen_at}
use Rattle.spin_world_core.proofs.Every.{state-seen_at}
use Rattle.spin_world.proofs.BarrierNames.{◌≡◌, ℕ, ◌+◌, ◌%◌, ◌==◌, ◌↔◌, true, Option, Some, None, ◌∷◌, slice_get, arith, max, arrives, may_leave_at, barrier_arrive-words, barrier_may_leave-tells, Leader, Follower, Hold, BarrierWords, BarrierCall, BarrierPoint, Seen, scene, plain_change_at, opening, own, arrivals_after, seen_after, passes, steps_made, BarrierMachine, leads_group, barrier_machine, is_arrival, BarrierSchedule, seen_at, arrivals, InGroups, FollowersLeave, []}
use Rattle.spin_step.specs.declared.place.Seat.{Seat}
use Rattle.spin_step.specs.declared.place.Seat.TheVariants.{Calling}
use Rattle.spin_step.specs.declared.schedule.Move.TheVariants.{Step}
use Rattle.spin_step.specs.declared.schedule.Outcome.TheVariants.{Answered}
use Rattle.spin_step.specs.Schedules.{State, happens, moves_at}
use Rattle.spin_world_core.proofs.Steps.{Plays}
use Rattle.spin_world_core.proofs.Reached.{good}
use Rattle.spin_world_core.proofs.Preserved.{Invariant, in_call}
use Rattle.spin_world_core.proofs.Every.{kept, good_first}
use Rattle.spin_world.proofs.BarrierOwed.{barrier_notes, barrier_facts, is_barrier, one_more}

module _ (n : ℕ) where
  abbrev m : BarrierMachine
  m = barrier_machine n

  abbrev f : Plays m (barrier_notes n)
  f = barrier_facts n

  counted : (seen : Seen BarrierWords ℕ BarrierCall BarrierPoint) (es : BarrierSchedule) → Invariant f seen
      → (seen_after m seen es).plain.arrivals ≡ seen.plain.arrivals + steps_made is_arrival m seen es
  counted seen [] good = omega arith
  counted seen (e ∷ es) good = grind (arith, kept, one_more, counted (scene m seen e.0 e.1).after es (kept f seen e.0 e.1 good).good)

  -- The party has any seat o. `last` is the place that the next arrival gets in its group, or 0 if this arrival fills
  -- the group.
  leads_at : (s : State BarrierWords ℕ BarrierCall BarrierPoint) (p last : ℕ) (o : Option (Seat BarrierCall BarrierPoint)) → leads_group n s.words ≡ (last == 0)
      → ((moves_at m s p Step o).outcome ≡ Answered Leader None) ↔ ((passes is_arrival (plain_change_at m s p Step o) ≡ true) × (last ≡ 0))
  leads_at s p last o leading = grind arith

  pub in_groups : (parties : ℕ) (past : BarrierSchedule) → InGroups m n parties past
  in_groups parties past = let here = good f parties past in let seen = seen_at m parties past in
      let state = state-seen_at m parties past in
      let is = is_barrier n seen.plain seen.state.words here.encodes here.shape in
      let many : seen.plain.arrivals ≡ arrivals m parties past = omega (arith, counted (opening m parties) past (good_first f parties)) in
      let leading : leads_group n seen.state.words ≡ (((arrivals m parties past + 1) % max n 1) == 0) =
      grind (arith, (barrier_arrive-words seen.plain n _ _ is).leads, is.group, many) in
      record {
        count = grind (arith, state, is.counts, is.group, many);
        generation = grind (arith, state, is.generations, is.group, many);
        leads_group = λ p. rw (← outcome-seen_at m parties past p Step) (leads_at seen.state p ((arrivals m parties past + 1) % max n 1) _ leading);
      }

  -- a party that has arrived sees by the generation whether its group is full
  leaves_at : (seen : Seen BarrierWords ℕ BarrierCall BarrierPoint) (p : ℕ) (c : BarrierCall) (l : BarrierPoint) (h : Option Hold)
      → Invariant f seen → slice_get seen.state.seats p ≡ Some (Calling c l h) → own p (seen.span p) ≡ arrives p ∷ []
      → ((happens m seen.state p Step).outcome ≡ Answered Follower None) ↔ (may_leave_at seen.plain (arrivals_after p (seen.span p)) ≡ true)
  leaves_at seen p c l h good there has = grind (arith, is_barrier, barrier_may_leave-tells, in_call)

  pub followers_leave : (parties : ℕ) (past : BarrierSchedule) → FollowersLeave m parties past
  followers_leave parties past = λ p c l h there has. let state = state-seen_at m parties past in
      rw (← outcome-seen_at m parties past p Step) (leaves_at (seen_at m parties past) p c l h (good f parties past) (rw (← state) at there) has)
