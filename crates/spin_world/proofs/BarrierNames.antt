-- The names that these proofs share, in one place.
pub use Rattle.std.proofs.Common.{◌≡◌, ℕ, ◌+◌, ◌/◌, ◌%◌, ◌^◌, ◌==◌, ◌↔◌, true, false, Option, Some, None, [], ◌∷◌, slice_get, refl, ap, sym, ◌∙◌, arith, ◌≤◌, ◌&&◌, is_some, List, subst, inr}
pub use Rattle.std.specs.Prelude.{max}
pub use Rattle.spin_step.specs.Plain.{arrives, Plain, Change, apply, count_word, generation_word}
pub use Rattle.spin_step.specs.Barriers.{may_leave_at, IsBarrier, is_leading, generation_at}
pub use Rattle.spin_step_more.proofs.Barriers.{barrier_arrive-words, barrier_may_leave-tells, barrier_count-below, barrier_may_leave-full}
pub use Rattle.spin_step.specs.declared.answer.Answer.TheVariants.{Leader, Follower}
pub use Rattle.spin_step.specs.declared.place.Hold.{Hold}
pub use Rattle.spin_world.specs.declared.barrier.BarrierWords.{BarrierWords}
pub use Rattle.spin_world.specs.declared.barrier.BarrierCall.{BarrierCall}
pub use Rattle.spin_world.specs.declared.barrier.BarrierPoint.{BarrierPoint}
pub use Rattle.spin_world.specs.declared.barrier.BarrierPoint.TheVariants.{Arrive, Leave}
pub use Rattle.spin_world_core.specs.Runs.{Seen, scene, plain_change_at, opening, own, mark_of}
pub use Rattle.spin_world_core.specs.Undisturbed.{arrivals_after}
pub use Rattle.spin_world_core.specs.Users.{seen_at, seen_after, passes, steps_made}
pub use Rattle.spin_world.specs.BarrierTable.{BarrierMachine, leads_group, barrier_machine, barrier_table}
pub use Rattle.spin_step.specs.Asks.{is_arrival}
pub use Rattle.spin_world.specs.Groups.{BarrierSchedule, arrivals, InGroups, FollowersLeave}
