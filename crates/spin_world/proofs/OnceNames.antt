-- The names that these proofs share, in one place.
pub use Rattle.std.proofs.Common.{◌≡◌, ℕ, ◌==◌, true, false, Option, Some, None, List, [], ◌∷◌, ◌++◌, slice_get, refl, ap, ◌∙◌, subst, ◌⊎◌, is_some, sym, arith}
pub use Rattle.std.proofs.lemmas.Bool.{and_parts}
pub use Rattle.spin_step.specs.declared.answer.Answer.{Answer}
pub use Rattle.spin_step.specs.declared.answer.Answer.TheVariants.{Value}
pub use Rattle.spin_step.specs.declared.place.Hold.{Hold}
pub use Rattle.spin_step.specs.declared.place.Seat.TheVariants.{Calling}
pub use Rattle.spin_step.specs.declared.schedule.Move.TheVariants.{Step}
pub use Rattle.spin_step.specs.Plain.{Plain, to_begin, gets, running, Change, completes, once_word, fails}
pub use Rattle.spin_world_core.specs.Runs.{Seen, state_at, plain_change_at, scene, opening, last_written, placed_at, MayTouch}
pub use Rattle.spin_step.specs.Calls.{Mark, Said, failed, gives_value}
pub use Rattle.spin_step.specs.Schedules.{happens, after, at_first, State}
pub use Rattle.spin_step.specs.declared.once_calls.OnceCall.{OnceCall}
pub use Rattle.spin_step.specs.declared.once_calls.OnceCall.TheVariants.{CallOnce, TryCallOnceOk, TryCallOnceErr, InitFromRef, Wait, Poll, Get, IsCompleted}
pub use Rattle.spin_step.specs.declared.once_calls.OncePoint.{OncePoint}
pub use Rattle.spin_step.specs.declared.once_calls.OncePoint.TheVariants.{Look, TryBegin, Await, Run}
pub use Rattle.spin_step.specs.OnceCalls.{runs, asks_of, brings_of, OnceMachine, once_machine, once_table}
pub use Rattle.spin_world_core.specs.Users.{seen_at}
pub use Rattle.spin_world.specs.OnceClosures.{OnceSchedule, RunsClosure, has_just_looked, has_closure, MayRunAgain, LooksFirst, keeps_value, is_shared, ValueStays, OneRuns, wants_value, AnswersAtOnce, GetAgrees, LooksWhereComplete}
pub use Rattle.spin_step.proofs.Schedules.{after-append}
pub use Rattle.spin_world_core.proofs.Preserved.{Invariant, in_call}
pub use Rattle.spin_step.specs.Parties.{IsOpenStep}
pub use Rattle.spin_step.proofs.Onces.{runs-others}
pub use Rattle.spin_world_core.proofs.Steps.{Plays}
pub use Rattle.spin_world_core.proofs.Shapes.{InCall}
pub use Rattle.spin_world_core.proofs.Rows.{Point, nowhere, looked, onward}
pub use Rattle.spin_world_core.proofs.Shapes.{Notes}
