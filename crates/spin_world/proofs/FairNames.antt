-- The names that these proofs share, in one place.
pub use Rattle.std.proofs.Common.{◌≡◌, ◌↔◌, ℕ, ◌==◌, Bool, true, false, ◌&&◌, ◌||◌, Option, Some, None, List, [], ◌∷◌, length, if◌then◌else◌, refl, ap, sym, ◌∙◌, arith, ◌%◌, ◌≤◌, not, ◌++◌, nat_lt, length-append, ◌+◌, ◌⊎◌, inl, inr, ⊎_elim, ◌<◌, ◌-◌, is_some}
pub use Rattle.std.proofs.lemmas.Bool.{and_parts, false≢true, eq-eqb, and_from, eqb-true, ne_eqb}
pub use Rattle.std.proofs.Math.Bool.{or-true}
pub use Rattle.spin_step.specs.Plain.{Plain, Kind, writing, Holder, to_lock_unregistered, to_lock_starving, to_lock_starving_alone, to_starve, Change, gets, releases, stops_starving, is_empty, is_holder, is_starver, without_holder, fair_word, holder, apply, is_open, is_open_to}
pub use Rattle.spin_step.specs.Parties.{apply_some, IsOpenStep, Entries, entries, is_held}
pub use Rattle.spin_step.proofs.Exclusive.{empty_is}
pub use Rattle.spin_step.specs.Calls.{AnyOf, BelongsTo, Mark, Registers, TriesToStarve, first_word, granted}
pub use Rattle.spin_step_more.specs.FairKind.{fair}
pub use Rattle.spin_world.specs.Fairness.{IsFree, IsGrantedNext, SetsAClearFlag, GoesForAClearFlag}
pub use Rattle.std.specs.Prelude.{min}
pub use Rattle.spin_step_more.specs.Starvers.{most_starvers, is_held_word, lock, starve, lock_fair}
pub use Rattle.spin_step.specs.Parties.{OneHolds}
pub use Rattle.spin_step.proofs.Holders.{is_empty-none, length-without_holder, is_holder-from_entries, is_holder-own}
pub use Rattle.spin_step.proofs.Starvers.{is_starver-from_entries, length-without_starver}
pub use Rattle.spin_step_more.proofs.FairSteps.{flag_is, fair_lock-grants, fair_starve-grants, fair_lock_fair-grants, fair_lock_starved-grants, fair_unstarve-gives, fair_unlock-gives, fair_is_locked-tells}
pub use Rattle.spin_world_core.proofs.Stands.{holds, starves, holds_and_starves, entries_at}
pub use Rattle.spin_step.specs.declared.place.Hold.{Hold}
pub use Rattle.spin_step.specs.declared.place.Hold.TheVariants.{Starver, Write}
pub use Rattle.spin_step.specs.declared.stepped.Next.TheVariants.{Continue}
pub use Rattle.spin_step.specs.declared.answer.Answer.{Answer}
pub use Rattle.spin_world_core.specs.Runs.{opening, mark_of, own_count, changes, RegistersInTime, own, held_looks, IsLateLook}
pub use Rattle.spin_step.specs.Acts.{tried}
pub use Rattle.spin_world_core.proofs.Shapes.{row_of, Notes, Means, OwesAll, SoonAll, Pays}
pub use Rattle.spin_step_more.specs.declared.fair_calls.FairCall.{FairCall}
pub use Rattle.spin_step_more.specs.declared.fair_calls.FairCall.TheVariants.{Lock, TryLock, TryLockStarver, IsLocked, Starve, StarverTryLockFair, StarverTryLock, StarverLock, StarverDrop, Release}
pub use Rattle.spin_step_more.specs.declared.fair_calls.FairPoint.{FairPoint}
pub use Rattle.spin_step_more.specs.declared.fair_calls.FairPoint.TheVariants.{First, SetFlag, Await, Unregister, Attempt, Look, Load, Register}
pub use Rattle.spin_step_more.specs.FairCalls.{asks_of, fair_table, fair_machine}
pub use Rattle.spin_step.specs.Steps.{bit}
pub use Rattle.spin_step.specs.StepKinds.{StepKind, plain, again, look, weak, is_look}
pub use Rattle.spin_world_core.proofs.Rows.{Row, Point, nowhere, looked, onward, moved}
