-- The names of the libraries and of this crate's definitions that the proofs use, in one place.
pub use Rattle.std.proofs.Common.{Bool, List, None, Option, Some, Vec, [], ap, append_assoc, arith, drop, false, get_or, if◌then◌else◌, inl, inr, is_some, length, length-set, length-take-le, map, nat_lt, not, option_to_list, refl, slice_get, slice_set, subst, suc, sym, take, true, unwrap_or, zero, zero-add, ℕ, ⊎_elim, ◌&&◌, ◌++◌, ◌+◌, ◌<◌, ◌==◌, ◌||◌, ◌∙◌, ◌∷◌, ◌≡◌, ◌≤◌, ◌⊎◌}
pub use Rattle.std.proofs.Math.Logic.{∥∥₁_elim, ∥∥₁_map}
pub use Rattle.std.proofs.lemmas.Bool.{and_from, and_parts, cases_eq, cases_lt, eq-eqb, eqb-true, false≢true, lt-ltb, ne_eqb, true≢false}
pub use Rattle.std.proofs.lemmas.List.{append-nil, length-append, length-map, length-replicate, take-append-drop, take_all, with_items_is}
pub use Rattle.std.proofs.lemmas.List.Sums.{sum_by-cons}
pub use Rattle.std.proofs.lemmas.Option.{slice_get-map, slice_get_cases, slice_get_past, slice_get_within}
pub use Rattle.std.specs.List.{count_by, list_all, list_any}
pub use Rattle.std.specs.Option.{option_map}
pub use Rattle.spin_step.proofs.Entries.{entries-other, entries-own}
pub use Rattle.spin_step.specs.Parties.{Entries, IsExclusive, IsOpenStep, apply_some, entries, entries_after, is_held}
pub use Rattle.spin_step.specs.Plain.{Ask, Change, Holder, Phase, Plain, apply, completes, gets, is_complete, is_empty, is_open, is_open_to, is_running, nothing, running, to_enter, to_lock_starving, to_read, turns, upgradable, writing}
pub use Rattle.spin_step.specs.Steps.{bit}
pub use Rattle.spin_step.specs.Acts.{Act, Memory, Table, attempt, becomes, begin_of, can_by, change_at, change_by, completes_by, either, enter, exchange, filled, guessed, is_section, load, load_for, load_if, look_kind, machine_by, machine_of, machine_with, makes_by, step_kind_by, word_number, one_number, operation_by, passing, place_of, refusal_by, retried, retry, section, stays, step_by, store, swap, tried, weak_exchange}
pub use Rattle.spin_step.specs.Calls.{AnyOf, limit, Asked, BelongsTo, Limit, LockKind, Mark, Said, encoded, first_word, is_step_of, own_steps, registers_after, says_of}
pub use Rattle.spin_world_core.specs.Joined.{joined}
pub use Rattle.spin_world_core.specs.Lawful.{Lawful}
pub use Rattle.spin_step.specs.Machines.{Machine, opening_plain}
pub use Rattle.spin_step.specs.StepKinds.{StepKind, again, by_step, is_again, is_look, is_weak, look, plain, weak}
pub use Rattle.spin_step.specs.Operations.{IsOneOperation, Performs, RefusesAsLost, Stepwise, performed}
pub use Rattle.spin_world_core.specs.Order.{GetsByWay, GetsWhenDue, LooksElse, MayTryOn, TriesOn, TryingWay, by_looks, is_due, is_due_by, past_looks, way_of, goes_of, tries_of}
pub use Rattle.spin_world_core.specs.Runs.{AfterAnyPast, CanAlways, CanStep, ComesTo, CountsAll, EndsWithin, Every, ContinuesWithin, IsBeginning, IsInTime, IsOwners, IsReached, IsRight, KeepsPromises, KeepsAll, MaySkip, MomentsAll, RightBy, Scene, Seen, StandsFor, YieldsToOwner, changes, entries_held, entries_of, failures, if_completed, is_open_move, reads_value, writes_value, mark_of, opening, own, own_count, scene, scene_at, scene_of, seat_of}
pub use Rattle.spin_step.specs.Schedules.{Happened, State, after, at_first, begun, events_of, goes_on, happens, is_begun, is_owners, last_begin, let_go, may_read, may_write, moves_at, owner_gets, owner_sets, owner_writes, skipped, placed, read_by, refuses, resting, seated, seen_by_owner, with_begins, written_by, yields_to_owner}
pub use Rattle.spin_world_core.specs.Transcripts.{EachTells, TellsAfterAnyPast, scenes}
pub use Rattle.spin_world_core.specs.Undisturbed.{AllOf, AnsweredSoon, LeavesAlone, arrivals_after, is_open_now, steps_alone, UndisturbedTakes}
pub use Rattle.spin_world_core.specs.Users.{FindsLastWritten, RunsJoin, seen_after}
pub use Rattle.spin_world_core.specs.Values.{Brings, GivesIfSaid, GivesAt, HasPhase, KeepsValue, ValuesAll}
pub use Rattle.spin_step.specs.declared.answer.Answer.{Answer}
pub use Rattle.spin_step.specs.declared.stepped.Next.{Next}
pub use Rattle.spin_step.specs.declared.stepped.Next.TheVariants.{Answers, Continue}
pub use Rattle.spin_step.specs.declared.stepped.Stepped.{Stepped}
pub use Rattle.spin_step.specs.declared.place.Hold.{Hold}
pub use Rattle.spin_step.specs.declared.place.Seat.{Seat}
pub use Rattle.spin_step.specs.declared.place.Seat.TheVariants.{Calling, Gone, Holding, Idle, Leaked}
pub use Rattle.spin_step.specs.declared.schedule.Event.{Event}
pub use Rattle.spin_step.specs.declared.schedule.Move.{Move}
pub use Rattle.spin_step.specs.declared.schedule.Move.TheVariants.{Begin, Leak, OwnerGet, OwnerSet, Read, Step, Weak, Write}
pub use Rattle.spin_step.specs.declared.schedule.Outcome.{Outcome}
