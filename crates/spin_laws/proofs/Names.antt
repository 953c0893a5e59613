-- The names of the libraries and of the definitions that the proofs use, in one place.
pub use Rattle.spin_world_core.proofs.Names.{Answer, Answers, Ask, Begin, BelongsTo, Bool, Calling, Change, Continue, Gone, Hold, Holder, Holding, Idle, IsExclusive, IsOpenStep, Leaked, List, Machine, Mark, Move, Next, None, Option, Outcome, Phase, Plain, Scene, Seat, Seen, Some, StandsFor, State, Step, Table, Weak, [], after, and_parts, ap, apply, apply_some, arith, at_first, cases_eq, cases_lt, entries, entries-other, entries-own, entries_after, entries_held, entries_of, eq-eqb, eqb-true, false, false≢true, gets, goes_on, happens, if◌then◌else◌, inl, inr, is_empty, is_open, is_open_to, is_owners, is_running, joined, length, list_all, lt-ltb, machine_of, may_read, nat_lt, ne_eqb, not, nothing, opening, owner_writes, refl, resting, running, scene, scene_at, seen_after, slice_get, slice_get_past, subst, suc, sum_by-cons, sym, to_read, true, turns, upgradable, writing, zero, ℕ, ⊎_elim, ◌&&◌, ◌++◌, ◌+◌, ◌<◌, ◌==◌, ◌||◌, ◌∙◌, ◌∷◌, ◌≡◌, ◌≤◌, ◌⊎◌, seat_of}
pub use Rattle.spin_world.proofs.RwNames.{Asking, Kind, Notes, RwCall, RwPoint, Upgrade, asking, count_kind, empty_is, holder, is_holder, reader_limit, reading, releases, rw_word, to_read_upgradable, weight, with_kind}
pub use Rattle.spin_world.proofs.TicketNames.{Plays, Take, TicketCall, TicketPoint, TicketWords, effect, filter, ticket_limit, ticket_machine, ◌-◌}
pub use Rattle.spin_world_core.proofs.Reached.{StandsSo, calls, calls_so, good, numbers_are, row_passes, row_tells, seat_is, state_is}
pub use Rattle.spin_step.proofs.Sums.{against, all_kinds, by_kinds, one_of, sum-less, upgrader}
pub use Rattle.spin_step.specs.Plain.{complete, is_starver, once_word, same_kind, without_holder}
pub use Rattle.spin_world.proofs.FairNames.{fair_machine, min, most_starvers}
pub use Rattle.spin_world.proofs.OnceNames.{Invariant, in_call, once_machine, placed_at}
pub use Rattle.spin_world_core.proofs.Every.{good_after, good_first, kept, state-seen_after}
pub use Rattle.spin_world.proofs.RwOwed.{holder_by, rw_facts, rw_notes}
pub use Rattle.spin_seats.specs.Table.{SeatsMachine, seats_machine, seats_table}
pub use Rattle.spin_step.specs.FlagCalls.{flag_machine, flag_table}
pub use Rattle.spin_step_more.specs.RwCalls.{rw_machine, rw_table}
pub use Rattle.spin_world_core.proofs.Events.{of_event, seat_with}
pub use Rattle.spin_world_core.proofs.Lists.{eqb_self, get-set_other}
pub use Rattle.spin_world_core.proofs.Schedules.{length-happens, seen_after-append}
pub use Rattle.std.proofs.Common.{max, ◌*◌}
pub use Rattle.spin_step.proofs.Lists.{get-set_same}
pub use Rattle.spin_step.specs.declared.answer.Answer.TheVariants.{Done}
pub use Rattle.spin_seats.specs.Seats.{seats}
pub use Rattle.spin_step.specs.Parties.{no_entries}
pub use Rattle.spin_world_core.proofs.Shapes.{Knows}
pub use Rattle.std.specs.List.{list_any}
pub use Rattle.spin_laws.specs.Rounds.{AreRounds, AtLast, InRounds, IsFairSchedule, IsRound, IsWaiting, MovesOn, Test, either, grants_party, grants_any, is_awaited, is_call_step, occurs, refuses_weakly, stretch}
pub use Rattle.spin_laws.specs.Rw.{HasAsked, UpgradesInThree, WaitsWithout}
pub use Rattle.spin_step.specs.Schedules.{Entry}
pub use Rattle.spin_laws.specs.Starving.{MayStarve, ends_or_weak}
pub use Rattle.spin_laws.specs.Ticket.{EntersInRounds, LocksInRounds, MayBePassedOver, WaitsWith}
