-- The names that these proofs share, in one place.
pub use Rattle.std.proofs.Common.{◌≡◌, ℕ, ◌+◌, ◌<◌, ◌-◌, ◌≤◌, ◌⊎◌, Bool, true, false, not, Option, Some, None, List, [], ◌∷◌, ◌++◌, refl, ap, sym, ◌∙◌, arith, zero, get_or, ◌==◌, filter, slice_get}
pub use Rattle.spin_step.specs.Plain.{Plain, ticket_limit, to_take_and_enter, Change, is_empty, is_open_to, serving_word, is_first, effect, to_take_ticket, to_enter, gets, serves, next_word, ticket as queued, Ticket as Queued}
pub use Rattle.spin_step.specs.Parties.{apply_some, IsOpenStep, is_held, Entries, entries}
pub use Rattle.spin_step.specs.Tickets.{HasTicketNumbers, take}
pub use Rattle.spin_step.proofs.Tickets.{serving-advances, nobody_stands, somebody_stands, enters_in_turn, numbered-given, numbered-serves, serving-taken, serving-entered, entered_is_served, stands, serving-moves}
pub use Rattle.spin_step.specs.StepKinds.{plain}
pub use Rattle.spin_world_core.specs.Runs.{mark_of, own_count, Seen, scene, opening}
pub use Rattle.spin_step.specs.TicketCalls.{is_left, asks_of, ticket_table, ticket_machine}
pub use Rattle.spin_world_core.proofs.Rows.{any_map, Point, nowhere, looked, onward, any_passes}
pub use Rattle.spin_step.specs.declared.ticket_calls.TicketWords.{TicketWords}
pub use Rattle.spin_step.specs.Steps.{bit}
pub use Rattle.spin_step.specs.declared.answer.Answer.{Answer}
pub use Rattle.spin_step.specs.declared.place.Hold.{Hold}
pub use Rattle.spin_step.specs.declared.ticket_calls.TicketCall.{TicketCall}
pub use Rattle.spin_step.specs.declared.ticket_calls.TicketCall.TheVariants.{Lock, TryLock, IsLocked, Release}
pub use Rattle.spin_step.specs.declared.ticket_calls.TicketPoint.{TicketPoint}
pub use Rattle.spin_step.specs.declared.ticket_calls.TicketPoint.TheVariants.{LoadNext, Take, Await, TryLoadNext, TryLoadServing, TryTake, LookServing, LookNext, Serve}
pub use Rattle.spin_step.specs.Acts.{passing}
pub use Rattle.spin_world_core.proofs.Steps.{Plays}
pub use Rattle.spin_world_core.proofs.Stands.{queues, entries_at}
pub use Rattle.spin_world_core.proofs.Shapes.{Notes, Means, OwesAll, Pays}
pub use Rattle.spin_step.specs.declared.place.Seat.TheVariants.{Calling, Holding}
pub use Rattle.spin_step.specs.declared.schedule.Move.{Move}
pub use Rattle.spin_step.specs.declared.schedule.Move.TheVariants.{Step}
pub use Rattle.spin_step.specs.declared.schedule.Outcome.TheVariants.{GoingOn}
pub use Rattle.spin_step.specs.Schedules.{State, moves_at, after, at_first}
pub use Rattle.spin_world_core.specs.Users.{seen_after, passes}
pub use Rattle.spin_world.specs.TicketOrder.{serves_one, tickets_gone, TicketsInOrder, InTurn, FoundNext, TriesByTwoLoads}
