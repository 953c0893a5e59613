-- The turn in which a pass enters a ticket mutex.
use Rattle.std.specs.Prelude.{◌≡◌, ℕ, ◌+◌, Option, Some, List, ◌++◌, slice_get}
use mathlib.Core.List.{IsPrefix}
use Rattle.spin_core.specs.Own.{Numbered}
use Rattle.spin_step.specs.declared.place.Hold.TheVariants.{Ticket}
use Rattle.spin_step.specs.declared.place.Seat.TheVariants.{Holding}
use Rattle.spin_step.specs.Schedules.{after, at_first}
use Rattle.spin_core.specs.declared.tie.Opening.{Opening}
use Rattle.spin_mutex.specs.Queue.{Made, model}
use Rattle.spin_world_core.specs.Runs.{opening}
use Rattle.spin_world_core.specs.Users.{seen_after}
use Rattle.spin_world.specs.TicketOrder.{tickets_gone}
use Rattle.spin_laws.specs.Moments.{OfPass}

-- A party knew the history `old`. After that it has entered with a ticket. Now it knows the history `new` and has
-- this view. Take any moment before it entered. From that moment until it entered, t - s tickets left the queue. Here
-- t is the number of its ticket, and s is the number served at that moment.
pub record EntersInTurn {X T : Type 0} (key : Opening T) (view : Option (Numbered X)) (old new : List (Made T)) : Type 0 where
  pub pass : OfPass (model key) view new
  -- a history, between `old` and `new`, after which the party holds with its ticket
  pub entered : List (Made T)
  pub behind : IsPrefix old entered
  pub before : IsPrefix entered new
  pub number : ℕ
  pub holds : slice_get (after (model key) (at_first (model key) pass.parties) entered).seats pass.party ≡ Some (Holding (Ticket number))
  pub turn : (past further : List (Made T)) → entered ≡ past ++ further
      → (after (model key) (at_first (model key) pass.parties) past).words.serving + tickets_gone (model key) (seen_after (model key) (opening (model key) pass.parties) past) further ≡ number
